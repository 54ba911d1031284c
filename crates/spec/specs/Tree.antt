-- Expressions, targets and statements: what words mean, one constructor for each kind of meaning, and
-- the words of each.
use Rattle.std.specs.Prelude.{Bool, true, false, List, [], ◌∷◌, ℕ, suc, ◌+◌, ◌-◌, ◌*◌, ◌/◌, length}
use Rattle.spec.specs.Rose.{Rose, Roses, node, nil, cons}
use Rattle.spec.specs.Grammar.{header}
use Rattle.spec.specs.declared.Sort.TheVariants as sort

-- the seven classes of a constant; an other's number, type text, truth and whether it is marked empty
pub data Const : Type 0 where
  none : Const
  boolean : Bool → Const
  int : ℕ → Const
  string : ℕ → Const
  type_function len_function : Const
  other : ℕ → ℕ → Bool → Bool → Const

-- what is read, with its slot or number
pub data Place : Type 0 where
  local captured module' def : ℕ → Place

pub data Fresh : Type 0 where
  tuple list : Fresh

pub data Logic : Type 0 where
  and or : Logic

-- what is assigned, with its slot; a module's has a text
pub data Slot : Type 0 where
  local_slot captured_slot : ℕ → Slot
  module_slot : ℕ → ℕ → Slot

mutual
  pub data Expr : Type 0 where
    const : Const → Expr
    read : Place → Expr
    -- Tuple and List
    fresh : Fresh → Exprs → Expr
    -- keys and values in turn
    dict : Exprs → Expr
    if_then : Expr → Expr → Expr → Expr
    not : Expr → Expr
    type_is : ℕ → Expr → Expr
    logic : Logic → Expr → Expr → Expr
    seq : Expr → Expr → Expr
    -- every other operator, by its header and its payload: Slice, Builtin1 but Not and TypeIs, Builtin2, Index2
    oper : ℕ → List ℕ → Exprs → Expr
    -- names, whether args and kwargs are there, callee, arguments with args and kwargs behind them
    call : List ℕ → Bool → Bool → Expr → Exprs → Expr

  pub data Exprs : Type 0 where
    no_exprs : Exprs
    more_exprs : Expr → Exprs → Exprs

  pub data Target : Type 0 where
    dot : ℕ → Expr → Target
    index : Expr → Expr → Target
    tuple_target : Targets → Target
    slot : Slot → Target

  pub data Targets : Type 0 where
    no_targets : Targets
    more_targets : Target → Targets → Targets

mutual
  pub data Stmt : Type 0 where
    possible_gc break continue : Stmt
    return expr : Expr → Stmt
    -- a type word
    assign : ℕ → Target → Expr → Stmt
    -- which operator
    assign_modify : ℕ → Target → Expr → Stmt
    if_stmt : Expr → Stmts → Stmts → Stmt
    for : Target → Expr → Stmts → Stmt

  pub data Stmts : Type 0 where
    no_stmts : Stmts
    more_stmts : Stmt → Stmts → Stmts

-- ---- words

abbrev pub bit_of : Bool → ℕ
bit_of true = 1
bit_of false = 0

abbrev pub const_words : Const → List ℕ
const_words none = header 1 0 ∷ 0 ∷ []
const_words (boolean b) = header 1 1 ∷ bit_of b ∷ []
const_words (int n) = header 1 2 ∷ n ∷ []
const_words (string t) = header 1 3 ∷ t ∷ []
const_words type_function = header 1 4 ∷ 0 ∷ []
const_words len_function = header 1 5 ∷ 0 ∷ []
const_words (other n t b e) = header 1 6 ∷ n ∷ (t + 65536 * bit_of b + 131072 * bit_of e) ∷ []

abbrev pub place_words : Place → List ℕ
place_words (local n) = 2 ∷ n ∷ []
place_words (captured n) = 3 ∷ n ∷ []
place_words (module' n) = 4 ∷ n ∷ []
place_words (def n) = 5 ∷ n ∷ []

abbrev pub fresh_kind : Fresh → ℕ
fresh_kind tuple = 6
fresh_kind list = 7

abbrev pub logic_detail : Logic → ℕ
logic_detail and = 0
logic_detail or = 1

abbrev pub slot_words : Slot → List ℕ
slot_words (local_slot n) = 67 ∷ n ∷ []
slot_words (captured_slot n) = 68 ∷ n ∷ []
slot_words (module_slot n t) = 69 ∷ n ∷ t ∷ []

-- a call's names word: "names in bits 0 to 15, args 16, kwargs 17"
abbrev pub names_word : List ℕ → Bool → Bool → ℕ
names_word names args kwargs = length names + 65536 * bit_of args + 131072 * bit_of kwargs

abbrev pub count_e : Exprs → ℕ
count_e no_exprs = 0
count_e (more_exprs e es) = suc (count_e es)

abbrev pub count_t : Targets → ℕ
count_t no_targets = 0
count_t (more_targets t ts) = suc (count_t ts)

abbrev pub count_s : Stmts → ℕ
count_s no_stmts = 0
count_s (more_stmts s ss) = suc (count_s ss)

abbrev mutual
  pub rose_e : Expr → Rose
  rose_e (const c) = node sort.Expr (const_words c) nil
  rose_e (read p) = node sort.Expr (place_words p) nil
  rose_e (fresh f es) = node sort.Expr (header (fresh_kind f) (count_e es) ∷ []) (roses_e es)
  rose_e (dict es) = node sort.Expr (header 8 (count_e es / 2) ∷ []) (roses_e es)
  rose_e (if_then c t f) = node sort.Expr (9 ∷ []) (cons (rose_e c) (cons (rose_e t) (cons (rose_e f) nil)))
  rose_e (not e) = node sort.Expr (header 11 3 ∷ []) (cons (rose_e e) nil)
  rose_e (type_is t e) = node sort.Expr (header 11 4 ∷ t ∷ []) (cons (rose_e e) nil)
  rose_e (logic l x y) = node sort.Expr (header 12 (logic_detail l) ∷ []) (cons (rose_e x) (cons (rose_e y) nil))
  rose_e (seq x y) = node sort.Expr (13 ∷ []) (cons (rose_e x) (cons (rose_e y) nil))
  rose_e (oper h pay es) = node sort.Expr (h ∷ pay) (roses_e es)
  rose_e (call names args kwargs f es) =
      node sort.Expr (header 16 (count_e es - (bit_of args + bit_of kwargs)) ∷ names_word names args kwargs ∷ names)
      (cons (rose_e f) (roses_e es))

  pub roses_e : Exprs → Roses
  roses_e no_exprs = nil
  roses_e (more_exprs e es) = cons (rose_e e) (roses_e es)

  pub rose_t : Target → Rose
  rose_t (dot t e) = node sort.Target (64 ∷ t ∷ []) (cons (rose_e e) nil)
  rose_t (index x y) = node sort.Target (65 ∷ []) (cons (rose_e x) (cons (rose_e y) nil))
  rose_t (tuple_target ts) = node sort.Target (header 66 (count_t ts) ∷ []) (roses_t ts)
  rose_t (slot s) = node sort.Target (slot_words s) nil

  pub roses_t : Targets → Roses
  roses_t no_targets = nil
  roses_t (more_targets t ts) = cons (rose_t t) (roses_t ts)

abbrev mutual
  pub rose_s : Stmt → Rose
  rose_s possible_gc = node sort.Stmt (32 ∷ []) nil
  rose_s break = node sort.Stmt (39 ∷ []) nil
  rose_s continue = node sort.Stmt (40 ∷ []) nil
  rose_s (return e) = node sort.Stmt (33 ∷ []) (cons (rose_e e) nil)
  rose_s (expr e) = node sort.Stmt (34 ∷ []) (cons (rose_e e) nil)
  rose_s (assign w t e) = node sort.Stmt (35 ∷ w ∷ []) (cons (rose_t t) (cons (rose_e e) nil))
  rose_s (assign_modify op t e) = node sort.Stmt (header 36 op ∷ []) (cons (rose_t t) (cons (rose_e e) nil))
  rose_s (if_stmt c t f) =
      node sort.Stmt (37 ∷ [])
      (cons (rose_e c) (cons (node sort.List (count_s t ∷ []) (roses_s t))
      (cons (node sort.List (count_s f ∷ []) (roses_s f)) nil)))
  rose_s (for t e b) =
      node sort.Stmt (38 ∷ [])
      (cons (rose_t t) (cons (rose_e e) (cons (node sort.List (count_s b ∷ []) (roses_s b)) nil)))

  pub roses_s : Stmts → Roses
  roses_s no_stmts = nil
  roses_s (more_stmts s ss) = cons (rose_s s) (roses_s ss)

-- a rule
abbrev pub rose_l : Stmts → Rose
rose_l ss = node sort.List (count_s ss ∷ []) (roses_s ss)
