-- The pass keeps validity: what each constructor makes of valid parts is valid (`not_valid`, `if_valid`), so is the
-- expression that ExprCompiledBool::new leaves (`new_valid`), and so is what the whole pass makes of an expression
-- (`optimize_valid`) and of a target, at any place where that one may stand (`optimize_target_valid`). PassedStmts says
-- it of statements.
-- Assumes nothing.
use mathlib.Core.Bool.{Bool, true, false, not, cond, ◌&&◌}
use mathlib.Core.List.{List, [], ◌∷◌}
use mathlib.Core.Path.{◌≡◌, refl, ap, sym, subst, ◌∙◌}
use Prim.Native.Nat.{ℕ, zero, suc, ◌+◌, ◌-◌, ◌/◌, ◌<◌}
use native.Mathlib.Omega.{arith}
use borrow.Author.Tests.{lt-ltb}
use lib.Dec.{eqb}
use Rattle.std.proofs.lemmas.Grind.{common_steps}
use Rattle.spec.specs.Rose.{Roses, node, nil, cons, count}
use Rattle.spec.specs.Grammar.{header, kind_in, detail_in, part_sort, is_list, sorts_by, sorts_in, made, Owned}
use Rattle.spec.specs.Grammar.{Valid, Valids}
use Rattle.spec.specs.Tree
use Rattle.spec.specs.Tree.{Const, boolean, int, string, type_function, len_function, other}
use Rattle.spec.specs.Tree.{Fresh, tuple, list, Logic, and, or, bit_of, fresh_kind, names_word}
use Rattle.spec.specs.Tree.{Expr, const, read, fresh, dict, if_then, type_is, logic, seq, oper, call, rose_e}
use Rattle.spec.specs.Tree.{Exprs, no_exprs, more_exprs, count_e, roses_e}
use Rattle.spec.specs.Tree.{Target, dot, index, tuple_target, slot, rose_t}
use Rattle.spec.specs.Tree.{Targets, no_targets, more_targets, count_t, roses_t}
use Rattle.spec.specs.Proper.{ProperConst, Propers, ProperTarget, ProperTargets, ValidExpr}
use Rattle.spec.specs.Verdict.{is_none, const_truth, is_type_function, is_plain, pure, pures, truth_of, definitely_bool}
use Rattle.spec.specs.Value.{const_type, fresh_type}
use Rattle.spec.specs.Running.{decides}
use Rattle.spec.specs.Views.{parts_e}
use Rattle.spec.specs.Pass.{Condition, const_condition, expr_condition, decided, not_condition, logic_condition}
use Rattle.spec.specs.Pass.{new_bool, seq_expr, not_expr, type_is_expr, logical_by, logical_bin_op, typ, call_expr}
use Rattle.spec.specs.Pass.{if_left, if_step, nodes_of, if_bounded, if_expr}
use Rattle.spec.specs.Pass.{optimize_expr, optimize_exprs, optimize_target, optimize_targets}
use Rattle.spec.specs.declared.Sort.{Sort}
use Rattle.spec.specs.declared.Sort.TheVariants as sort
use Rattle.spec.specs.declared.Truth.{Truth}
use Rattle.spec.specs.declared.Truth.TheVariants as truth
use Rattle.spec.proofs.Heads.{expr_head_lem}
use Rattle.spec.proofs.Meanings.{part_expr, valids_as}
use Rattle.spec.proofs.Views.{count_roses, parts_valid, parts_proper}

-- ---- nodes and their parts

-- a node keeps its own words and gets as many parts, valid where the former ones stood
pub node_kept : (s t : Sort) (own : List ℕ) (ps qs : Roses) → Valid s (node t own ps) → count qs ≡ count ps
    → Valids (sorts_in s own) 0 qs → Valid s (node t own qs)
node_kept s t own ps qs v e w = (v.0, subst (λ n. Owned s own n) (sym e) v.1, w)

-- parts of one sort are valid wherever they are counted from
pub valids_from : (s : Sort) (ps : Roses) (i j : ℕ) → Valids (λ n. s) i ps → Valids (λ n. s) j ps
valids_from s nil i j v = tt
valids_from s (cons p ps) i j v = (v.0, valids_from s ps (suc i) (suc j) v.1)

-- the parts of a node by its kind, whatever its detail is
pub detailed : (k d : ℕ) → k < 256 → (ps : Roses)
    → (Valids (part_sort (kind_in (header k d))) 0 ps → Valids (part_sort k) 0 ps)
    × (Valids (part_sort k) 0 ps → Valids (part_sort (kind_in (header k d))) 0 ps)
detailed k d l ps = grind (arith, common_steps)

-- ---- lists of expressions

-- expressions that words can say, with valid words
abbrev pub ValidExprs : Exprs → Type 0
ValidExprs es = Propers es × Valids (λ i. sort.Expr) 0 (roses_e es)

pub more_exprs_lem : (e : Expr) (es : Exprs) → ValidExpr e → ValidExprs es → ValidExprs (more_exprs e es)
more_exprs_lem e es v w = ((v.0, w.0), (v.1, valids_from sort.Expr (roses_e es) 0 1 w.1))

pub first_exprs : (e : Expr) (es : Exprs) → ValidExprs (more_exprs e es) → ValidExpr e × ValidExprs es
first_exprs e es v = ((v.0.0, v.1.0), (v.0.1, valids_from sort.Expr (roses_e es) 1 0 v.1.1))

-- ---- the parts of a valid expression, and other parts in their place

-- the parts in word order
pub valid_parts : (e : Expr) → ValidExpr e → ValidExprs (parts_e e)
valid_parts e v = (parts_proper e v.0, parts_valid e v.1)

-- one part, and two
pub one_part : (e : Expr) → ValidExprs (more_exprs e no_exprs) → ValidExpr e
one_part e v = (first_exprs e no_exprs v).0

pub two_parts : (x y : Expr) → ValidExprs (more_exprs x (more_exprs y no_exprs)) → ValidExpr x × ValidExpr y
two_parts x y v = grind (arith, common_steps)

-- a valid node keeps its own words and gets as many other valid parts
pub parts_kept : (own : List ℕ) (es xs : Exprs) → Valid sort.Expr (node sort.Expr own (roses_e es))
    → count_e xs ≡ count_e es → ValidExprs xs → Valid sort.Expr (node sort.Expr own (roses_e xs))
parts_kept [] es xs v e w = absurd v.1
parts_kept (h ∷ pay) es xs v e w =
    let each = part_expr (expr_head_lem (kind_in h) (detail_in h) v.1.head) in
    node_kept sort.Expr sort.Expr (h ∷ pay) (roses_e es) (roses_e xs) v (count_roses xs ∙ e ∙ sym (count_roses es))
    (valids_as (λ i. sort.Expr) (part_sort (kind_in h)) (λ i. sym (each i)) (roses_e xs) 0 w.1)

-- so does one whose own words tell a count, which is the same
counted_kept : (own : ℕ → List ℕ) (n m : ℕ) (es xs : Exprs) → Valid sort.Expr (node sort.Expr (own n) (roses_e es))
    → m ≡ n → count_e xs ≡ count_e es → ValidExprs xs → Valid sort.Expr (node sort.Expr (own m) (roses_e xs))
counted_kept own n m es xs v same e w =
    subst (λ c. Valid sort.Expr (node sort.Expr (own c) (roses_e xs))) (sym same) (parts_kept (own n) es xs v e w)

-- of each kind that has a count or a payload
pub fresh_kept : (f : Fresh) (es xs : Exprs) → ValidExpr (fresh f es) → count_e xs ≡ count_e es → ValidExprs xs
    → ValidExpr (fresh f xs)
fresh_kept f es xs v e w =
    (w.0, counted_kept (λ n. header (fresh_kind f) n ∷ []) (count_e es) (count_e xs) es xs v.1 e e w)

pub dict_kept : (es xs : Exprs) → ValidExpr (dict es) → count_e xs ≡ count_e es → ValidExprs xs → ValidExpr (dict xs)
dict_kept es xs v e w =
    (w.0, counted_kept (λ n. header 8 (n / 2) ∷ []) (count_e es) (count_e xs) es xs v.1 e e w)

pub oper_kept : (h : ℕ) (pay : List ℕ) (es xs : Exprs) → ValidExpr (oper h pay es) → count_e xs ≡ count_e es
    → ValidExprs xs → ValidExpr (oper h pay xs)
oper_kept h pay es xs v e w = ((v.0.0, w.0), parts_kept (h ∷ pay) es xs v.1 e w)

pub type_is_kept : (t : ℕ) (e x : Expr) → ValidExpr (type_is t e) → ValidExpr x → ValidExpr (type_is t x)
type_is_kept t e x v w = grind (arith, common_steps)

pub call_kept : (names : List ℕ) (args kwargs : Bool) (f g : Expr) (es xs : Exprs)
    → ValidExpr (call names args kwargs f es) → count_e xs ≡ count_e es → ValidExpr g → ValidExprs xs
    → ValidExpr (call names args kwargs g xs)
call_kept names args kwargs f g es xs v e u w =
    let own : ℕ → List ℕ = λ n. header 16 (n - (bit_of args + bit_of kwargs)) ∷ names_word names args kwargs ∷ names in
    let parts = more_exprs_lem g xs u w in
    (parts.0, counted_kept own (count_e es) (count_e xs) (more_exprs f es) (more_exprs g xs) v.1 e (ap suc e) parts)

-- ---- nodes that are valid whenever their parts are

pub bool_valid : (b : Bool) → ValidExpr (const (boolean b))
bool_valid true = (tt, (refl, record { head = refl; ruled = (refl, tt); many = refl }, tt))
bool_valid false = (tt, (refl, record { head = refl; ruled = (refl, tt); many = refl }, tt))

-- "Text: a word 0 to 65,535"
pub string_valid : (t : ℕ) → t < 65536 → ValidExpr (const (string t))
string_valid t l = (tt, (refl, record { head = refl; ruled = (lt-ltb t 65536 l, tt); many = refl }, tt))

pub if_node : (c t f : Expr) → ValidExpr c → ValidExpr t → ValidExpr f → ValidExpr (if_then c t f)
if_node c t f u v w = grind (arith, common_steps)

pub not_node : (e : Expr) → ValidExpr e → ValidExpr (Tree.not e)
not_node e v = (v.0, (refl, record { head = refl; ruled = tt; many = refl }, (v.1, tt)))

pub logic_node : (l : Logic) (x y : Expr) → ValidExpr x → ValidExpr y → ValidExpr (logic l x y)
logic_node l x y p q = grind (arith, common_steps)

pub seq_node : (x y : Expr) → ValidExpr x → ValidExpr y → ValidExpr (seq x y)
seq_node x y v w =
    ((v.0, w.0), (refl, record { head = refl; ruled = tt; many = refl }, (v.1, (w.1, tt))))

-- ---- constructors

-- one of two valid choices
cond_valid : (b : Bool) (x y : Expr) → ValidExpr x → ValidExpr y → ValidExpr (cond b x y)
cond_valid true x y v w = v
cond_valid false x y v w = w

pub seq_valid : (x y : Expr) → ValidExpr x → ValidExpr y → ValidExpr (seq_expr x y)
unfolding seq_expr
seq_valid x y v w = cond_valid (pure x) y (seq x y) w (seq_node x y v w)

pub not_valid : (e : Expr) → ValidExpr e → ValidExpr (not_expr e)
unfolding not_expr
not_valid (const c) v = bool_valid (not (const_truth c))
not_valid (Tree.not e) v =
    cond_valid (definitely_bool e) e (Tree.not (Tree.not e)) (one_part e (valid_parts (Tree.not e) v))
    (not_node (Tree.not e) v)
not_valid e v = not_node e v

-- a text that may stand there stays
pub type_is_valid : (t : ℕ) (e : Expr) → ValidExpr (type_is t e) → ValidExpr (type_is_expr t e)
unfolding type_is_expr
type_is_valid t (const c) v = bool_valid (eqb (const_type c) t)
type_is_valid t _ v = v

logical_by_valid : (l : Logic) (t : Truth) (x y : Expr) → ValidExpr x → ValidExpr y → ValidExpr (logical_by l t x y)
unfolding logical_by
logical_by_valid l truth.Yes x y v w = cond_valid (decides l true) x y v w
logical_by_valid l truth.No x y v w = cond_valid (decides l false) x y v w
logical_by_valid l truth.Unknown x y v w = logic_node l x y v w

pub logical_valid : (l : Logic) (x y : Expr) → ValidExpr x → ValidExpr y → ValidExpr (logical_bin_op l x y)
unfolding logical_bin_op
logical_valid l x y v w = logical_by_valid l (truth_of x) x y v w

-- the name of a constant's type, and of a tuple's or list's
pub const_text : (c : Const) → ProperConst c → const_type c < 65536
const_text (other n t b e) p = p
const_text _ p = omega arith

fresh_text : (f : Fresh) → fresh_type f < 65536
fresh_text tuple = omega arith
fresh_text list = omega arith

-- a type's name, or the whole
name_valid : (b : Bool) (t : ℕ) (whole : Expr) → t < 65536 → ValidExpr whole
    → ValidExpr (cond b (const (string t)) whole)
name_valid b t whole l w = cond_valid b (const (string t)) whole (string_valid t l) w

pub typ_valid : (e whole : Expr) → ValidExpr e → ValidExpr whole → ValidExpr (typ e whole)
unfolding typ
typ_valid (const c) whole v w = string_valid (const_type c) (const_text c v.0)
typ_valid (fresh f es) whole v w = name_valid (pures es) (fresh_type f) whole (fresh_text f) w
typ_valid (dict es) whole v w = name_valid (is_none es) 8 whole (omega arith) w
typ_valid (Tree.not e) whole v w = name_valid (pure e) 2 whole (omega arith) w
typ_valid (type_is t e) whole v w = name_valid (pure e) 2 whole (omega arith) w
typ_valid _ whole v w = w

-- a call's argument, if it has one alone
pub argument_valid : (names : List ℕ) (args kwargs : Bool) (f e : Expr)
    → ValidExpr (call names args kwargs f (more_exprs e no_exprs)) → ValidExpr e
argument_valid names args kwargs f e v =
    (two_parts f e (valid_parts (call names args kwargs f (more_exprs e no_exprs)) v)).1

pub call_valid : (names : List ℕ) (args kwargs : Bool) (f : Expr) (es : Exprs)
    → ValidExpr (call names args kwargs f es) → ValidExpr (call_expr names args kwargs f es)
unfolding call_expr
call_valid names args kwargs f no_exprs v = v
call_valid names args kwargs f (more_exprs e no_exprs) v =
    let whole = call names args kwargs f (more_exprs e no_exprs) in
    cond_valid (is_type_function f && is_plain names args kwargs) (typ e whole) whole
    (typ_valid e whole (argument_valid names args kwargs f e v) v) v
call_valid names args kwargs f (more_exprs e (more_exprs x xs)) v = v

-- ---- conditions

-- what is left of a condition is valid
abbrev pub ValidCondition : Condition → Type 0
ValidCondition (const_condition b) = Unit {0}
ValidCondition (expr_condition e) = ValidExpr e

decided_valid : (t : Truth) (c : Condition) → ValidCondition c → ValidCondition (decided t c)
unfolding decided
decided_valid t c p = grind (arith, common_steps)

not_condition_valid : (c : Condition) → ValidCondition c → ValidCondition (not_condition c)
unfolding not_condition
not_condition_valid (const_condition b) v = tt
not_condition_valid (expr_condition e) v = not_node e v

-- a constant on the left of And and Or, and one on the right
left_valid : (d b : Bool) (y : Condition) → ValidCondition y → ValidCondition (cond d (const_condition b) y)
left_valid true b y v = tt
left_valid false b y v = v

right_valid : (d b : Bool) (x : Expr) → ValidExpr x
    → ValidCondition (cond d (expr_condition (seq_expr x (const (boolean b)))) (expr_condition x))
right_valid true b x v = seq_valid x (const (boolean b)) v (bool_valid b)
right_valid false b x v = v

logic_condition_valid : (l : Logic) (x y : Condition) → ValidCondition x → ValidCondition y
    → ValidCondition (logic_condition l x y)
unfolding logic_condition
logic_condition_valid l (const_condition b) y v w = left_valid (decides l b) b y w
logic_condition_valid l (expr_condition x) (const_condition b) v w = right_valid (decides l b) b x v
logic_condition_valid l (expr_condition x) (expr_condition y) v w = logic_node l x y v w

-- ExprCompiledBool::new
pub new_condition_valid : (e : Expr) → ValidExpr e → ValidCondition (new_bool e)
unfolding new_bool
new_condition_valid (Tree.not e) v =
    decided_valid (truth_of (Tree.not e)) (not_condition (new_bool e))
    (not_condition_valid (new_bool e) (new_condition_valid e (one_part e (valid_parts (Tree.not e) v))))
new_condition_valid (logic l x y) v =
    let (left, right) = two_parts x y (valid_parts (logic l x y) v) in
    decided_valid (truth_of (logic l x y)) (logic_condition l (new_bool x) (new_bool y))
    (logic_condition_valid l (new_bool x) (new_bool y) (new_condition_valid x left) (new_condition_valid y right))
new_condition_valid e v = decided_valid (truth_of e) (expr_condition e) v

-- the same, where an expression is left
pub new_valid : (e x : Expr) → ValidExpr e → new_bool e ≡ expr_condition x → ValidExpr x
new_valid e x v p = subst ValidCondition p (new_condition_valid e v)

-- ---- if_expr

module _ (more : Expr → Expr → Expr → Expr)
    (ih : (c t f : Expr) → ValidExpr c → ValidExpr t → ValidExpr f → ValidExpr (more c t f))
  where
    if_left_valid : (e t f : Expr) → ValidExpr e → ValidExpr t → ValidExpr f → ValidExpr (if_left more e t f)
    unfolding if_left
    if_left_valid (Tree.not e) t f u v w = ih e f t (one_part e (valid_parts (Tree.not e) u)) w v
    if_left_valid (seq p e) t f u v w =
        let (left, right) = two_parts p e (valid_parts (seq p e) u) in
        seq_valid p (more e t f) left (ih e t f right v w)
    if_left_valid e t f u v w = if_node e t f u v w

    if_step_valid : (s : Condition) (t f : Expr) → ValidCondition s → ValidExpr t → ValidExpr f
        → ValidExpr (if_step more s t f)
    unfolding if_step
    if_step_valid (const_condition b) t f u v w = cond_valid b t f v w
    if_step_valid (expr_condition e) t f u v w = if_left_valid e t f u v w

-- at every bound
pub if_bounded_valid : (n : ℕ) (c t f : Expr) → ValidExpr c → ValidExpr t → ValidExpr f
    → ValidExpr (if_bounded n c t f)
unfolding if_bounded
if_bounded_valid zero c t f u v w = if_node c t f u v w
if_bounded_valid (suc n) c t f u v w =
    if_step_valid (if_bounded n) (if_bounded_valid n) (new_bool c) t f (new_condition_valid c u) v w

pub if_valid : (c t f : Expr) → ValidExpr c → ValidExpr t → ValidExpr f → ValidExpr (if_expr c t f)
unfolding if_expr
if_valid c t f u v w = if_bounded_valid (nodes_of c) c t f u v w

-- ---- optimize

-- as many expressions as before
pub optimize_count : (es : Exprs) → count_e (optimize_exprs es) ≡ count_e es
unfolding optimize_exprs
optimize_count no_exprs = refl
optimize_count (more_exprs e es) = ap suc (optimize_count es)

mutual
  unfolding optimize_expr

  pub optimize_valid : (e : Expr) → ValidExpr e → ValidExpr (optimize_expr e)
  optimize_valid (const c) v = v
  optimize_valid (read p) v = v
  optimize_valid (fresh f es) v =
      fresh_kept f es (optimize_exprs es) v (optimize_count es) (optimize_exprs_valid es (valid_parts (fresh f es) v))
  optimize_valid (dict es) v =
      dict_kept es (optimize_exprs es) v (optimize_count es) (optimize_exprs_valid es (valid_parts (dict es) v))
  optimize_valid (if_then c t f) v =
      let (condition, arms) = first_exprs c (more_exprs t (more_exprs f no_exprs)) (valid_parts (if_then c t f) v) in
      let (left, right) = two_parts t f arms in
      if_valid (optimize_expr c) (optimize_expr t) (optimize_expr f) (optimize_valid c condition)
      (optimize_valid t left)
      (optimize_valid f right)
  optimize_valid (Tree.not e) v =
      not_valid (optimize_expr e) (optimize_valid e (one_part e (valid_parts (Tree.not e) v)))
  optimize_valid (type_is t e) v =
      let part = optimize_valid e (one_part e (valid_parts (type_is t e) v)) in
      type_is_valid t (optimize_expr e) (type_is_kept t e (optimize_expr e) v part)
  optimize_valid (logic l x y) v =
      let (left, right) = two_parts x y (valid_parts (logic l x y) v) in
      logical_valid l (optimize_expr x) (optimize_expr y) (optimize_valid x left) (optimize_valid y right)
  optimize_valid (seq x y) v =
      let (left, right) = two_parts x y (valid_parts (seq x y) v) in
      seq_valid (optimize_expr x) (optimize_expr y) (optimize_valid x left) (optimize_valid y right)
  optimize_valid (oper h pay es) v =
      oper_kept h pay es (optimize_exprs es) v (optimize_count es)
      (optimize_exprs_valid es (valid_parts (oper h pay es) v))
  optimize_valid (call names args kwargs f es) v =
      let (callee, arguments) = first_exprs f es (valid_parts (call names args kwargs f es) v) in
      call_valid names args kwargs (optimize_expr f) (optimize_exprs es)
      (call_kept names args kwargs f (optimize_expr f) es (optimize_exprs es) v (optimize_count es)
      (optimize_valid f callee) (optimize_exprs_valid es arguments))

  pub optimize_exprs_valid : (es : Exprs) → ValidExprs es → ValidExprs (optimize_exprs es)
  optimize_exprs_valid no_exprs v = v
  optimize_exprs_valid (more_exprs e es) v =
      let (first, rest) = first_exprs e es v in
      more_exprs_lem (optimize_expr e) (optimize_exprs es) (optimize_valid e first) (optimize_exprs_valid es rest)

-- ---- targets

-- a target that words can say and whose words are valid at a place of a sort: Single is a place for all but tuples
abbrev pub ValidTarget : Sort → Target → Type 0
ValidTarget s t = ProperTarget t × Valid s (rose_t t)

-- such a place is no list
target_place : (s : Sort) → sort.Target ≡ made s → is_list s ≡ false
target_place sort.List e = cc
target_place _ e = refl

-- its parts are of the sorts that its kind tells
target_sort : (s : Sort) (h : ℕ) → sort.Target ≡ made s → (i : ℕ) → sorts_by (is_list s) h i ≡ part_sort (kind_in h) i
target_sort s h e i = ap (λ b. sorts_by b h i) (target_place s e)

target_parts : (s : Sort) (h : ℕ) (pay : List ℕ) (ps : Roses) → Valid s (node sort.Target (h ∷ pay) ps)
    → Valids (part_sort (kind_in h)) 0 ps
target_parts s h pay ps v =
    valids_as (sorts_by (is_list s) h) (part_sort (kind_in h)) (target_sort s h v.0) ps 0 v.2

-- and as many others may stand in their place
target_kept : (s : Sort) (h : ℕ) (pay : List ℕ) (ps qs : Roses) → Valid s (node sort.Target (h ∷ pay) ps)
    → count qs ≡ count ps → Valids (part_sort (kind_in h)) 0 qs → Valid s (node sort.Target (h ∷ pay) qs)
target_kept s h pay ps qs v e w =
    let sorts : (i : ℕ) → part_sort (kind_in h) i ≡ sorts_by (is_list s) h i = λ i. sym (target_sort s h v.0 i) in
    node_kept s sort.Target (h ∷ pay) ps qs v e
    (valids_as (part_sort (kind_in h)) (sorts_by (is_list s) h) sorts qs 0 w)

-- ---- lists of targets

abbrev pub ValidTargets : Targets → Type 0
ValidTargets ts = ProperTargets ts × Valids (λ i. sort.Target) 0 (roses_t ts)

count_target_roses : (ts : Targets) → count (roses_t ts) ≡ count_t ts
count_target_roses no_targets = refl
count_target_roses (more_targets t ts) = ap suc (count_target_roses ts)

pub optimize_target_count : (ts : Targets) → count_t (optimize_targets ts) ≡ count_t ts
unfolding optimize_targets
optimize_target_count no_targets = refl
optimize_target_count (more_targets t ts) = ap suc (optimize_target_count ts)

-- a tuple's parts, and as many others in their place
pub tuple_parts : (s : Sort) (ts : Targets) → ValidTarget s (tuple_target ts) → ValidTargets ts
tuple_parts s ts v =
    let n = count_t ts in
    (v.0, (detailed 66 n (omega arith) (roses_t ts)).0 (target_parts s (header 66 n) [] (roses_t ts) v.1))

tuple_kept : (s : Sort) (ts us : Targets) → ValidTarget s (tuple_target ts) → count_t us ≡ count_t ts → ValidTargets us
    → ValidTarget s (tuple_target us)
tuple_kept s ts us v e w =
    let n = count_t ts in
    let same = target_kept s (header 66 n) [] (roses_t ts) (roses_t us) v.1
    (count_target_roses us ∙ e ∙ sym (count_target_roses ts)) ((detailed 66 n (omega arith) (roses_t us)).1 w.1) in
    (w.0, subst (λ m. Valid s (node sort.Target (header 66 m ∷ []) (roses_t us))) (sym e) same)

-- the pass on a target leaves one that may stand at the same places
mutual
  unfolding optimize_target

  pub optimize_target_valid : (s : Sort) (t : Target) → ValidTarget s t → ValidTarget s (optimize_target t)
  optimize_target_valid s (dot t e) v =
      let parts = target_parts s 64 (t ∷ []) (cons (rose_e e) nil) v.1 in
      let object = optimize_valid e (v.0, parts.0) in (
        object.0,
        target_kept s 64 (t ∷ []) (cons (rose_e e) nil) (cons (rose_e (optimize_expr e)) nil) v.1 refl
            (object.1, tt),
      )
  optimize_target_valid s (index x y) v =
      let parts = target_parts s 65 [] (cons (rose_e x) (cons (rose_e y) nil)) v.1 in
      let object = optimize_valid x (v.0.0, parts.0) in
      let place = optimize_valid y (v.0.1, parts.1.0) in (
        (object.0, place.0),
        target_kept s 65 [] (cons (rose_e x) (cons (rose_e y) nil))
            (cons (rose_e (optimize_expr x)) (cons (rose_e (optimize_expr y)) nil)) v.1 refl
            (object.1, (place.1, tt)),
      )
  optimize_target_valid s (tuple_target ts) v =
      tuple_kept s ts (optimize_targets ts) v (optimize_target_count ts)
      (optimize_targets_valid ts (tuple_parts s ts v))
  optimize_target_valid s (slot x) v = v

  pub optimize_targets_valid : (ts : Targets) → ValidTargets ts → ValidTargets (optimize_targets ts)
  optimize_targets_valid no_targets v = v
  optimize_targets_valid (more_targets t ts) v =
      let first = optimize_target_valid sort.Target t (v.0.0, v.1.0) in
      let rest = optimize_targets_valid ts (v.0.1, valids_from sort.Target (roses_t ts) 1 0 v.1.1) in
      ((first.0, rest.0), (first.1, valids_from sort.Target (roses_t (optimize_targets ts)) 0 1 rest.1))
