-- Parts and foldable places by the numbers of a node's own words, as code reads them: the lemmas `..-view` speak of an
-- expression and its words, the lemmas `..-words` of words and what they mean.
-- Assumes nothing.
use mathlib.Core.Bool.{Bool, true, false, not, cond, ◌&&◌, ◌||◌, and-false, false≢true}
use mathlib.Core.List.{List, [], ◌∷◌}
use mathlib.Core.Path.{◌≡◌, refl, ap, ap₂, sym, ◌∙◌}
use Prim.Native.Nat.{ℕ, suc, ◌+◌, ◌-◌, ◌/◌, ◌<◌}
use native.Mathlib.Omega.{arith}
use borrow.Author.Tests.{ne_eqb, eqb-true}
use lib.Dec.{eqb}
use lib.ListN.{get_or}
use Rattle.spec.specs.Rose.{Rose, parts_of}
use Rattle.spec.specs.Grammar.{header, kind_in, detail_in, Valid}
use Rattle.spec.specs.Tree
use Rattle.spec.specs.Tree.{boolean, int, string, type_function, len_function, other}
use Rattle.spec.specs.Tree.{local, captured, module', def, tuple, list, and, or}
use Rattle.spec.specs.Tree.{Expr, const, read, fresh, dict, if_then, type_is, logic, seq, oper, call}
use Rattle.spec.specs.Tree.{Exprs, no_exprs, more_exprs, bit_of, names_word, count_e, rose_e, roses_e}
use Rattle.spec.specs.Meaning.{expr_of, exprs_of, part_e}
use Rattle.spec.specs.Verdict.{is_string, is_plain}
use Rattle.spec.specs.Proper.{Proper, is_operator}
use Rattle.spec.specs.Views.{word_in, kind_of, detail_of, lead_of, parts_e}
use Rattle.spec.specs.Foldable.{const_part, list_part, dot_part, type_call_part, other_part, part_of, has_one}
use Rattle.spec.specs.Foldable.{is_type_call, constant_part, is_dot_part, binary_folds, all_constant, call_folds}
use Rattle.spec.specs.Foldable as Foldable
use Rattle.spec.specs.declared.Sort.TheVariants as sort
use Rattle.spec.proofs.Outcomes.{both}
use Rattle.spec.proofs.Heads.{kind_of_header, detail_of_header, outside, Operator, slice, builtin1, builtin2, index2}
use Rattle.spec.proofs.Heads.{operator_view}
use Rattle.spec.proofs.Meanings.{rose_expr, proper_expr}
use Rattle.spec.proofs.Views.{type_word, parts_meant}
use Rattle.foldable.specs.declared.Part.{Part}
use Rattle.foldable.specs.declared.Part.TheVariants as part
use Rattle.foldable.specs.Places.{part_for, folds_here, type_call_by, part_by, call_by}

-- a function of a header's kind and detail
by_header : {A : Type 0} (f : ℕ → ℕ → A) (k d : ℕ) → k < 256 → f k d ≡ f (kind_in (header k d)) (detail_in (header k d))
by_header f k d l = ap₂ f (sym (kind_of_header k d l)) (sym (detail_of_header k d l))

-- ---- type calls

not_second : (a b : Bool) → b ≡ false → false ≡ a && b
not_second a b e = simp (e, and-false)

-- one argument, no names, no args, no kwargs, by the numbers of a call
plain_one : (names : List ℕ) (args kwargs : Bool) (es : Exprs)
    → is_plain names args kwargs && has_one es
    ≡ eqb (count_e es - (bit_of args + bit_of kwargs)) 1 && eqb (names_word names args kwargs) 0
plain_one (n ∷ names) args kwargs es =
    not_second (eqb (count_e es - (bit_of args + bit_of kwargs)) 1) (eqb (names_word (n ∷ names) args kwargs) 0)
    (ne_eqb (names_word (n ∷ names) args kwargs) 0 (λ e. omega arith))
plain_one [] true kwargs es =
    not_second (eqb (count_e es - (1 + bit_of kwargs)) 1) (eqb (names_word [] true kwargs) 0)
    (ne_eqb (names_word [] true kwargs) 0 (λ e. omega arith))
plain_one [] false true es = not_second (eqb (count_e es - 1) 1) false refl
plain_one [] false false no_exprs = refl
plain_one [] false false (more_exprs e no_exprs) = refl
plain_one [] false false (more_exprs e (more_exprs f es)) =
    ap (λ b. b && true) (sym (ne_eqb (suc (suc (count_e es)) - 0) 1 (λ z. omega arith)))

type_view : (names : List ℕ) (args kwargs : Bool) (f : Expr) (es : Exprs) → Proper f
    → is_type_call names args kwargs f es
    ≡ type_call_by (word_in (rose_e f) 0) (count_e es - (bit_of args + bit_of kwargs)) (names_word names args kwargs)
type_view names args kwargs f es p = ap₂ ◌&&◌ (type_word f p) (plain_one names args kwargs es)

-- ---- parts

-- at the numbers of a header, a payload word and the first part's first word
abbrev part_at : ℕ → ℕ → ℕ → ℕ → Part
part_at w lead k d = part_by k d w lead

dot_for : (b : Bool) → part_for (cond b dot_part other_part) ≡ cond b part.Dot part.Other
dot_for true = refl
dot_for false = refl

type_for : (b : Bool) → part_for (cond b type_call_part other_part) ≡ cond b part.TypeCall part.Other
type_for true = refl
type_for false = refl

operator_part : {k d : ℕ} → Operator k d → (w lead : ℕ)
    → part_for (cond (eqb k 11 && eqb d 7) dot_part other_part) ≡ part_by k d w lead
operator_part slice w lead = refl
operator_part (builtin1 {d} u v) w lead = dot_for (eqb d 7)
operator_part builtin2 w lead = refl
operator_part index2 w lead = refl

part_view : (e : Expr) → Proper e
    → part_for (part_of e)
    ≡ part_by (kind_of (rose_e e)) (detail_of (rose_e e)) (word_in (rose_e e) 1) (lead_of (parts_of (rose_e e)))
part_view (const Tree.none) p = refl
part_view (const (boolean b)) p = refl
part_view (const (int n)) p = refl
part_view (const (string t)) p = refl
part_view (const type_function) p = refl
part_view (const len_function) p = refl
part_view (const (other n t b e)) p = refl
part_view (read (local n)) p = refl
part_view (read (captured n)) p = refl
part_view (read (module' n)) p = refl
part_view (read (def n)) p = refl
part_view (fresh tuple es) p = by_header (part_at 0 (lead_of (roses_e es))) 6 (count_e es) (omega arith)
part_view (fresh list es) p = by_header (part_at 0 (lead_of (roses_e es))) 7 (count_e es) (omega arith)
part_view (dict es) p = by_header (part_at 0 (lead_of (roses_e es))) 8 (count_e es / 2) (omega arith)
part_view (if_then c t f) p = refl
part_view (Tree.not e) p = refl
part_view (type_is t e) p = refl
part_view (logic and x y) p = refl
part_view (logic or x y) p = refl
part_view (seq x y) p = refl
part_view (oper h pay es) p =
    operator_part (operator_view (kind_in h) (detail_in h) p.0) (get_or pay 0 0) (lead_of (roses_e es))
part_view (call names args kwargs f es) p =
    let d = count_e es - (bit_of args + bit_of kwargs) in
    let w = names_word names args kwargs in
    let lead = word_in (rose_e f) 0 in
    type_for (is_type_call names args kwargs f es)
    ∙ ap (λ b. cond b part.TypeCall part.Other) (type_view names args kwargs f es p.0)
    ∙ by_header (part_at w lead) 16 d (omega arith)

-- constants and Dot among them
abbrev is_const_for : Part → Bool
is_const_for part.Text = true
is_const_for part.Const = true
is_const_for part.List = false
is_const_for part.Dot = false
is_const_for part.TypeCall = false
is_const_for part.Other = false

abbrev is_dot_for : Part → Bool
is_dot_for part.Text = false
is_dot_for part.Const = false
is_dot_for part.List = false
is_dot_for part.Dot = true
is_dot_for part.TypeCall = false
is_dot_for part.Other = false

const_for : (x : Foldable.Part) → constant_part x ≡ is_const_for (part_for x)
const_for (const_part c) = go (is_string c)
  where
    go : (s : Bool) → true ≡ is_const_for (cond s part.Text part.Const)
    go true = refl
    go false = refl
const_for list_part = refl
const_for dot_part = refl
const_for type_call_part = refl
const_for other_part = refl

is_dot_for_lem : (x : Foldable.Part) → is_dot_part x ≡ is_dot_for (part_for x)
is_dot_for_lem (const_part c) = go (is_string c)
  where
    go : (s : Bool) → false ≡ is_dot_for (cond s part.Text part.Const)
    go true = refl
    go false = refl
is_dot_for_lem list_part = refl
is_dot_for_lem dot_part = refl
is_dot_for_lem type_call_part = refl
is_dot_for_lem other_part = refl

-- by the tests for a constant, a string, a list, a Dot and a type call
const_tests : (c s l d t : Bool)
    → is_const_for (cond c (cond s part.Text part.Const)
    (cond l part.List (cond d part.Dot (cond t part.TypeCall part.Other))))
    ≡ c
const_tests true true l d t = refl
const_tests true false l d t = refl
const_tests false s true d t = refl
const_tests false s false true t = refl
const_tests false s false false true = refl
const_tests false s false false false = refl

dot_tests : (c s l d t : Bool) → (d ≡ true → (c ≡ false) × (l ≡ false))
    → is_dot_for (cond c (cond s part.Text part.Const)
    (cond l part.List (cond d part.Dot (cond t part.TypeCall part.Other))))
    ≡ d
dot_tests true s l true t u = absurd (false≢true (sym (u refl).0))
dot_tests false s true true t u = absurd (false≢true (sym (u refl).1))
dot_tests false s false true t u = refl
dot_tests true true l false t u = refl
dot_tests true false l false t u = refl
dot_tests false s true false t u = refl
dot_tests false s false false true u = refl
dot_tests false s false false false u = refl

-- Dot is no constant and no list
dot_alone : (k d : ℕ) → eqb k 11 && eqb d 7 ≡ true → (eqb k 1 ≡ false) × (eqb k 7 ≡ false)
dot_alone k d e =
    let eleven = eqb-true k 11 (both (eqb k 11) (eqb d 7) e).0 in
    (ne_eqb k 1 (λ (z : k ≡ 1). omega arith), ne_eqb k 7 (λ (z : k ≡ 7). omega arith))

module _ (e : Expr) (p : Proper e) where
  const_view : constant_part (part_of e) ≡ eqb (kind_of (rose_e e)) 1
  const_view =
      let k = kind_of (rose_e e) in
      let d = detail_of (rose_e e) in
      const_for (part_of e) ∙ ap is_const_for (part_view e p)
      ∙ const_tests (eqb k 1) (eqb d 3) (eqb k 7) (eqb k 11 && eqb d 7)
      (eqb k 16 && type_call_by (lead_of (parts_of (rose_e e))) d (word_in (rose_e e) 1))

  dot_view : is_dot_part (part_of e) ≡ eqb (kind_of (rose_e e)) 11 && eqb (detail_of (rose_e e)) 7
  dot_view =
      let k = kind_of (rose_e e) in
      let d = detail_of (rose_e e) in
      is_dot_for_lem (part_of e) ∙ ap is_dot_for (part_view e p)
      ∙ dot_tests (eqb k 1) (eqb d 3) (eqb k 7) (eqb k 11 && eqb d 7)
      (eqb k 16 && type_call_by (lead_of (parts_of (rose_e e))) d (word_in (rose_e e) 1)) (dot_alone k d)

-- ---- places

-- a place by its kind, its detail, its first payload word, the first word of its first part, and its parts
abbrev pub folds_with : ℕ → ℕ → ℕ → ℕ → Exprs → Bool
folds_with k d w lead es =
    cond (eqb k 6) (all_constant es)
    (cond (eqb k 14) (binary_folds d (part_of (part_e 0 es)) (part_of (part_e 1 es)))
    (cond (eqb k 16) (call_by lead d w) (is_operator k d && constant_part (part_of (part_e 0 es)))))

abbrev folds_at : ℕ → ℕ → Exprs → ℕ → ℕ → Bool
folds_at w lead es k d = folds_with k d w lead es

operator_folds : {k d : ℕ} → Operator k d → (w lead : ℕ) (es : Exprs)
    → cond (eqb k 14) (binary_folds d (part_of (part_e 0 es)) (part_of (part_e 1 es)))
    (constant_part (part_of (part_e 0 es)))
    ≡ folds_with k d w lead es
operator_folds slice w lead es = refl
operator_folds (builtin1 {d} u v) w lead es =
    sym (ap (λ b. not b && constant_part (part_of (part_e 0 es))) (outside d u v))
operator_folds builtin2 w lead es = refl
operator_folds index2 w lead es = refl

call_view : (names : List ℕ) (args kwargs : Bool) (f : Expr) (es : Exprs) → Proper f
    → call_folds names args kwargs f es
    ≡ call_by (word_in (rose_e f) 0) (count_e es - (bit_of args + bit_of kwargs)) (names_word names args kwargs)
call_view names args kwargs f es p =
    ap₂ (λ a b. a && not b) (ap₂ ◌||◌ (dot_view f p) (const_view f p)) (type_view names args kwargs f es p)

folds_view : (e : Expr) → Proper e
    → folds_here e
    ≡ folds_with (kind_of (rose_e e)) (detail_of (rose_e e)) (word_in (rose_e e) 1) (lead_of (parts_of (rose_e e)))
    (parts_e e)
unfolding folds_here
folds_view (const Tree.none) p = refl
folds_view (const (boolean b)) p = refl
folds_view (const (int n)) p = refl
folds_view (const (string t)) p = refl
folds_view (const type_function) p = refl
folds_view (const len_function) p = refl
folds_view (const (other n t b e)) p = refl
folds_view (read (local n)) p = refl
folds_view (read (captured n)) p = refl
folds_view (read (module' n)) p = refl
folds_view (read (def n)) p = refl
folds_view (fresh tuple es) p = by_header (folds_at 0 (lead_of (roses_e es)) es) 6 (count_e es) (omega arith)
folds_view (fresh list es) p = by_header (folds_at 0 (lead_of (roses_e es)) es) 7 (count_e es) (omega arith)
folds_view (dict es) p = by_header (folds_at 0 (lead_of (roses_e es)) es) 8 (count_e es / 2) (omega arith)
folds_view (if_then c t f) p = refl
folds_view (Tree.not e) p = refl
folds_view (type_is t e) p = refl
folds_view (logic and x y) p = refl
folds_view (logic or x y) p = refl
folds_view (seq x y) p = refl
folds_view (oper h pay es) p =
    operator_folds (operator_view (kind_in h) (detail_in h) p.0) (get_or pay 0 0) (lead_of (roses_e es)) es
folds_view (call names args kwargs f es) p =
    call_view names args kwargs f es p.0
    ∙ by_header (folds_at (names_word names args kwargs) (word_in (rose_e f) 0) (more_exprs f es)) 16
    (count_e es - (bit_of args + bit_of kwargs)) (omega arith)

-- ---- the same of valid words

module _ (r : Rose) (v : Valid sort.Expr r) where
  pub part_words : part_for (part_of (expr_of r)) ≡ part_by (kind_of r) (detail_of r) (word_in r 1)
      (lead_of (parts_of r))
  part_words =
      part_view (expr_of r) (proper_expr r v)
      ∙ ap (λ x. part_by (kind_of x) (detail_of x) (word_in x 1) (lead_of (parts_of x))) (rose_expr r v)

  pub const_words_lem : constant_part (part_of (expr_of r)) ≡ eqb (kind_of r) 1
  const_words_lem = const_view (expr_of r) (proper_expr r v) ∙ ap (λ x. eqb (kind_of x) 1) (rose_expr r v)

  pub folds_words : folds_here (expr_of r)
      ≡ folds_with (kind_of r) (detail_of r) (word_in r 1) (lead_of (parts_of r)) (exprs_of (parts_of r))
  folds_words =
      folds_view (expr_of r) (proper_expr r v)
      ∙ ap₂ (λ x es. folds_at (word_in x 1) (lead_of (parts_of x)) es (kind_of x) (detail_of x)) (rose_expr r v)
      (parts_meant r v)
