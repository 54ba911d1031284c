-- One kept node by its numbers: it is no type call, it is a foldable place as its numbers say, and where it stays a
-- statement it is not pure.
-- Assumes nothing.
use mathlib.Core.Bool.{Bool, true, false, not, cond, ◌&&◌, ◌||◌, false≢true}
use mathlib.Core.Path.{◌≡◌, refl, ap, sym, subst, ◌∙◌}
use Prim.Native.Nat.{ℕ, ◌≤◌}
use native.Mathlib.Omega.{arith}
use borrow.Author.Tests.{ne_eqb, eqb-true, eq-eqb, not-true}
use lib.Dec.{eqb}
use Rattle.spec.specs.Grammar.{header, kind_in, detail_in, part_count}
use Rattle.spec.specs.Tree.{Expr, Exprs, no_exprs, more_exprs, count_e}
use Rattle.spec.specs.Meaning.{part_e}
use Rattle.spec.specs.Foldable.{part_of, constant_part, binary_folds, all_constant}
use Rattle.spec.specs.Views.{own_pure}
use Rattle.spec.proofs.Outcomes.{both, neither, by_test}
use Rattle.spec.proofs.Heads.{ExprHead, constant, place, tuple, list, dict, if_then, negation, type_is, and, or, seq}
use Rattle.spec.proofs.Heads.{operator, call, local, captured, module', def, slice, builtin1, builtin2, index2}
use Rattle.spec.proofs.Heads.{outside}
use Rattle.foldable.specs.declared.Part.{Part}
use Rattle.foldable.specs.declared.Part.TheVariants as part
use Rattle.foldable.specs.Places.{part_for, type_call_by, part_by, is_type_call_for, joins, binary_by}
use Rattle.foldable.proofs.Tables.{binary_table}
use Rattle.foldable.proofs.Numbers.{folds_with}
use Rattle.kept_nodes.specs.Nodes.{percent_text, binary_kept, kept_by, folds_by}
use Rattle.kept.specs.Stated.{alone_by}

-- ---- type calls

-- a kept call is none
no_type_call : (k d w lead : ℕ) → kept_by k d w lead ≡ true → eqb k 16 && type_call_by lead d w ≡ false
no_type_call k d w lead h =
    by_test _ (eqb k 16)
    (λ e. simp e (not-true (type_call_by lead d w) (subst (λ (j : ℕ). kept_by j d w lead ≡ true) (eqb-true k 16 e) h)))
    (λ e. simp e)

-- so no kept node is
pub no_type_part : (k d w lead : ℕ) → kept_by k d w lead ≡ true → is_type_call_for (part_by k d w lead) ≡ false
no_type_part k d w lead h =
    go (eqb k 1) (eqb d 3) (eqb k 7) (eqb k 11 && eqb d 7) (eqb k 16 && type_call_by lead d w)
    (no_type_call k d w lead h)
  where
    go : (c s l t u : Bool) → u ≡ false
        → is_type_call_for (cond c (cond s part.Text part.Const)
        (cond l part.List (cond t part.Dot (cond u part.TypeCall part.Other))))
        ≡ false
    go true true l t u e = refl
    go true false l t u e = refl
    go false s true t u e = refl
    go false s false true u e = refl
    go false s false false true e = e
    go false s false false false e = refl

-- ---- places

-- what is known of the first part, by its first word: its own numbers, with which it is kept
pub record First (lead : ℕ) (e : Expr) : Type 0 where
  pub word : ℕ
  pub next : ℕ
  pub is_part : part_for (part_of e) ≡ part_by (kind_in lead) (detail_in lead) word next
  pub constant : constant_part (part_of e) ≡ eqb (kind_in lead) 1
  pub kept : kept_by (kind_in lead) (detail_in lead) word next ≡ true

-- a tuple of constants has none
tuple_folds : (lead : ℕ) (es : Exprs) (d : ℕ) → d ≡ count_e es → (1 ≤ d → First lead (part_e 0 es))
    → eqb d 0 || not (eqb (kind_in lead) 1) ≡ true → all_constant es ≡ eqb d 0
tuple_folds lead no_exprs d m f h = sym (eq-eqb d 0 m)
tuple_folds lead (more_exprs e es) d m f h =
    let some : eqb d 0 ≡ false = ne_eqb d 0 (λ z. omega arith) in
    let none = not-true (eqb (kind_in lead) 1) (ap (λ (b : Bool). b || not (eqb (kind_in lead) 1)) (sym some) ∙ h) in
    ap (λ (b : Bool). b && all_constant es) ((f (omega arith)).constant ∙ none) ∙ sym some

-- a left side that is no constant, no list in Add and no type call folds with nothing
left_folds : (d : ℕ) (y : Part) (k c w lead : ℕ) → eqb k 1 ≡ false → eqb k 7 && eqb d 3 ≡ false
    → kept_by k c w lead ≡ true → binary_by d (part_by k c w lead) y ≡ false
left_folds d y k c w lead e l h =
    ap (λ (b : Bool). binary_by d (cond b (cond (eqb c 3) part.Text part.Const)
    (cond (eqb k 7) part.List (cond (eqb k 11 && eqb c 7) part.Dot
    (cond (eqb k 16 && type_call_by lead c w) part.TypeCall part.Other)))) y) e
    ∙ go (eqb k 7) (eqb k 11 && eqb c 7) (eqb k 16 && type_call_by lead c w) l (no_type_call k c w lead h)
  where
    go : (l t u : Bool) → l && eqb d 3 ≡ false → u ≡ false
        → binary_by d (cond l part.List (cond t part.Dot (cond u part.TypeCall part.Other))) y ≡ false
    go true t u e f = ap (λ (b : Bool). b && joins d y) e
    go false true u e f = refl
    go false false true e f = absurd (false≢true (sym f))
    go false false false e f = refl

-- so of a kept Builtin2 only Percent folds
binary_place : (d lead : ℕ) (x y : Expr) → First lead x → binary_kept d lead ≡ true
    → binary_folds d (part_of x) (part_of y) ≡ percent_text d lead
binary_place d lead x y f h =
    binary_table d (part_of x) (part_of y)
    ∙ ap (λ (p : Part). binary_by d p (part_for (part_of y))) f.is_part
    ∙ by_test _ (percent_text d lead)
    (λ e.
    let t = both (eqb d 5) (eqb lead (header 1 3)) e in
    let text = eqb-true lead (header 1 3) t.1 in
    ap (λ (h : ℕ). binary_by d (part_by (kind_in h) (detail_in h) f.word f.next) (part_for (part_of y))) text
    ∙ ap (λ (b : Bool). b || joins d (part_for (part_of y))) t.0 ∙ sym e)
    (λ e.
    let n = neither (eqb (kind_in lead) 1 && not (percent_text d lead)) (eqb (kind_in lead) 7 && eqb d 3)
    (not-true _ h) in
    let c : eqb (kind_in lead) 1 ≡ false = first (eqb (kind_in lead) 1) (percent_text d lead) e n.0 in
    left_folds d (part_for (part_of y)) (kind_in lead) (detail_in lead) f.word f.next c n.1 f.kept ∙ sym e)
  where
    first : (a b : Bool) → b ≡ false → a && not b ≡ false → a ≡ false
    first true b e z = absurd (false≢true (sym z ∙ ap not e))
    first false b e z = refl

-- what a kept node is asked of its parts
module _ (w lead : ℕ) (es : Exprs) where
  pub node_folds : {k d : ℕ} → ExprHead k d → count_e es ≡ part_count k d w
      → (1 ≤ part_count k d w → First lead (part_e 0 es)) → kept_by k d w lead ≡ true
      → folds_with k d w lead es ≡ folds_by k d w lead
  node_folds (constant c) m f h = refl
  node_folds (place local) m f h = refl
  node_folds (place captured) m f h = refl
  node_folds (place module') m f h = refl
  node_folds (place def) m f h = refl
  node_folds (tuple {d}) m f h = tuple_folds lead es d (sym m) f h
  node_folds list m f h = refl
  node_folds dict m f h = refl
  node_folds if_then m f h = absurd (false≢true h)
  node_folds negation m f h = absurd (false≢true h)
  node_folds type_is m f h = absurd (false≢true h)
  node_folds and m f h = absurd (false≢true h)
  node_folds or m f h = absurd (false≢true h)
  node_folds seq m f h = absurd (false≢true h)
  node_folds (operator slice) m f h = (f (omega arith)).constant
  node_folds (operator (builtin1 {d} u v)) m f h =
      ap (λ (b : Bool). not b && constant_part (part_of (part_e 0 es))) (outside d u v) ∙ (f (omega arith)).constant
  node_folds (operator (builtin2 {d})) m f h = binary_place d lead (part_e 0 es) (part_e 1 es) (f (omega arith)) h
  node_folds (operator index2) m f h = (f (omega arith)).constant
  node_folds call m f h = refl

-- ---- statements

-- a node that stays a statement is not pure
pub node_impure : {k d : ℕ} → ExprHead k d → (w lead : ℕ) → kept_by k d w lead ≡ true → alone_by k ≡ true
    → own_pure k d w lead ≡ false
node_impure (constant c) w lead h a = absurd (false≢true a)
node_impure (place local) w lead h a = refl
node_impure (place captured) w lead h a = refl
node_impure (place module') w lead h a = refl
node_impure (place def) w lead h a = refl
node_impure tuple w lead h a = absurd (false≢true a)
node_impure list w lead h a = absurd (false≢true a)
node_impure dict w lead h a = absurd (false≢true a)
node_impure if_then w lead h a = absurd (false≢true h)
node_impure negation w lead h a = absurd (false≢true h)
node_impure type_is w lead h a = absurd (false≢true h)
node_impure and w lead h a = absurd (false≢true h)
node_impure or w lead h a = absurd (false≢true h)
node_impure seq w lead h a = absurd (false≢true h)
node_impure (operator slice) w lead h a = refl
node_impure (operator (builtin1 {d} u v)) w lead h a = outside d u v
node_impure (operator builtin2) w lead h a = refl
node_impure (operator index2) w lead h a = refl
node_impure (call {d}) w lead h a = not-true (type_call_by lead d w) h
