-- Builtin2 by the enum's cases for its parts folds as document 01 says of the parts themselves.
-- Assumes nothing.
use mathlib.Core.Bool.{Bool, true, false, cond, ◌&&◌, ◌||◌, and-true, and-false, and_self, or-true, or-false}
use mathlib.Core.Path.{◌≡◌, refl, sym, ◌∙◌}
use Prim.Native.Nat.{ℕ}
use native.Mathlib.Omega.{arith}
use borrow.Author.Tests.{ne_eqb, eqb-true}
use lib.Dec.{eqb}
use Rattle.spec.specs.Verdict.{is_string}
use Rattle.spec.specs.Foldable.{const_part, list_part, dot_part, type_call_part, other_part, binary_folds}
use Rattle.spec.specs.Foldable as Foldable
use Rattle.spec.proofs.Outcomes.{by_test}
use Rattle.foldable.specs.declared.Part.{Part}
use Rattle.foldable.specs.declared.Part.TheVariants as part
use Rattle.foldable.specs.Places.{part_for, joins, binary_by}

-- no part on the right folds with a left one that may not
pub left_alone : (d : ℕ) (x y : Part) → joins d x ≡ false → binary_by d x y ≡ false
left_alone d part.Text y e = let z : ◌≡◌ {A = ℕ} 0 1 = cc in absurd (omega arith)
left_alone d part.Const y e = let z : ◌≡◌ {A = ℕ} 0 1 = cc in absurd (omega arith)
left_alone d part.List y e = simp e
left_alone d part.Dot y e = refl
left_alone d part.TypeCall y e = simp e
left_alone d part.Other y e = refl

-- Add is not Equals
apart : (d : ℕ) → eqb d 3 && eqb d 0 ≡ false
apart d =
    by_test _ (eqb d 3)
    (λ e. let other = ne_eqb d 0 (λ (z : d ≡ 0). let three = eqb-true d 3 e in omega arith) in simp (e, other))
    (λ e. simp e)

-- constants by whether they are strings: on both sides, on the left of each other part, and on the right
const_both : (d : ℕ) (s t : Bool) → true ≡ binary_by d (cond s part.Text part.Const) (cond t part.Text part.Const)
const_both d true true = simp or-true
const_both d true false = simp or-true
const_both d false true = refl
const_both d false false = refl

module _ (d : ℕ) where
  const_list : (s : Bool)
      → (eqb d 5 && s) || ((eqb d 3 && true) || (eqb d 0 && (s && false)))
      ≡ binary_by d (cond s part.Text part.Const) part.List
  const_list true = simp (and-true, and-false, or-false)
  const_list false = simp (and-true, and-false, or-false)

  const_none : (s : Bool) (y : Part) → joins d y ≡ false
      → (eqb d 5 && s) || ((eqb d 3 && false) || (eqb d 0 && (s && false)))
      ≡ binary_by d (cond s part.Text part.Const) y
  const_none true y e = simp (and-true, and-false, e)
  const_none false y e = simp (and-false, e)

  const_type_lem : (s : Bool)
      → (eqb d 5 && s) || ((eqb d 3 && false) || (eqb d 0 && (s && true)))
      ≡ binary_by d (cond s part.Text part.Const) part.TypeCall
  const_type_lem true = simp (and-true, and-false)
  const_type_lem false = simp and-false

  list_const : (s : Bool)
      → (eqb d 5 && false) || ((eqb d 3 && true) || (eqb d 0 && false))
      ≡ binary_by d part.List (cond s part.Text part.Const)
  list_const true = simp (and-true, and-false, or-false)
  list_const false = simp (and-true, and-false, or-false)

  type_const : (s : Bool)
      → (eqb d 5 && false) || ((eqb d 3 && false) || (eqb d 0 && (s || false)))
      ≡ binary_by d part.TypeCall (cond s part.Text part.Const)
  type_const true = simp and-false
  type_const false = simp and-false

  -- neither side folds
  no_fold : (eqb d 5 && false) || ((eqb d 3 && false) || (eqb d 0 && false)) ≡ false
  no_fold = simp and-false

  pub binary_table : (x y : Foldable.Part) → binary_folds d x y ≡ binary_by d (part_for x) (part_for y)
  binary_table (const_part c) (const_part e) = const_both d (is_string c) (is_string e)
  binary_table (const_part c) list_part = const_list (is_string c)
  binary_table (const_part c) dot_part = const_none (is_string c) part.Dot refl
  binary_table (const_part c) type_call_part = const_type_lem (is_string c)
  binary_table (const_part c) other_part = const_none (is_string c) part.Other refl
  binary_table list_part (const_part c) = list_const (is_string c)
  binary_table list_part list_part = simp (and-true, and-false, or-false, and_self)
  binary_table list_part dot_part = simp and-false
  binary_table list_part type_call_part = no_fold ∙ sym (apart d)
  binary_table list_part other_part = simp and-false
  binary_table dot_part (const_part c) = no_fold
  binary_table dot_part list_part = no_fold
  binary_table dot_part dot_part = no_fold
  binary_table dot_part type_call_part = no_fold
  binary_table dot_part other_part = no_fold
  binary_table type_call_part (const_part c) = type_const (is_string c)
  binary_table type_call_part list_part = simp and-false
  binary_table type_call_part dot_part = simp and-false
  binary_table type_call_part type_call_part = simp and-false
  binary_table type_call_part other_part = simp and-false
  binary_table other_part (const_part c) = no_fold
  binary_table other_part list_part = no_fold
  binary_table other_part dot_part = no_fold
  binary_table other_part type_call_part = no_fold
  binary_table other_part other_part = no_fold
