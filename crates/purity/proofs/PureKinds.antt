-- Ranges of kinds, and the kinds that a pure node may have, over plain numbers.
-- Assumes nothing.
use mathlib.Core.Bool.{true, false, ◌||◌, true≢false}
use mathlib.Core.Path.{◌≡◌, sym, ◌∙◌}
use Prim.Native.Nat.{ℕ, ◌≤◌}
use native.Mathlib.Omega.{arith}
use borrow.Author.Tests.{ne_eqb, le-leb, leb-true}
use lib.Dec.{eqb, leb}
use Rattle.spec.specs.Grammar.{within}
use Rattle.spec.specs.Views.{own_pure}
use Rattle.spec.proofs.Outcomes.{both, neither, by_test}
use Rattle.purity.specs.Told.{may_be_pure}

-- a number in a range, and one outside
pub range : (low high n : ℕ) → low ≤ n → n ≤ high → within low high n ≡ true
range low high n l h = simp (le-leb low n l, le-leb n high h)

pub in_range : (low high n : ℕ) → within low high n ≡ true → (low ≤ n) × (n ≤ high)
in_range low high n e =
    let b = both (leb low n) (leb n high) e in
    (leb-true low n b.0, leb-true n high b.1)

pub outside : (low high n : ℕ) → within low high n ≡ false → low ≤ n → n ≤ high → ⊥
outside low high n e l h = true≢false (sym (range low high n l h) ∙ e)

pub not_within : (low high n : ℕ) → (low ≤ n → n ≤ high → ⊥) → within low high n ≡ false
not_within low high n f =
    by_test _ (within low high n) (λ t. let b = in_range low high n t in absurd (f b.0 b.1)) (λ t. t)

-- no pure node has any other kind
pub never_pure : (k d w lead : ℕ) → may_be_pure k ≡ false → own_pure k d w lead ≡ false
never_pure k d w lead e =
    let s = neither (eqb k 1 || within 6 9 k) (within 11 13 k || eqb k 16) e in
    let a = neither (eqb k 1) (within 6 9 k) s.0 in
    let b = neither (within 11 13 k) (eqb k 16) s.1 in
    let low : (6 ≤ k) → (k ≤ 9) → ⊥ = outside 6 9 k a.1 in
    let high : (11 ≤ k) → (k ≤ 13) → ⊥ = outside 11 13 k b.0 in
    simp (
      a.0,
      not_within 6 7 k (λ l h. low l (omega arith)),
      ne_eqb k 8 (λ z. low (omega arith) (omega arith)),
      ne_eqb k 9 (λ z. low (omega arith) (omega arith)),
      ne_eqb k 11 (λ z. high (omega arith) (omega arith)),
      not_within 12 13 k (λ l h. high (omega arith) h),
      b.1,
    )
