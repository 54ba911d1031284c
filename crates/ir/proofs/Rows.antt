-- Rows of the tables, over plain numbers.
-- Assumes nothing.
use mathlib.Core.Bool.{true, false, ◌&&◌, true≢false}
use mathlib.Core.Path.{◌≡◌, refl, ap₂, sym, ◌∙◌}
use Prim.Native.Nat.{ℕ, ◌≤◌}
use native.Mathlib.Omega.{arith}
use borrow.Author.Tests.{ne_eqb, le-leb, lt-leb}
use lib.Dec.{eqb}
use Rattle.spec.specs.Grammar.{within, part_count}
use Rattle.spec.proofs.Heads.{within_low, within_high}
use Rattle.spec.proofs.Outcomes.{by_test}
use Rattle.tables.specs.Payload.{const_count, pay_count}
use Rattle.tables.proofs.Rows.{ranged}

-- ---- ranges

-- none of them
pub outside : (low high k : ℕ) → within low high k ≡ false → low ≤ k → k ≤ high → ⊥
outside low high k e l h = true≢false (sym (ap₂ ◌&&◌ (le-leb low k l) (le-leb k high h)) ∙ e)

pub not_within : (low high k : ℕ) → (low ≤ k → k ≤ high → ⊥) → within low high k ≡ false
not_within low high k f =
    by_test _ (within low high k)
    (λ e. absurd (f (within_low low high k e) (within_high low high k e)))
    (λ e. e)

-- ---- leaves

-- a leaf is of one of five kinds
leaf_kind : (P : ℕ → Type 0) → P 1 → P 2 → P 3 → P 4 → P 5 → (k : ℕ) → within 1 5 k ≡ true → P k
leaf_kind P a b c d e k h = ranged P 1 4 k h (a, (b, (c, (d, e))))

-- it has a payload
pub leaf_pay : (k d : ℕ) → within 1 5 k ≡ true → pay_count k d 0 ≡ 0 → ⊥
leaf_pay k d h = leaf_kind (λ (n : ℕ). pay_count n d 0 ≡ 0 → ⊥) const one one one one k h
  where
    const : const_count d ≡ 0 → ⊥
    const = by_test _ (eqb d 6) (λ e. simp e (λ z. omega arith)) (λ e. simp e (λ z. omega arith))

    one : pay_count 2 d 0 ≡ 0 → ⊥
    one z = omega arith

-- that is as long whatever its first word is
pub leaf_same : (k d w : ℕ) → within 1 5 k ≡ true → pay_count k d w ≡ pay_count k d 0
leaf_same k d w h = leaf_kind (λ (n : ℕ). pay_count n d w ≡ pay_count n d 0) refl refl refl refl refl k h

-- and no parts
pub leaf_parts : (k d w : ℕ) → within 1 5 k ≡ true → part_count k d w ≡ 0
leaf_parts k d w h = leaf_kind (λ (n : ℕ). part_count n d w ≡ 0) refl refl refl refl refl k h

-- ---- other nodes

-- up to 34 only leaves, Builtin1 and Call have a payload
pub bare_pay : (k d w : ℕ) → within 1 5 k ≡ false → (k ≡ 16 → ⊥) → (k ≡ 11 → ⊥) → k ≤ 34 → pay_count k d w ≡ 0
bare_pay k d w h call builtin low =
    simp (
      ne_eqb k 1 (λ e. outside 1 5 k h (omega arith) (omega arith)),
      not_within 2 5 k (λ l m. outside 1 5 k h (omega arith) m),
      ne_eqb k 11 builtin,
      ne_eqb k 16 call,
      ne_eqb k 35 (λ e. omega arith),
      ne_eqb k 64 (λ e. omega arith),
      lt-leb 67 k (omega arith),
      ne_eqb k 69 (λ e. omega arith),
    )
