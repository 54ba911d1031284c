-- Ranges of numbers.
-- Assumes nothing.
use mathlib.Core.Bool.{true}
use mathlib.Core.Path.{◌≡◌, subst}
use Prim.Native.Nat.{ℕ, zero, suc, ◌+◌, ◌≤◌}
use native.Mathlib.Decide.{ℕ_discrete}
use native.Mathlib.Omega.{arith}
use Rattle.spec.specs.Grammar.{within}
use Rattle.spec.proofs.Heads.{within_low, within_high}

-- all numbers of a range: `low` and the n behind it
abbrev pub Each : (ℕ → Type 0) → ℕ → ℕ → Type 0
Each P low zero = P low
Each P low (suc n) = P low × Each P (suc low) n

pub ranged : (P : ℕ → Type 0) (low n k : ℕ) → within low (low + n) k ≡ true → Each P low n → P k
ranged P low n k h t = go n low t (within_low low (low + n) k h) (within_high low (low + n) k h)
  where
    go : (n low : ℕ) → Each P low n → low ≤ k → k ≤ low + n → P k
    go zero low t l m = let e : low ≡ k = omega arith in subst P e t
    go (suc n) low t l m = elim (ℕ_discrete low k) [
      | yes e ↦ subst P e t.0
      | no u ↦ go n (suc low) t.1 (omega arith) (omega arith)
    ]
