-- The list of all expressions with n nodes is made from the lists of those with fewer, which are themselves such lists
-- (`formulas_next`): `next` looks only at numbers below n, and there `below n` gives `formulas`.
-- Assumes nothing.
use mathlib.Core.Path.{◌≡◌, refl, sym, ap, ap₂, ◌∙◌}
use mathlib.Core.List.{List, ◌++◌, map}
use mathlib.Core.Logic.{⊎_elim}
use Prim.Native.Nat.{ℕ, zero, suc, ◌-◌, ◌≤◌, ◌<◌}
use native.Mathlib.Omega.{arith}
use lib.Dec.{eqb}
use Rattle.std.proofs.lemmas.Bool.{cases_Bool, cond-true, cond-false, eqb-true, eqb-false}
use Rattle.spec.specs.Tree.{Expr, not}
use Rattle.counting.specs.Formulas.{joins, splits, next, below, formulas}

-- what `splits` and `next` give depends only on the lists for numbers below n
module _ (f g : ℕ → List Expr) (n : ℕ) (same : (k : ℕ) → k < n → f k ≡ g k) where
  splits_same : (rest lefts : ℕ) → rest < n → lefts ≤ n → splits f rest lefts ≡ splits g rest lefts
  unfolding splits
  splits_same rest zero r l = refl
  splits_same rest (suc left) r l =
      ap₂ (λ (xs ys : List Expr). xs ++ ys) (splits_same rest left r (omega arith))
      (ap₂ joins (same left (omega arith)) (same (rest - left) (omega arith)))

next_same : (f g : ℕ → List Expr) (n : ℕ) → ((k : ℕ) → k < n → f k ≡ g k) → next f n ≡ next g n
unfolding next
next_same f g zero same = refl
next_same f g (suc zero) same = refl
next_same f g (suc (suc n)) same =
    ap₂ (λ (xs ys : List Expr). map not xs ++ ys) (same (suc n) (omega arith))
    (splits_same f g (suc (suc n)) same (suc n) (suc n) (omega arith) (omega arith))

-- `below n` gives `formulas` below n
pub below_formulas : (n k : ℕ) → k < n → below n k ≡ formulas k
unfolding below formulas
below_formulas zero k h = absurd (omega arith)
below_formulas (suc n) k h =
    ⊎_elim
    (λ e. cond-true (eqb k n) (next (below n) n) (below n k) e
    ∙ ap (λ (m : ℕ). next (below m) m) (sym (eqb-true k n e)))
    (λ e. let other = eqb-false k n e in
    cond-false (eqb k n) (next (below n) n) (below n k) e ∙ below_formulas n k (omega arith))
    (cases_Bool (eqb k n))

pub formulas_next : (n : ℕ) → formulas n ≡ next formulas n
unfolding formulas
formulas_next n = next_same (below n) formulas n (below_formulas n)
