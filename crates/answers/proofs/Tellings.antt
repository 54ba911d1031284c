-- Outcomes that tell the same number and values.
-- Assumes nothing.
use mathlib.Core.List.{List}
use mathlib.Core.Path.{◌≡◌, subst}
use Prim.Native.Nat.{ℕ}
use Rattle.spec.specs.Outcome.{Outcome, given, refused, size}
use Rattle.spec.specs.Pruning.{Pruned, told}
use Rattle.std.proofs.Common.{Result, Ok, Err}
use Rattle.refusal.specs.declared.Refusal.{Refusal}
use Rattle.refusal.specs.Answers.{outcome_of, outcome_by}
use Rattle.values.specs.Told.{Told, one_value, pair_values}
use Rattle.answers.specs.Told.{size_value, pruned_values}

module _ {A : Type 0} {shown : A → List ℕ} {before left : List ℕ} {r : ℕ} where
  pub told_same : {o p : Outcome A} → o ≡ p → Told shown o before r left → Told shown p before r left
  told_same e t = subst (λ o. Told shown o before r left) e t

-- of what is given in a form of its own
pub told_by : {A B : Type 0} {shown : B → List ℕ} {before left : List ℕ} {r : ℕ}
    → (see : A → B) (answer : Result A Refusal)
    → Told (λ (a : A). shown (see a)) (outcome_of answer) before r left
    → Told shown (outcome_by see answer) before r left
told_by see (Ok a) t = record { number = t.number; values = t.values }
told_by see (Err e) t = record { number = t.number; values = t.values }

module _ {before left : List ℕ} {r : ℕ} where
  pub told_size : (o : Outcome (List ℕ)) → Told one_value (size o) before r left → Told size_value o before r left
  told_size (given xs) t = record { number = t.number; values = t.values }
  told_size (refused number place) t = record { number = t.number; values = t.values }

  pub told_pruned : (o : Outcome Pruned) → Told pair_values (told o) before r left → Told pruned_values o before r left
  told_pruned (given p) t = record { number = t.number; values = t.values }
  told_pruned (refused number place) t = record { number = t.number; values = t.values }
