-- What the contracts of this crate say by its answers.
use Rattle.std.specs.Prelude.{List, ◌≡◌, ℕ, Result}
use Rattle.spec.specs.Outcome.{Outcome, size, after}
use Rattle.refusal.specs.declared.Refusal.{Refusal}
use Rattle.refusal.specs.Answers.{outcome_of}

-- the answer, how many elements were given or what is wrong, and the whole lent result at exit are what an outcome says
pub record Met (outcome : Outcome (List ℕ)) (before : List ℕ) (r : Result ℕ Refusal) (left : List ℕ) : Type 0 where
  pub answered : outcome_of r ≡ size outcome
  pub result : left ≡ after outcome before
