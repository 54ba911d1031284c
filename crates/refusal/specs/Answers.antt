-- The answers of entry points as outcomes: what is given, or the refusal's number and place.
use Rattle.std.specs.Prelude.{Result, Ok, Err}
use Rattle.spec.specs.Outcome.{Outcome, given, refused}
use Rattle.refusal.specs.declared.Refusal.{Refusal}
use Rattle.refusal.specs.Numbers.{number_of, place_of}

abbrev pub outcome_of : {A : Type 0} → Result A Refusal → Outcome A
outcome_of (Ok x) = given x
outcome_of (Err r) = refused (number_of r) (place_of r)

-- the same, where the outcome has its own form of what is given
abbrev pub outcome_by : {A B : Type 0} → (A → B) → Result A Refusal → Outcome B
outcome_by see (Ok x) = given (see x)
outcome_by see (Err r) = refused (number_of r) (place_of r)
