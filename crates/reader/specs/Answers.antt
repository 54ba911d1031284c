-- What is told of a reading.
use Rattle.spec.specs.Outcome.{Outcome, given, refused}

-- whether there is a tree, whatever it is
abbrev pub passed : {A : Type 0} → Outcome A → Outcome (Unit {0})
passed (given a) = given tt
passed (refused number place) = refused number place
