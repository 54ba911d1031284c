-- Every row of the table of cases holds.
-- Assumes nothing.
use mathlib.Core.Bool.{true}
use mathlib.Core.Path.{◌≡◌, refl}
use Rattle.spec.specs.Cases.{all, cases}
use Rattle.spec.proofs.Computing.{computing_cases}

-- the one theorem, computed
pub all_cases : all cases ≡ true
unfolding computing_cases
all_cases = refl
