-- `outer::optimize_outer` meets its contract. Each turn of the loop reads a statement and makes something of it; what
-- is left behind an exit is only read.
-- Assumes nothing.
use mathlib.Core.Path.{◌≡◌}
use Rattle.outer.proofs.Turns.{Going}
use Rattle.outer.proofs.optimize_outer.Given as goal

abbrev pub invariant-statements : goal.invariant-statements
invariant-statements l =
    Going l.initial.words l.n l.words l.next l.run l.foldable l.i × (l.left ≡ 0)
