-- `values::put` meets its contract: after i turns the first i values are laid down, as far as there is room.
-- Assumes nothing.
use Rattle.std.proofs.Common.{◌≡◌, take}
use Rattle.values.specs.Told.{laid}
use Rattle.values.proofs.put.Given as goal

abbrev pub invariant-loop-i : goal.invariant-loop-i
invariant-loop-i l = l.values ≡ laid (take l.i l.told) l.initial.values
