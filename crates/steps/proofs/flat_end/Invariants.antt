-- `steps::flat_end` meets its contract: node by node, what is read of the rest is read of the whole.
-- Assumes nothing.
use Prim.Native.Nat.{◌-◌}
use lib.ListN.{length}
use Rattle.steps.proofs.Flat.{Flat}
use Rattle.steps.proofs.flat_end.Given as goal

abbrev pub invariant-loop-left : goal.invariant-loop-left
invariant-loop-left l = Flat l.words l.at l.levels l.next l.left l.room

abbrev pub decreases-loop-left : goal.decreases-loop-left
decreases-loop-left l = length l.words - l.next
