-- `walk::weigh` meets its contract. After each turn the weight so far and that of the expressions left are the whole.
-- Assumes nothing.
use Prim.Native.Nat.{◌-◌}
use lib.ListN.{length}
use Rattle.walk.proofs.Scales.{Weighing}
use Rattle.walk.proofs.weigh.Given as goal

abbrev pub invariant-loop-left : goal.invariant-loop-left
invariant-loop-left l = Weighing l.words l.at l.next l.weight l.left

abbrev pub decreases-loop-left : goal.decreases-loop-left
decreases-loop-left l = length l.words - l.next
