-- `ir::node::skip` meets its contract. After each turn the expressions that are left stand from the next place on.
-- Assumes nothing.
use Prim.Native.Nat.{◌-◌}
use lib.ListN.{length}
use Rattle.ir.proofs.Forests.{Walk}
use Rattle.ir.proofs.node.skip.Given as goal

abbrev pub invariant-loop-left : goal.invariant-loop-left
invariant-loop-left l = Walk l.words l.at l.count l.next l.left

abbrev pub decreases-loop-left : goal.decreases-loop-left
decreases-loop-left l = length l.words - l.next
