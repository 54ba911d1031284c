-- `ir::node::skip` meets its contract: there are no more expressions left than words.
-- Assumes nothing.
use native.Mathlib.Omega.{arith}
use Rattle.ir.proofs.Forests.{walk_turn}
use Rattle.ir.proofs.node.skip.Goals as goal

pub overflow_add-left : goal.overflow_add-left
overflow_add-left c =
    let turn = walk_turn c.requires c.loop-left-test.true c.loop-left.invariant c.extent_at-node.ensures in
    omega (arith, turn.few)
