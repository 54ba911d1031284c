-- `walk::weigh` meets its contract. After each turn the weight so far and that of the expressions left are the whole.
-- Assumes nothing.
use native.Mathlib.Omega.{arith}
use Rattle.walk.proofs.Scales.{weigh_turn, fits}
use Rattle.walk.proofs.weigh.Goals as goal

pub overflow_add-weight : goal.overflow_add-weight
overflow_add-weight c =
    omega (
      arith,
      fits c.requires c.loop-left-test.true c.loop-left.invariant c.extent_at-node.ensures
          c.own_weight-weight.ensures,
    )

pub overflow_add-left : goal.overflow_add-left
overflow_add-left c =
    omega (
      arith,
      weigh_turn c.requires c.loop-left-test.true c.loop-left.invariant c.extent_at-node.ensures,
    )
