-- `if_expr::if_expr` meets its contract. At each step what remains to be done makes the whole; what is left of the slot
-- falls, as the part that is gone on with stands behind the condition's header.
-- Assumes nothing.
use Prim.Native.Nat.{◌-◌}
use Rattle.if_expr.proofs.Chains.{Going}
use Rattle.if_expr.proofs.if_expr.Given as goal

abbrev pub invariant-loop-b : goal.invariant-loop-b
invariant-loop-b l =
    Going l.initial.words l.initial.slot.low (l.initial.slot.high - l.initial.slot.low) l.initial.arms l.initial.to
    l.slot.high l.words l.slot.low l.arms l.to

abbrev pub decreases-loop-b : goal.decreases-loop-b
decreases-loop-b l = l.slot.high - l.slot.low
