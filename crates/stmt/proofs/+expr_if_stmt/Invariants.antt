-- `stmt::expr` and `stmt::if_stmt` meet their contracts. The nodes fall at each call but one: an If whose arms are both
-- empty asks for its condition's statements with the same nodes, and `expr` counts one less there.
-- Assumes nothing.
use Prim.Native.Nat.{◌+◌, ◌*◌}
use Rattle.stmt.proofs.Turns.{Turn}
use Rattle.stmt.proofs.Chains.{Going}
use Rattle.stmt.proofs.+expr_if_stmt.Given as goal

abbrev pub decreases-expr : goal.decreases-expr
decreases-expr l = 2 * l.nodes

abbrev pub decreases-if_stmt : goal.decreases-if_stmt
decreases-if_stmt l = 2 * l.nodes + 1

abbrev pub invariant-expr-loop-i : goal.invariant-expr-loop-i
invariant-expr-loop-i l = Turn l.initial.words l.low l.at l.end l.top l.nodes l.count l.words l.run l.next l.i

abbrev pub invariant-if_stmt-loop-made : goal.invariant-if_stmt-loop-made
invariant-if_stmt-loop-made l = Going l.initial.words l.slot.low l.initial.here l.slot.high l.initial.arms l.top
    l.initial.left l.words l.here l.arms l.run l.left

abbrev pub decreases-if_stmt-loop-made : goal.decreases-if_stmt-loop-made
decreases-if_stmt-loop-made l = l.left
