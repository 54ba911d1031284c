-- `optimize::optimize`, `optimize::optimize_if`, `optimize::optimize_node` and `optimize::optimize_parts` meet their
-- contracts. The words from the place on fall at each call of `optimize_if` and `optimize_parts`, which call `optimize`
-- at no lower a place, and it calls `optimize_node` at its own. The first two count two more there, and `optimize` one
-- more.
-- Assumes nothing.
use Prim.Native.Nat.{◌+◌, ◌-◌, ◌*◌}
use lib.ListN.{length}
use Rattle.optimize.proofs.Rows.{Inv}
use Rattle.optimize.proofs.+optimize_optimize_if_optimize_node_optimize_parts.Given as goal

abbrev pub decreases-optimize : goal.decreases-optimize
decreases-optimize l = 3 * (length l.words.now - l.at) + 1

abbrev pub decreases-optimize_if : goal.decreases-optimize_if
decreases-optimize_if l = 3 * (length l.words.now - l.first) + 2

abbrev pub decreases-optimize_node : goal.decreases-optimize_node
decreases-optimize_node l = 3 * (length l.words.now - l.at)

abbrev pub decreases-optimize_parts : goal.decreases-optimize_parts
decreases-optimize_parts l = 3 * (length l.words.now - l.at) + 2

abbrev pub invariant-optimize_parts-loop : goal.invariant-optimize_parts-loop
invariant-optimize_parts-loop l = Inv l.initial.words l.at l.count l.top l.words l.done l.counter
