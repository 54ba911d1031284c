-- The pass over statements and lists meets its contracts: `optimize_stmt`, `optimize_if`, `slotted_if`, `optimize_for`,
-- `optimize_body` and `optimize_list`. Four times the words from their place on fall at each call; at one place
-- `optimize_if` and `optimize_body` count one more, and `optimize_stmt` two.
-- Assumes nothing.
use Prim.Native.Nat.{◌+◌, ◌-◌, ◌*◌}
use lib.ListN.{length}
use Rattle.pass.proofs.Rows.{Inv}
use Rattle.pass.proofs.+optimize_body_optimize_for_optimize_if_optimize_list_optimize_stmt_slotted_if.Given as goal

abbrev pub decreases-optimize_body : goal.decreases-optimize_body
decreases-optimize_body l = 4 * (length l.words.now - l.at) + 1

abbrev pub decreases-optimize_for : goal.decreases-optimize_for
decreases-optimize_for l = 4 * (length l.words.now - l.at)

abbrev pub decreases-optimize_if : goal.decreases-optimize_if
decreases-optimize_if l = 4 * (length l.words.now - l.at) + 1

abbrev pub decreases-optimize_list : goal.decreases-optimize_list
decreases-optimize_list l = 4 * (length l.words.now - l.at)

abbrev pub decreases-optimize_stmt : goal.decreases-optimize_stmt
decreases-optimize_stmt l = 4 * (length l.words.now - l.at) + 2

abbrev pub decreases-slotted_if : goal.decreases-slotted_if
decreases-slotted_if l = 4 * (length l.words.now - l.at)

abbrev pub invariant-optimize_list-statements : goal.invariant-optimize_list-statements
invariant-optimize_list-statements l = Inv l.initial.words l.at l.top l._i-end l.words l.next l.run l.foldable l._i
