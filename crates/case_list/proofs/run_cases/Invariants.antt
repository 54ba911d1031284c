-- `case_list::run_cases` is safe and ends: what is left of the list falls.
-- Assumes nothing.
use Rattle.std.proofs.Common.{length, ◌-◌, ◌≤◌}
use Rattle.case_list.proofs.run_cases.Given as goal

abbrev pub invariant-loop-at : goal.invariant-loop-at
invariant-loop-at g l = l.at ≤ length l.numbers

abbrev pub decreases-loop-at : goal.decreases-loop-at
decreases-loop-at g l = length l.numbers - l.at
