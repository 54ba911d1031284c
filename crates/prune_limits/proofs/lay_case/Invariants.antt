-- `prune_limits::lay_case` is safe: what is laid lies within the space.
-- Assumes nothing.
use Rattle.std.proofs.Common.{length, ◌≤◌}
use Rattle.prune_limits.proofs.lay_case.Given as goal

abbrev pub invariant-loop : goal.invariant-loop
invariant-loop l = l.size ≤ length l.space
