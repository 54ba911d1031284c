-- `prune_limits::LimitCases::size` meets its contract: a case has its first number at least.
-- Assumes nothing.
use Rattle.std.proofs.Common.{◌≤◌}
use Rattle.prune_limits.proofs.LimitCasesCases.size.Given as goal

abbrev pub invariant-loop : goal.invariant-loop
invariant-loop l = 1 ≤ l.at
