-- The sum holds the counts of the expressions so far.
use Rattle.std.proofs.Common.{◌≡◌}
use Rattle.counting.specs.Counts.{counts}
use Rattle.counting.proofs.Partial.{partial}
use Rattle.counting.proofs.entry.compound_counts.Given as goal

abbrev pub invariant-loop-left : goal.invariant-loop-left
invariant-loop-left l = l.sum ≡ counts (partial l.rest l.left)
