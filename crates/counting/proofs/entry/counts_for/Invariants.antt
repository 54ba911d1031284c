-- As many counts as turns are right.
use Rattle.std.proofs.Common.{◌≡◌, suc, length, take}
use Rattle.counting.specs.Counts.{most_nodes}
use Rattle.counting.specs.Sums.{Filled}
use Rattle.counting.proofs.entry.counts_for.Given as goal

abbrev pub invariant-loop-n : goal.invariant-loop-n
invariant-loop-n l = Filled (take l.n l.counts) × (length l.counts ≡ suc most_nodes)
