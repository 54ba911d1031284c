-- `quick::target_end` meets its contract. The levels fall at each call.
-- Assumes nothing.
use mathlib.Core.Path.{◌≡◌}
use Rattle.spec.specs.Grammar.{part_sort}
use Rattle.spec.specs.Reading.{read_at}
use Rattle.spec.specs.declared.Sort.TheVariants as sort
use Rattle.steps.specs.Steps.{next_of}
use Rattle.steps.proofs.Nodes.{parts_from}
use Rattle.quick.proofs.+target_end.Given as goal

abbrev pub decreases-target_end : goal.decreases-target_end
decreases-target_end l = l.levels

abbrev pub invariant-loop-i : goal.invariant-loop-i
invariant-loop-i l =
    next_of (read_at l.levels l.words sort.Target l.at)
    ≡ parts_from (l.below) l.words (part_sort 66) l.count l._i l.next
