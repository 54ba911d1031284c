-- `reader::read_at` meets its contract. The words from its place on fall at each call: parts stand behind own words.
-- The loop's invariant: what is read is what the parts that are left give.
-- Assumes nothing.
use mathlib.Core.Path.{◌≡◌}
use Prim.Native.Nat.{◌-◌, ◌<◌}
use lib.ListN.{length}
use Rattle.spec.specs.Reading.{read_at}
use Rattle.steps.specs.Steps.{next_of}
use Rattle.reader.proofs.Goes.{parts_of}
use Rattle.reader.proofs.+read_at.Given as goal

abbrev pub decreases-read_at : goal.decreases-read_at
decreases-read_at l = length l.words.now - l.at

abbrev pub invariant-loop-i : goal.invariant-loop-i
invariant-loop-i l =
    (l.at < l.next)
    × (next_of (read_at l.levels l.words l.fn.sort l.at) ≡ parts_of l.below l.words l.own l.i l.next)
