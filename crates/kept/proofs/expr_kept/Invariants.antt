-- `kept::expr_kept` meets its contract. After each turn the words behind and whatever kept expressions come for those
-- that are left, with room for their levels, are one kept expression. Each turn leaves fewer words.
-- Assumes nothing.
use Prim.Native.Nat.{◌-◌}
use lib.ListN.{length}
use Rattle.kept.proofs.Walks.{Walking}
use Rattle.kept.proofs.expr_kept.Given as goal

abbrev pub invariant-loop-left : goal.invariant-loop-left
invariant-loop-left l = Walking l.words l.at l.next l.foldable l.left l.room

abbrev pub decreases-loop-left : goal.decreases-loop-left
decreases-loop-left l = length l.words - l.next
