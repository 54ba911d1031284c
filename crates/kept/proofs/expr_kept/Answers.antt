-- `kept::expr_kept` meets its contract. After each turn the words behind and whatever kept expressions come for those
-- that are left, with room for their levels, are one kept expression. Each turn leaves fewer words.
-- Assumes nothing.
use mathlib.Core.Path.{sym}
use Rattle.kept.proofs.Walks.{walk_step}
use Rattle.kept.proofs.expr_kept.Goals as goal

pub loop-left-preserved : goal.loop-left-preserved
loop-left-preserved c =
    rw (sym c.in_ok-room.ensures.1) at
    (walk_step c.loop-left.invariant c.loop-left-test.true c.in_ok-room.ensures.0 c.in_ok-own.ensures)
