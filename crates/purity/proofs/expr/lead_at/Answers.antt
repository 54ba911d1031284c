-- `purity::expr::lead_at` meets its contract. At each turn an expression stands at the place, without whose truth that
-- of the whole is not known.
-- Assumes nothing.
use mathlib.Core.Path.{refl}
use Rattle.purity.proofs.Pures.{expr_inside}
use Rattle.purity.proofs.Leads.{lead_more}
use Rattle.purity.proofs.expr.lead_at.Goals as goal

pub bounds-words-lead : goal.bounds-words-lead
bounds-words-lead c = expr_inside c.requires

pub loop-h-preserved : goal.loop-h-preserved
loop-h-preserved c =
    let inv = c.loop-h.invariant in
    (lead_more inv.1 inv.0 c.leads.ensures c.loop-h-test.true, refl)
