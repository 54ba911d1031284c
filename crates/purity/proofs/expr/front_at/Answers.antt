-- `purity::expr::front_at` meets its contract. At each turn an expression stands at the place, and the whole is pure
-- only where it is.
-- Assumes nothing.
use mathlib.Core.Path.{refl}
use Rattle.purity.proofs.Pures.{expr_inside}
use Rattle.purity.proofs.Fronts.{front_more}
use Rattle.purity.proofs.expr.front_at.Goals as goal

pub bounds-words-front : goal.bounds-words-front
bounds-words-front c = expr_inside c.requires

pub loop-h-preserved : goal.loop-h-preserved
loop-h-preserved c =
    let inv = c.loop-h.invariant in
    (front_more inv.1 inv.0 c.fronts.ensures c.loop-h-test.true, refl)
