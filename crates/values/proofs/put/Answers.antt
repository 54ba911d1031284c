-- `values::put` meets its contract: after its turns all values are laid down, as far as there is room.
-- Assumes nothing.
use Rattle.std.proofs.Common.{refl, ◌∙◌, arith}
use Rattle.values.specs.Told.{laid}
use Rattle.values.proofs.Laid.{laid_next, laid_all}
use Rattle.values.proofs.put.Goals as goal

pub loop-i-init : goal.loop-i-init
unfolding laid
loop-i-init c = refl

pub loop-i-preserved : goal.loop-i-preserved
loop-i-preserved c =
    laid_next c.args.told.now c.args.values.now _ _ c.loop-i.i c.loop-i.invariant c.loop-i-test.true
    c.put_at.ensures.inside c.put_at.ensures.outside

pub returns : goal.returns
returns c =
    c.loop-i.invariant ∙ laid_all c.args.told.now c.args.values.now c.loop-i.i (omega (arith, c.loop-i-test.false))
