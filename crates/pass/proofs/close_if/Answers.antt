-- `close_if` meets its contract.
-- Assumes nothing.
use Rattle.pass.proofs.Branches.{close_empty, close_kept}
use Rattle.pass.proofs.close_if.Goals as goal

pub returns-then-size-eq2 : goal.returns-then-size-eq2
returns-then-size-eq2 c = close_empty c.requires c.if-size-eq2.true c.expr_in_place.ensures

pub returns : goal.returns
returns c = close_kept c.requires c.if-size-eq2.false c.single.ensures
