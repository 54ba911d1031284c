-- `optimize_simple` meets its contract.
-- Assumes nothing.
use Rattle.pass.proofs.Simples.{simple_done}
use Rattle.pass.proofs.optimize_simple.Goals as goal

pub returns : goal.returns
returns c =
    simple_done c.requires.is c.put-body.ensures c.put-body.auto.words c.optimize_parts-parts.ensures
    c.exits-last.ensures
