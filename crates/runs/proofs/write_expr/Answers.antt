-- `runs::write_expr` meets its contract.
-- Assumes nothing.
use Rattle.runs.proofs.Writings.{one_done}
use Rattle.runs.proofs.write_expr.Goals as goal

pub returns : goal.returns
returns c =
    one_done c.requires c.write_head-body.ensures c.put-last.ensures c.single.ensures
