-- `if_expr::write_if` meets its contract.
-- Assumes nothing.
use Rattle.if_expr.proofs.Writes.{if_written}
use Rattle.if_expr.proofs.write_if.Goals as goal

pub returns : goal.returns
returns c =
    if_written c.requires c.write_head-body.auto.words c.write_head-body.ensures
    c.put-first.ensures c.put-second.ensures c.put.ensures
