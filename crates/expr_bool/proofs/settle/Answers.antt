-- `expr_bool::settle` meets its contract.
-- Assumes nothing.
use Rattle.expr_bool.proofs.Slots.{slot_ask, slot_put, slot_expr}
use Rattle.expr_bool.proofs.settle.Goals as goal

pub new-requires : goal.new-requires
new-requires c = slot_ask c.requires

pub put-requires : goal.put-requires
put-requires c = slot_put c.requires c.new.auto.words c.in-Expr.ensures

pub returns-in-Expr : goal.returns-in-Expr
returns-in-Expr c = slot_expr c.requires c.new.auto.words c.in-Expr.ensures c.put.ensures
