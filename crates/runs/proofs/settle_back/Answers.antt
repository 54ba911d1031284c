-- `runs::settle_back` meets its contract.
-- Assumes nothing.
use native.Mathlib.Omega.{arith}
use Rattle.runs.proofs.Backs.{back_upto, back_put, back_left}
use Rattle.runs.proofs.settle_back.Goals as goal

pub overflow_sub-back : goal.overflow_sub-back
overflow_sub-back c = omega (arith, (back_upto c.requires c.new.auto.words c.in-Expr.ensures).1)

pub put-requires : goal.put-requires
put-requires c = back_put c.requires c.new.auto.words c.in-Expr.ensures

pub returns-in-Expr : goal.returns-in-Expr
returns-in-Expr c = back_left c.requires c.new.auto.words c.in-Expr.ensures c.put.ensures
