-- `expr_bool::join` meets its contract.
-- Assumes nothing.
use Rattle.expr_bool.proofs.Sequels.{joined_as, join_seq, join_left, join_both}
use Rattle.expr_bool.proofs.join.Goals as goal

pub returns-then-b-or : goal.returns-then-b-or
returns-then-b-or c = joined_as c.in-Const.is (join_seq c.if-b-or.true c.seq_const.ensures)

pub returns-else-b-or : goal.returns-else-b-or
returns-else-b-or c = joined_as c.in-Const.is (join_left c.if-b-or.false c.put.ensures)

pub returns-in-Expr : goal.returns-in-Expr
returns-in-Expr c = joined_as c.in-Expr.is (join_both c.in-Expr.last)
