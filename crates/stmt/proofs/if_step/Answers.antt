-- `stmt::if_step` meets its contract: the condition is simplified at the back of its slot, and its case told.
-- Assumes nothing.
use Rattle.stmt.proofs.Chains.{step_const, step_test, step_skip, step_write, step_whole}
use Rattle.stmt.proofs.if_step.Goals as goal

pub test_at-requires : goal.test_at-requires
test_at-requires c = step_test c.requires c.settle_back.auto.words c.in-Expr.ensures

pub skip-part-requires : goal.skip-part-requires
skip-part-requires c = step_skip c.requires c.settle_back.auto.words c.in-Expr.ensures c.in-Seq.ensures

pub write_if-requires : goal.write_if-requires
write_if-requires c = step_write c.requires c.settle_back.auto.words c.in-Expr.ensures

pub returns-in-Const : goal.returns-in-Const
returns-in-Const c =
    step_const c.requires c.settle_back.auto.words c.in-Const.ensures c.of.ensures c.place.ensures

pub returns-else-arms : goal.returns-else-arms
returns-else-arms c =
    step_whole c.requires c.settle_back.auto.words c.in-Expr.ensures c.in-Stays.ensures c.if-arms.false
    c.write_if.ensures
