-- `if_expr::if_expr` meets its contract. At each step what remains to be done makes the whole; what is left of the slot
-- falls, as the part that is gone on with stands behind the condition's header.
-- Assumes nothing.
use Rattle.if_expr.proofs.Chains.{going_start, going_arm, going_const, going_left, going_made, going_not, going_seq}
use Rattle.if_expr.proofs.if_expr.Goals as goal

pub loop-b-init : goal.loop-b-init
loop-b-init c = going_start c.requires

pub put-requires : goal.put-requires
put-requires c = going_arm c.loop-b.invariant c.settle.auto.words c.in-Const.ensures c.of-arm.ensures

pub returns-in-Const : goal.returns-in-Const
returns-in-Const c =
    going_const c.loop-b.invariant c.settle.auto.words c.in-Const.ensures c.of-arm.ensures c.put.ensures

pub if_left-requires : goal.if_left-requires
if_left-requires c = going_left c.loop-b.invariant c.settle.auto.words c.in-Expr.ensures

pub returns-in-Made : goal.returns-in-Made
returns-in-Made c = going_made c.loop-b.invariant c.settle.auto.words c.in-Expr.ensures c.in-Made.ensures

pub loop-b-preserved-in-Not : goal.loop-b-preserved-in-Not
loop-b-preserved-in-Not c =
    going_not c.loop-b.invariant c.settle.auto.words c.in-Expr.ensures c.if_left.auto.words c.in-Not.ensures
    c.swapped-arms.ensures

pub loop-b-preserved : goal.loop-b-preserved
loop-b-preserved c =
    going_seq c.loop-b.invariant c.settle.auto.words c.in-Expr.ensures c.if_left.auto.words c.in-Seq.ensures
