-- `if_expr::if_left` meets its contract: the step is one of those of Chains.
-- Assumes nothing.
use Rattle.if_expr.proofs.Ways.{test_ask, first_some, first_one, first_ask, write_ask}
use Rattle.if_expr.proofs.Chains.{not_step, pure_step, behind_step, made_step}
use Rattle.if_expr.proofs.if_left.Goals as goal

pub test_at-requires : goal.test_at-requires
test_at-requires c = test_ask c.requires

pub is_pure_infallible-requires : goal.is_pure_infallible-requires
is_pure_infallible-requires c = first_some c.requires c.in-Seq.ensures

pub skip-part-requires : goal.skip-part-requires
skip-part-requires c = first_one c.requires c.in-Seq.ensures

pub put-behind-requires : goal.put-behind-requires
put-behind-requires c =
    first_ask c.requires c.in-Seq.ensures c.skip-part.ensures c.write_head-body.auto.words c.write_head-body.ensures

pub write_if-requires : goal.write_if-requires
write_if-requires c = write_ask c.requires

pub returns-in-Not : goal.returns-in-Not
returns-in-Not c = not_step c.requires c.in-Not.ensures

pub returns-in-Some : goal.returns-in-Some
returns-in-Some c = pure_step c.requires c.in-Seq.ensures c.in-Some.ensures

pub returns-in_default : goal.returns-in_default
returns-in_default c =
    behind_step c.requires c.in-Seq.ensures c.in_default.ensures c.skip-part.ensures c.write_head-body.auto.words
    c.write_head-body.ensures c.put-behind.ensures

pub returns-in-Stays : goal.returns-in-Stays
returns-in-Stays c = made_step c.requires c.in-Stays.ensures c.write_if.ensures
