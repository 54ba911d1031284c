-- `in_place::expr_in_place` meets its contract.
-- Assumes nothing.
use Rattle.purity.proofs.Pures.{an_end, no_end}
use Rattle.in_place.proofs.Places.{place_none, place_stays}
use Rattle.in_place.proofs.Places.{core_order, core_ask, made_down, made_done}
use Rattle.in_place.proofs.expr_in_place.Goals as goal

pub returns-then-is_some : goal.returns-then-is_some
returns-then-is_some c =
    place_none c.requires (an_end _ _ _ _ c.is_some.ensures c.if-is_some.true c.is_pure_infallible.ensures).1
    c.empty.ensures

pub returns-in-Stays : goal.returns-in-Stays
returns-in-Stays c =
    place_stays c.requires (no_end _ _ _ _ c.is_some.ensures c.if-is_some.false c.is_pure_infallible.ensures)
    c.in-Stays.ensures
    c.write_head.ensures c.single.ensures

pub overflow_sub-nodes : goal.overflow_sub-nodes
overflow_sub-nodes c = core_order c.requires c.lift-high.ensures c.lift-high.auto.words c.core_at-core.ensures

pub expr-made-requires : goal.expr-made-requires
expr-made-requires c = core_ask c.requires c.lift-high.ensures c.lift-high.auto.words c.core_at-core.ensures

pub place-requires : goal.place-requires
place-requires c =
    made_down c.requires c.lift-high.ensures c.lift-high.auto.words c.core_at-core.ensures
    c.expr-made.ensures c.expr-made.auto.words

pub returns : goal.returns
returns c =
    made_done c.requires c.lift-high.ensures c.lift-high.auto.words c.core_at-core.ensures
    c.expr-made.ensures c.expr-made.auto.words c.place.ensures
