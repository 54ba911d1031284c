-- `stmt::expr` and `stmt::if_stmt` meet their contracts. The nodes fall at each call but one: an If whose arms are both
-- empty asks for its condition's statements with the same nodes, and `expr` counts one less there.
-- Assumes nothing.
use Prim.Native.Nat.{ℕ}
use native.Mathlib.Omega.{arith}
use Rattle.purity.specs.Told.{IsImpure}
use Rattle.purity.proofs.Pures.{an_end, no_end}
use Rattle.stmt.proofs.Steps.{some_left, nothing, part_done}
use Rattle.stmt.proofs.Steps.{stays_ask, stays_done}
use Rattle.stmt.proofs.Turns.{turn_end, turn_ask, turn_extend, turn_again, turn_done}
use Rattle.stmt.proofs.Sides.{logic_skip, logic_put, logic_settle, logic_first, logic_ask, logic_down, logic_if}
use Rattle.stmt.proofs.Sides.{logic_place, logic_done, logic_close, logic_closed}
use Rattle.stmt.proofs.Ifs.{if_some, bare_ask, bare_done, ahead_ask}
use Rattle.stmt.proofs.Chains.{made_extend, going_done, going_not, ahead_extend, going_seq}
use Rattle.stmt.proofs.+expr_if_stmt.Goals as goal
use Rattle.stmt.proofs.+expr_if_stmt.Goals.{expr-Else-is_some}

-- the expression is not pure
impure : {t : ℕ} (c : expr-Else-is_some t) → IsImpure c.args.words.now c.args.at
impure c = no_end _ _ _ _ c.is_some.ensures c.if-is_some.false c.is_pure_infallible.ensures

pub expr-returns-then-is_some : goal.expr-returns-then-is_some
expr-returns-then-is_some t c =
    nothing c.requires (an_end _ _ _ _ c.is_some.ensures c.if-is_some.true c.is_pure_infallible.ensures).1
    c.empty.ensures

pub expr-part_end-next-requires : goal.expr-part_end-next-requires
expr-part_end-next-requires t c = turn_end c.loop-i.invariant c.loop-i-test.true

pub expr-expr-more-requires : goal.expr-expr-more-requires
expr-expr-more-requires t c = (
  omega (arith, some_left c.requires, c.decreases),
  turn_ask c.loop-i.invariant c.loop-i-test.true c.part_end-next.ensures,
)

pub expr-extend-run-requires : goal.expr-extend-run-requires
expr-extend-run-requires t c =
    turn_extend c.loop-i.invariant c.loop-i-test.true c.part_end-next.ensures c.expr-more.auto.words
    c.expr-more.ensures

pub expr-loop-i-preserved : goal.expr-loop-i-preserved
expr-loop-i-preserved t c =
    turn_again c.loop-i.invariant c.loop-i-test.true c.part_end-next.ensures c.expr-more.auto.words
    c.expr-more.ensures c.extend-run.ensures

pub expr-returns-after-loop-i : goal.expr-returns-after-loop-i
expr-returns-after-loop-i t c = turn_done c.loop-i.invariant c.loop-i-test.false

pub expr-returns-in-Part : goal.expr-returns-in-Part
expr-returns-in-Part t c =
    let i = impure (goal.at.expr-returns-in-Part t c).Else-is_some in
    part_done c.requires i c.in-Part.ensures c.expr.ensures

pub expr-skip-middle-requires : goal.expr-skip-middle-requires
expr-skip-middle-requires t c =
    let i = impure (goal.at.expr-skip-middle-requires t c).Else-is_some in
    logic_skip c.requires i c.in-Logic.ensures

pub expr-put-front-requires : goal.expr-put-front-requires
expr-put-front-requires t c =
    let i = impure (goal.at.expr-put-front-requires t c).Else-is_some in
    logic_put c.requires i c.in-Logic.ensures c.skip-middle.ensures

pub expr-settle_if-lists-requires : goal.expr-settle_if-lists-requires
expr-settle_if-lists-requires t c =
    let i = impure (goal.at.expr-settle_if-lists-requires t c).Else-is_some in
    logic_settle c.requires i c.in-Logic.ensures c.skip-middle.ensures c.put-front.ensures

pub expr-list_of-list-requires : goal.expr-list_of-list-requires
expr-list_of-list-requires t c =
    let i = impure (goal.at.expr-list_of-list-requires t c).Else-is_some in
    logic_first c.requires i c.in-Logic.ensures c.skip-middle.ensures c.put-front.ensures c.settle_if-lists.auto.words
    c.settle_if-lists.ensures

pub expr-expr-right-requires : goal.expr-expr-right-requires
expr-expr-right-requires t c =
    let i = impure (goal.at.expr-expr-right-requires t c).Else-is_some in (
      omega (arith, some_left c.requires, c.decreases),
      logic_ask c.requires i c.in-Logic.ensures c.skip-middle.ensures c.put-front.ensures c.settle_if-lists.auto.words
          c.settle_if-lists.ensures c.list_of-list.ensures,
    )

pub expr-close_logic-requires : goal.expr-close_logic-requires
expr-close_logic-requires t c =
    let i = impure (goal.at.expr-close_logic-requires t c).Else-is_some in
    logic_close c.requires i c.in-Logic.ensures c.skip-middle.ensures c.put-front.ensures c.settle_if-lists.auto.words
    c.settle_if-lists.ensures c.list_of-list.ensures c.expr-right.auto.words c.expr-right.ensures c.in-Some.is

pub expr-returns-in-Some : goal.expr-returns-in-Some
expr-returns-in-Some t c =
    let i = impure (goal.at.expr-returns-in-Some t c).Else-is_some in
    logic_closed c.requires i c.in-Logic.ensures c.skip-middle.ensures c.put-front.ensures c.settle_if-lists.auto.words
    c.settle_if-lists.ensures c.list_of-list.ensures c.expr-right.auto.words c.expr-right.ensures c.in-Some.is
    (omega arith) c.close_logic.ensures

pub expr-place-moved-requires : goal.expr-place-moved-requires
expr-place-moved-requires t c =
    let i = impure (goal.at.expr-place-moved-requires t c).Else-is_some in
    logic_down c.requires i c.in-Logic.ensures c.skip-middle.ensures c.put-front.ensures c.settle_if-lists.auto.words
    c.settle_if-lists.ensures c.list_of-list.ensures c.expr-right.auto.words c.expr-right.ensures

pub expr-if_stmt-made-requires : goal.expr-if_stmt-made-requires
expr-if_stmt-made-requires t c =
    let i = impure (goal.at.expr-if_stmt-made-requires t c).Else-is_some in (
      omega (arith, some_left c.requires, c.decreases),
      logic_if c.requires i c.in-Logic.ensures c.skip-middle.ensures c.put-front.ensures c.settle_if-lists.auto.words
          c.settle_if-lists.ensures c.list_of-list.ensures c.expr-right.auto.words c.expr-right.ensures
          c.place-moved.auto.words c.place-moved.ensures c.only-arms.ensures,
    )

pub expr-place-requires : goal.expr-place-requires
expr-place-requires t c =
    let i = impure (goal.at.expr-place-requires t c).Else-is_some in
    logic_place c.requires i c.in-Logic.ensures c.skip-middle.ensures c.put-front.ensures c.settle_if-lists.auto.words
    c.settle_if-lists.ensures c.list_of-list.ensures c.expr-right.auto.words c.expr-right.ensures
    c.place-moved.auto.words c.place-moved.ensures c.only-arms.ensures
    c.if_stmt-made.auto.words c.if_stmt-made.ensures

pub expr-returns-in_default : goal.expr-returns-in_default
expr-returns-in_default t c =
    let i = impure (goal.at.expr-returns-in_default t c).Else-is_some in
    logic_done c.requires i c.in-Logic.ensures c.skip-middle.ensures c.put-front.ensures c.settle_if-lists.auto.words
    c.settle_if-lists.ensures c.list_of-list.ensures c.expr-right.auto.words c.expr-right.ensures
    c.place-moved.auto.words c.place-moved.ensures c.only-arms.ensures
    c.if_stmt-made.auto.words c.if_stmt-made.ensures c.place.ensures

pub expr-write_expr-requires : goal.expr-write_expr-requires
expr-write_expr-requires t c =
    stays_ask c.requires

pub expr-returns-in-Stays : goal.expr-returns-in-Stays
expr-returns-in-Stays t c =
    let i = impure (goal.at.expr-returns-in-Stays t c).Else-is_some in
    stays_done c.requires i c.in-Stays.ensures c.write_expr.ensures

pub if_stmt-extend-requires : goal.if_stmt-extend-requires
if_stmt-extend-requires t c =
    made_extend c.loop-made.invariant c.in-Made.ensures.by

pub if_stmt-returns-in-Made : goal.if_stmt-returns-in-Made
if_stmt-returns-in-Made t c =
    going_done c.loop-made.invariant c.in-Made.ensures.by c.extend.ensures

pub if_stmt-expr-made-requires : goal.if_stmt-expr-made-requires
if_stmt-expr-made-requires t c =
    let step = c.in-Bare.ensures.by in
    (omega (arith, c.loop-made.invariant.less, c.decreases), bare_ask step.left)

pub if_stmt-extend-requires-in-Bare : goal.if_stmt-extend-requires-in-Bare
if_stmt-extend-requires-in-Bare t c =
    let step = c.in-Bare.ensures.by in
    made_extend c.loop-made.invariant (bare_done step.left step.stays step.none c.expr-made.ensures)

pub if_stmt-returns-in-Bare : goal.if_stmt-returns-in-Bare
if_stmt-returns-in-Bare t c =
    let step = c.in-Bare.ensures.by in
    going_done c.loop-made.invariant (bare_done step.left step.stays step.none c.expr-made.ensures)
    c.extend-in-Bare.ensures

pub if_stmt-loop-made-preserved-in-Not : goal.if_stmt-loop-made-preserved-in-Not
if_stmt-loop-made-preserved-in-Not t c =
    let step = c.in-Not.ensures.by in
    going_not c.loop-made.invariant step.left step.past c.swapped-arms.ensures

pub if_stmt-expr-ahead-requires : goal.if_stmt-expr-ahead-requires
if_stmt-expr-ahead-requires t c =
    let step = c.in-Seq.ensures.by in
    let g = c.loop-made.invariant in (
      omega (arith, if_some g.ask, g.less, c.decreases),
      ahead_ask step.left step.past step.skipped,
    )

pub if_stmt-extend-run-requires : goal.if_stmt-extend-run-requires
if_stmt-extend-run-requires t c =
    let step = c.in-Seq.ensures.by in
    ahead_extend c.loop-made.invariant step.left step.past step.skipped c.expr-ahead.auto.words c.expr-ahead.ensures

pub if_stmt-loop-made-preserved : goal.if_stmt-loop-made-preserved
if_stmt-loop-made-preserved t c =
    let step = c.in-Seq.ensures.by in
    going_seq c.loop-made.invariant step.left step.past step.skipped c.expr-ahead.auto.words c.expr-ahead.ensures
    c.extend-run.ensures
