-- The pass over statements and lists meets its contracts: `optimize_stmt`, `optimize_if`, `slotted_if`, `optimize_for`,
-- `optimize_body` and `optimize_list`. Four times the words from their place on fall at each call; at one place
-- `optimize_if` and `optimize_body` count one more, and `optimize_stmt` two.
-- Assumes nothing.
use native.Mathlib.Omega.{arith}
use Rattle.pass.proofs.Heads.{stmt_expr_done}
use Rattle.pass.proofs.Choices.{if_past_yes, if_no, if_places, if_down, if_done}
use Rattle.pass.proofs.Branches.{branch_past, branch_slotted, branch_yes, branch_past_yes, branch_no, branch_close}
use Rattle.pass.proofs.Branches.{branch_places, branch_done}
use Rattle.pass.proofs.Loops.{body_count, body_done, for_past, for_body, for_places, for_done}
use Rattle.pass.proofs.Rows.{some_list, loop_out, loop_asks, loop_few, loop_places, loop_exits, out_list}
use Rattle.pass.proofs.Rows.{out_early, out_whole}
use Rattle.pass.proofs.+optimize_body_optimize_for_optimize_if_optimize_list_optimize_stmt_slotted_if.Goals as goal

pub optimize_body-overflow_cast-count : goal.optimize_body-overflow_cast-count
optimize_body-overflow_cast-count t c =
    omega (arith, body_count c.requires c.optimize_list-inner.ensures c.optimize_list-inner.auto.words)

pub optimize_body-returns : goal.optimize_body-returns
optimize_body-returns t c =
    body_done c.requires c.optimize_list-inner.ensures c.optimize_list-inner.auto.words c.write_word.ensures

pub optimize_for-optimize_body-inner-requires : goal.optimize_for-optimize_body-inner-requires
optimize_for-optimize_body-inner-requires t c =
    let d = c.put-body.ensures in
    let e = c.put-body.auto.words in
    let d₂ = c.optimize_pair-pair.ensures in
    let e₂ = c.optimize_pair-pair.auto.words in
    (omega (arith, for_past c.requires.asked d e d₂ e₂), for_body c.requires.asked d e d₂ e₂)

pub optimize_for-overflow_add-foldable : goal.optimize_for-overflow_add-foldable
optimize_for-overflow_add-foldable t c =
    omega (
      arith,
      for_places c.requires.asked c.put-body.ensures c.put-body.auto.words c.optimize_pair-pair.ensures
          c.optimize_pair-pair.auto.words c.optimize_body-inner.ensures c.optimize_body-inner.auto.words,
    )

pub optimize_for-returns : goal.optimize_for-returns
optimize_for-returns t c =
    for_done c.requires.asked c.put-body.ensures c.put-body.auto.words c.optimize_pair-pair.ensures
    c.optimize_pair-pair.auto.words c.optimize_body-inner.ensures c.optimize_body-inner.auto.words
    c.for_stmt-run.ensures

pub optimize_if-returns-in-None : goal.optimize_if-returns-in-None
optimize_if-returns-in-None t c =
    branch_slotted c.requires.asked c.put-body.ensures c.put-body.auto.words c.optimize-test.ensures
    c.optimize-test.auto.words c.in-None.ensures c.slotted_if.ensures

pub optimize_if-optimize_body-yes-requires : goal.optimize_if-optimize_body-yes-requires
optimize_if-optimize_body-yes-requires t c =
    let d = c.put-body.ensures in
    let e = c.put-body.auto.words in
    let d₂ = c.optimize-test.ensures in
    let e₂ = c.optimize-test.auto.words in (
      omega (arith, branch_past c.requires.asked d e d₂ e₂),
      branch_yes c.requires.asked d e d₂ e₂ c.in-Some.ensures c.settle_in_place.auto.words,
    )

pub optimize_if-optimize_body-no-requires : goal.optimize_if-optimize_body-no-requires
optimize_if-optimize_body-no-requires t c =
    let d = c.put-body.ensures in
    let e = c.put-body.auto.words in
    let d₂ = c.optimize-test.ensures in
    let e₂ = c.optimize-test.auto.words in
    let d₃ = c.in-Some.ensures in
    let e₃ = c.settle_in_place.auto.words in
    let d₄ = c.optimize_body-yes.ensures in
    let e₄ = c.optimize_body-yes.auto.words in (
      omega (arith, branch_past_yes c.requires.asked d e d₂ e₂ d₃ e₃ d₄ e₄),
      branch_no c.requires.asked d e d₂ e₂ d₃ e₃ d₄ e₄,
    )

pub optimize_if-close_if-run-requires : goal.optimize_if-close_if-run-requires
optimize_if-close_if-run-requires t c =
    branch_close c.requires.asked c.put-body.ensures c.put-body.auto.words c.optimize-test.ensures
    c.optimize-test.auto.words c.in-Some.ensures c.settle_in_place.auto.words c.optimize_body-yes.ensures
    c.optimize_body-yes.auto.words c.optimize_body-no.ensures c.optimize_body-no.auto.words

pub optimize_if-overflow_add-arms : goal.optimize_if-overflow_add-arms
optimize_if-overflow_add-arms t c =
    omega (
      arith,
      branch_places c.requires.asked c.put-body.ensures c.put-body.auto.words c.optimize-test.ensures
          c.optimize-test.auto.words c.in-Some.ensures c.settle_in_place.auto.words c.optimize_body-yes.ensures
          c.optimize_body-yes.auto.words c.optimize_body-no.ensures c.optimize_body-no.auto.words,
    )

pub optimize_if-overflow_add-foldable : goal.optimize_if-overflow_add-foldable
optimize_if-overflow_add-foldable t c =
    omega (
      arith,
      branch_places c.requires.asked c.put-body.ensures c.put-body.auto.words c.optimize-test.ensures
          c.optimize-test.auto.words c.in-Some.ensures c.settle_in_place.auto.words c.optimize_body-yes.ensures
          c.optimize_body-yes.auto.words c.optimize_body-no.ensures c.optimize_body-no.auto.words,
    )

pub optimize_if-returns-in-Some : goal.optimize_if-returns-in-Some
optimize_if-returns-in-Some t c =
    branch_done c.requires.asked c.put-body.ensures c.put-body.auto.words c.optimize-test.ensures
    c.optimize-test.auto.words c.in-Some.ensures c.settle_in_place.auto.words c.optimize_body-yes.ensures
    c.optimize_body-yes.auto.words c.optimize_body-no.ensures c.optimize_body-no.auto.words c.close_if-run.ensures

pub optimize_list-list_at-list-requires : goal.optimize_list-list_at-list-requires
optimize_list-list_at-list-requires t c = some_list c.requires

pub optimize_list-optimize_stmt-made-requires : goal.optimize_list-optimize_stmt-made-requires
optimize_list-optimize_stmt-made-requires t c = (
  omega (arith, c.statements.invariant.stand),
  loop_asks c.statements.invariant c.statements-test.true c.if-exits.false,
)

pub optimize_list-extend-run-requires : goal.optimize_list-extend-run-requires
optimize_list-extend-run-requires t c =
    loop_few c.statements.invariant c.statements-test.true c.if-exits.false c.optimize_stmt-made.ensures
    c.optimize_stmt-made.auto.words

pub optimize_list-overflow_add-foldable : goal.optimize_list-overflow_add-foldable
optimize_list-overflow_add-foldable t c =
    omega (
      arith,
      loop_places c.statements.invariant c.statements-test.true c.if-exits.false c.optimize_stmt-made.ensures
          c.optimize_stmt-made.auto.words,
    )

pub optimize_list-list_end-requires : goal.optimize_list-list_end-requires
optimize_list-list_end-requires t c = out_list (loop_exits c.statements.invariant c.if-exits.true)

pub optimize_list-returns-then-exits : goal.optimize_list-returns-then-exits
optimize_list-returns-then-exits t c = out_early (loop_exits c.statements.invariant c.if-exits.true) c.list_end.ensures

pub optimize_list-returns : goal.optimize_list-returns
optimize_list-returns t c =
    out_whole (loop_out c.statements.invariant c.statements-test.false) c.statements-test.false

pub optimize_stmt-returns-then-kind : goal.optimize_stmt-returns-then-kind
optimize_stmt-returns-then-kind t c =
    stmt_expr_done c.requires c.kind_of-kind.ensures c.if-kind.true c.optimize_expr.ensures

pub slotted_if-optimize_list-no-requires : goal.slotted_if-optimize_list-no-requires
slotted_if-optimize_list-no-requires t c =
    let d = c.lift-high.ensures in
    let e = c.lift-high.auto.words in
    let d₂ = c.optimize_list-yes.ensures in
    let e₂ = c.optimize_list-yes.auto.words in
    (omega (arith, if_past_yes c.requires.slotted d e d₂ e₂), if_no c.requires.slotted d e d₂ e₂)

pub slotted_if-place-run-requires : goal.slotted_if-place-run-requires
slotted_if-place-run-requires t c =
    if_down c.requires.slotted c.lift-high.ensures c.lift-high.auto.words c.optimize_list-yes.ensures
    c.optimize_list-yes.auto.words c.optimize_list-no.ensures c.optimize_list-no.auto.words c.if_stmt-made.ensures
    c.if_stmt-made.auto.words

pub slotted_if-overflow_add-arms : goal.slotted_if-overflow_add-arms
slotted_if-overflow_add-arms t c =
    omega (
      arith,
      if_places c.requires.slotted c.lift-high.ensures c.lift-high.auto.words c.optimize_list-yes.ensures
          c.optimize_list-yes.auto.words c.optimize_list-no.ensures c.optimize_list-no.auto.words,
    )

pub slotted_if-overflow_add-foldable : goal.slotted_if-overflow_add-foldable
slotted_if-overflow_add-foldable t c =
    omega (
      arith,
      if_places c.requires.slotted c.lift-high.ensures c.lift-high.auto.words c.optimize_list-yes.ensures
          c.optimize_list-yes.auto.words c.optimize_list-no.ensures c.optimize_list-no.auto.words,
    )

pub slotted_if-returns : goal.slotted_if-returns
slotted_if-returns t c =
    if_done c.requires.slotted c.lift-high.ensures c.lift-high.auto.words c.optimize_list-yes.ensures
    c.optimize_list-yes.auto.words c.optimize_list-no.ensures c.optimize_list-no.auto.words c.if_stmt-made.ensures
    c.if_stmt-made.auto.words c.place-run.ensures
