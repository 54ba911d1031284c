-- `outer::optimize_outer` meets its contract. Each turn of the loop reads a statement and makes something of it; what
-- is left behind an exit is only read.
-- Assumes nothing.
use mathlib.Core.Path.{refl, ◌∙◌}
use native.Mathlib.Omega.{arith}
use Rattle.outer.proofs.Turns.{Left, turn_start, turn_left, turn_places, turn_exits}
use Rattle.outer.proofs.Turns.{next_turn, few_made, left_move, outer_done}
use Rattle.outer.proofs.optimize_outer.Goals as goal
use Rattle.outer.proofs.optimize_outer.Goals.{else-statements-test, then-statements-test+in_ok-made+then-run}

pub statements-init : goal.statements-init
statements-init c = (turn_start c.requires refl c.empty-run.ensures, refl)

pub overflow_add-foldable : goal.overflow_add-foldable
overflow_add-foldable c =
    let g = c.statements.invariant.0 in
    omega (arith, turn_places g c.in_ok-made.ensures c.optimize_top.auto.words, g.turn.asked.few)

-- whichever way the loop was left

pub overflow_cast-made : goal.overflow_cast-made
overflow_cast-made c = elim c.statements-test.branch [
  | else-statements-test w ↦ rw w.run-is (omega (arith, few_made c.statements.invariant.0.turn))
  | then-statements-test+in_ok-made+then-run w ↦
      rw w.run-is
      (omega (arith, few_made (next_turn c.statements.invariant.0 w.in_ok-made.ensures w.optimize_top.auto.words)))
]

pub returns : goal.returns
returns c =
    let end = c.statements-test in
    let left : Left c.args.words.now c.args.n c.word_or_zero-count.result end.words end.next end.run end.foldable
    end.left = elim c.statements-test.branch [
      | else-statements-test w ↦
          left_move w.words-is w.next-is w.run-is w.foldable-is (w.left-is ∙ c.statements.invariant.1)
          (turn_left c.statements.invariant.0 (omega (arith, w.statements-test.false)))
      | then-statements-test+in_ok-made+then-run w ↦
          left_move w.words-is w.next-is w.run-is w.foldable-is w.left-is
          (turn_exits c.statements.invariant.0 w.in_ok-made.ensures w.optimize_top.auto.words w.statements-test.true
          w.if-run.true)
    ] in
    outer_done left c.word_or_zero-count.ensures c.in_ok-last.ensures c.if-last-n.false c.write_word.ensures
    c.write_word.auto.words
