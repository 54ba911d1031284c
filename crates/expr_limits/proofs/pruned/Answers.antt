-- `expr_limits::pruned` is safe: it has the room that it needs.
-- Assumes nothing.
use Rattle.expr_limits.proofs.Shown.{row_place, row_behind}
use Rattle.expr_limits.proofs.pruned.Goals as goal

pub expr_in_place-run-requires : goal.expr_in_place-run-requires
expr_in_place-run-requires c = row_place c.requires c.optimize-passed.ensures c.optimize-passed.auto.words

pub overflow_sub-result-2 : goal.overflow_sub-result-2
overflow_sub-result-2 c =
    row_behind c.requires c.optimize-passed.ensures c.optimize-passed.auto.words c.expr_in_place-run.ensures
