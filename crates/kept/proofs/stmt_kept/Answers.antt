-- `stmt_kept` meets its contract: the form's words in front of a kept expression are a statement that the pass keeps.
-- Assumes nothing.
use Rattle.kept.proofs.Forms.{stmt_kept}
use Rattle.kept.proofs.stmt_kept.Goals as goal

pub returns : goal.returns
returns c = stmt_kept c.expr_kept.result c.in_ok-value.ensures c.expr_kept.ensures
