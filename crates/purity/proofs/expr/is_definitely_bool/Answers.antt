-- `purity::expr::is_definitely_bool` meets its contract: the header tells.
-- Assumes nothing.
use Rattle.purity.proofs.Pures.{expr_inside}
use Rattle.purity.proofs.expr.is_definitely_bool.Goals as goal

pub bounds-words-at : goal.bounds-words-at
bounds-words-at c = expr_inside c.requires
