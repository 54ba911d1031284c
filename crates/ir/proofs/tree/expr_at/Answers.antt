-- `ir::tree::expr_at` meets its contract.
-- Assumes nothing.
use Rattle.ir.proofs.Extents.{expr_inside}
use Rattle.ir.proofs.tree.expr_at.Goals as goal

pub bounds-words-at : goal.bounds-words-at
bounds-words-at c = expr_inside c.requires
