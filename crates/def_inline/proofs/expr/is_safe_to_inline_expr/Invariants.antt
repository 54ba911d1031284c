-- `def_inline::expr::is_safe_to_inline_expr` meets its contract. After each turn the nodes in word order are those
-- entered, none of which is forbidden, and those of the expressions that are left, of which there is one at least.
-- Assumes nothing.
use Rattle.def_inline.proofs.Visits.{Visiting}
use Rattle.def_inline.proofs.expr.is_safe_to_inline_expr.Given as goal

abbrev pub invariant-loop-entered : goal.invariant-loop-entered
invariant-loop-entered l = Visiting l.words l.at l.param_count l.entered l.next l.left
