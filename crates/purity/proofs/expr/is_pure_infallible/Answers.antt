-- `purity::expr::is_pure_infallible` meets its contract: the first part tells that the expression is not pure, or the
-- end tells.
-- Assumes nothing.
use Rattle.purity.proofs.Pures.{expr_inside}
use Rattle.purity.proofs.Fronts.{front_impure}
use Rattle.purity.proofs.expr.is_pure_infallible.Goals as goal

pub bounds-words-front : goal.bounds-words-front
bounds-words-front c = expr_inside c.front_at-front.ensures.some

pub returns-then-not-may_be_pure : goal.returns-then-not-may_be_pure
returns-then-not-may_be_pure c =
    front_impure c.front_at-front.ensures c.at.ensures c.may_be_pure.ensures c.if-not-may_be_pure.true
