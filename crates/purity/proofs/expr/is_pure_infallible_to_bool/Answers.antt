-- `purity::expr::is_pure_infallible_to_bool` meets its contract: the first operand tells that the truth is not known,
-- or `known_end` answers.
-- Assumes nothing.
use Rattle.purity.proofs.Pures.{expr_inside}
use Rattle.purity.proofs.Leads.{lead_unknown}
use Rattle.purity.proofs.expr.is_pure_infallible_to_bool.Goals as goal

pub bounds-words-lead : goal.bounds-words-lead
bounds-words-lead c = expr_inside c.lead_at-lead.ensures.some

pub returns-then-not-may_be_known : goal.returns-then-not-may_be_known
returns-then-not-may_be_known c =
    lead_unknown c.lead_at-lead.ensures c.at.ensures c.may_be_known.ensures c.if-not-may_be_known.true
