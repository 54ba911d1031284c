-- Condition 3: pruning a rule changes nothing of its run, whatever the choice of answers.
-- Assumes nothing.
use mathlib.Core.Path.{◌≡◌, ap}
use Rattle.spec.specs.Tree.{Stmts}
use Rattle.spec.specs.Value.{start, Choice}
use Rattle.spec.specs.Running.{Step, Flow, closed, run_rule}
use Rattle.spec.specs.PassStmts.{optimize}
use Rattle.spec.proofs.PreservedStmts.{optimize_right}

-- "the rule and its pruned form, run on the same answers, have equal records, that is the same operations
-- on the same operands with the same answers in the same order, and the same end: the same first failure, exit or
-- returned value"
pub demand_3 : (C : Choice) (rule : Stmts) → run_rule C (optimize rule) ≡ run_rule C rule
unfolding run_rule
demand_3 C rule = ap (λ (m : Step Flow). closed (m start)) (optimize_right C rule)
