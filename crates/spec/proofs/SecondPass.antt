-- A second pass is not idle: a rule is given that the pass changes, and whose pruned form it changes again.
-- Document 01, 'Wrong turns': "a second pass assumed idle".
-- Assumes nothing.
use mathlib.Core.Bool.{true, false, false≢true}
use mathlib.Core.Path.{◌≡◌, refl, ap, sym, ◌∙◌}
use Rattle.spec.specs.Tree.{and, or}
use Rattle.spec.specs.Tree.{Expr, type_is, logic}
use Rattle.spec.specs.Tree.{if_stmt, Stmts, no_stmts}
use Rattle.spec.specs.PassStmts.{optimize}
use Rattle.spec.specs.Same.{same_stmts}
use Rattle.spec.specs.Cases.{a_local, a_false, no_list, single, arm_a}
use Rattle.spec.proofs.Computing.{computing_passes}

-- if a condition: a call
abbrev call_if : Expr → Stmts
call_if e = single (if_stmt e arm_a no_stmts)

-- And(TypeIs(7,[]),e): its truth is unknown; with [] or False for e it becomes False as a condition, yet an expression
abbrev nest : Expr → Expr
nest e = logic and (type_is 7 no_list) e

-- the rule: if Or(And(TypeIs(7,[]),[]),L)
abbrev rule : Stmts
rule = call_if (logic or (nest no_list) a_local)

-- the first pass leaves if Or(False,L), the second if L, the third nothing to do
pub passes : (optimize rule ≡ call_if (logic or a_false a_local))
    × ((optimize (optimize rule) ≡ call_if a_local) × (optimize (optimize (optimize rule)) ≡ call_if a_local))
unfolding computing_passes
passes = (refl, (refl, refl))

-- the words differ
words_differ : same_stmts (optimize (optimize rule)) (optimize rule) ≡ false
unfolding computing_passes
words_differ = refl

words_same : same_stmts (optimize rule) (optimize rule) ≡ true
unfolding computing_passes
words_same = refl

-- so the second pass gives another rule than the first
pub second_pass : optimize (optimize rule) ≡ optimize rule → ⊥
second_pass e =
    false≢true (sym words_differ ∙ (ap (λ (s : Stmts). same_stmts s (optimize rule)) e ∙ words_same))

-- two such nests take four passes, the last one idle: False inside, then False, then the arm
abbrev nested : Stmts
nested = call_if (nest (nest no_list))

pub four_passes : (optimize nested ≡ call_if (nest a_false))
    × ((optimize (optimize nested) ≡ call_if a_false)
    × ((optimize (optimize (optimize nested)) ≡ no_stmts)
    × (optimize (optimize (optimize (optimize nested))) ≡ no_stmts)))
unfolding computing_passes
four_passes = (refl, (refl, (refl, refl)))
