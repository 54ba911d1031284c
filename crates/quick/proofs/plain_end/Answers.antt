-- `quick::plain_end` meets its contract: by the header word, what it asks for.
-- Assumes nothing.
use mathlib.Core.Bool.{true, ◌||◌}
use mathlib.Core.Path.{◌≡◌, ap, sym, ◌∙◌}
use Prim.Native.Nat.{◌+◌, ◌-◌, ◌≤◌}
use borrow.Author.Tests.{eqb-true, leb-true}
use lib.Dec.{eqb, leb}
use Rattle.std.proofs.Common.{rules}
use Rattle.spec.specs.Grammar.{kind_in, detail_in}
use Rattle.spec.specs.declared.Sort.TheVariants as sort
use Rattle.spec.proofs.Outcomes.{both}
use Rattle.steps.specs.Quick.{HeadAt}
use Rattle.steps.proofs.Nodes.{as_read, each_one, each_two}
use Rattle.quick.proofs.Statements.{alone_reads, value_reads, assign_reads, modify_reads}
use Rattle.quick.proofs.plain_end.Goals as goal
use Rattle.quick.proofs.plain_end.Goals.{Then-is_modify}

pub returns-then-h : goal.returns-then-h
returns-then-h c =
    let a = c.args in
    as_read _
    (value_reads a.words.now a.at a.levels a.h c.if-h.true c.requires
    ∙ each_one (a.levels - 1) a.words.now sort.Expr (a.at + 1))
    c.expr_end.ensures

pub returns-in_ok-value-in-Ok-Assign : goal.returns-in_ok-value-in-Ok-Assign
returns-in_ok-value-in-Ok-Assign c =
    let a = c.args in
    let assign : a.h ≡ 35 = search rules in
    as_read _
    (assign_reads a.words.now a.at a.levels c.if-first-words.true
    (rw assign at c.requires)
    ∙ each_two (a.levels - 1) a.words.now sort.Target sort.Expr (a.at + 1 + 1)
    c.in_ok-value-in-Ok-Assign.ensures)
    c.expr_end-in-Ok-Assign.ensures

pub returns-in-Ok-PossibleGc : goal.returns-in-Ok-PossibleGc
returns-in-Ok-PossibleGc c =
    let a = c.args in
    let alone : eqb a.h 32 || (eqb a.h 39 || eqb a.h 40) ≡ true = search rules in
    alone_reads a.words.now a.at a.levels a.h alone c.requires

-- the header of an AssignModify
modifies : (c : Then-is_modify)
    → let a = c.args in
    (detail_in a.h ≤ 10) × HeadAt a.words.now a.at a.levels 36 (detail_in a.h)
modifies c =
    let here = c.requires in
    let h = c.args.h in
    let right = both (eqb (kind_in h) 36) (leb (detail_in h) 10) (sym c.is_modify.ensures ∙ c.if-is_modify.true) in (
      leb-true _ 10 right.1,
      record {
        inside = here.inside;
        level = here.level;
        is_kind = sym (eqb-true (kind_in h) 36 right.0) ∙ ap kind_in here.is_word;
        is_detail = ap detail_in here.is_word;
      },
    )

pub returns-in_ok-value-in_default : goal.returns-in_ok-value-in_default
returns-in_ok-value-in_default c =
    let a = c.args in
    let right = modifies (goal.at.returns-in_ok-value-in_default c).Then-is_modify in
    as_read _
    (modify_reads a.words.now a.at a.levels _ right.0 right.1
    ∙ each_two (a.levels - 1) a.words.now sort.Single sort.Expr (a.at + 1)
    c.in_ok-value-in_default.ensures)
    c.expr_end-in_default.ensures
