-- `quick::list_end` and `quick::stmt_end` meet their contracts. The levels fall at each call of
-- `list_end`; `stmt_end` is called with the same levels, and counts one less there.
-- Assumes nothing.
use mathlib.Core.Path.{sym, ◌∙◌}
use Prim.Native.Nat.{◌+◌}
use Rattle.spec.specs.declared.Sort.TheVariants as sort
use Rattle.steps.proofs.Nodes.{as_read, each_three}
use Rattle.quick.proofs.Statements.{word_at, if_reads, for_reads}
use Rattle.quick.proofs.+list_end_stmt_end.Goals as goal

pub stmt_end-returns-then-h : goal.stmt_end-returns-then-h
stmt_end-returns-then-h t c =
    let a = c.args in
    let below = c.in_ok-below in
    as_read _
    ((rw (sym below.ensures.1) at
    (if_reads a.words.now a.at a.levels (word_at c.in_ok-h.ensures.lookup.3 below.ensures c.if-h.true)))
    ∙ each_three below.below a.words.now sort.Expr sort.List sort.List (a.at + 1)
    c.in_ok-yes.ensures
    c.in_ok-no.ensures)
    c.list_end-then-h.ensures

pub stmt_end-returns-then-h-2 : goal.stmt_end-returns-then-h-2
stmt_end-returns-then-h-2 t c =
    let a = c.args in
    let below = c.in_ok-below in
    as_read _
    ((rw (sym below.ensures.1) at
    (for_reads a.words.now a.at a.levels (word_at c.in_ok-h.ensures.lookup.3 below.ensures c.if-h-2.true)))
    ∙ each_three below.below a.words.now sort.Target sort.Expr sort.List (a.at + 1)
    c.in_ok-over.ensures
    c.in_ok-body.ensures)
    c.list_end-then-h-2.ensures
