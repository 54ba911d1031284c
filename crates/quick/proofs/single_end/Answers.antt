-- `quick::single_end` meets its contract: by the header word, what it asks for.
-- Assumes nothing.
use mathlib.Core.Bool.{true, ◌||◌}
use mathlib.Core.Path.{◌≡◌, refl, sym, ◌∙◌}
use Prim.Native.Nat.{◌+◌}
use lib.Dec.{eqb}
use Rattle.std.proofs.Common.{rules}
use Rattle.spec.specs.declared.Sort.TheVariants as sort
use Rattle.steps.proofs.Nodes.{as_read, each_one, each_two}
use Rattle.quick.proofs.Statements.{word_at, slot_reads, index_reads, dot_reads, module_reads}
use Rattle.quick.proofs.single_end.Goals as goal

pub returns-in-Local : goal.returns-in-Local
returns-in-Local c =
    let a = c.args in
    let h = c.in_ok-h.field-0.now in
    let slot : eqb h 67 || eqb h 68 ≡ true = search rules in
    slot_reads a.words.now a.at a.levels c.in_ok-word.ensures.lookup.3.0 h slot
    (word_at c.in_ok-h.ensures.lookup.3 c.in_ok-below.ensures refl)

pub returns-in_ok-object-in-Index : goal.returns-in_ok-object-in-Index
returns-in_ok-object-in-Index c =
    let a = c.args in
    let below = c.in_ok-below in
    let index : c.in_ok-h.field-0.now ≡ 65 = search rules in
    as_read _
    ((rw (sym below.ensures.1) at
    (index_reads a.words.now a.at a.levels (word_at c.in_ok-h.ensures.lookup.3 below.ensures index)))
    ∙ each_two below.below a.words.now sort.Expr sort.Expr (a.at + 1)
    c.in_ok-object-in-Index.ensures)
    c.expr_end-in-Index.ensures

pub returns-in-Dot : goal.returns-in-Dot
returns-in-Dot c =
    let a = c.args in
    let below = c.in_ok-below in
    let dot : c.in_ok-h.field-0.now ≡ 64 = search rules in
    as_read _
    ((rw (sym below.ensures.1) at
    (dot_reads a.words.now a.at a.levels c.in_ok-word.ensures.lookup.3.0
    (rw (c.in_ok-word.ensures.lookup.3.1 0) at c.if-word-lt65536.true)
    (word_at c.in_ok-h.ensures.lookup.3 below.ensures dot)))
    ∙ each_one below.below a.words.now sort.Expr (a.at + 1 + 1))
    c.expr_end-in-Dot.ensures

pub returns-in-Module : goal.returns-in-Module
returns-in-Module c =
    let a = c.args in
    let module' : c.in_ok-h.field-0.now ≡ 69 = search rules in
    module_reads a.words.now a.at a.levels c.in_ok-word.ensures.lookup.3.0 c.if-second-words.true
    c.if-words-second-lt65536.true (word_at c.in_ok-h.ensures.lookup.3 c.in_ok-below.ensures module')
