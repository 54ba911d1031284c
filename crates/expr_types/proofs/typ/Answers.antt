-- `expr_types::typ` meets its contract: the name is written where the argument is pure and its own words tell a text.
-- Assumes nothing.
use mathlib.Core.Path.{refl, sym, ◌∙◌}
use Rattle.purity.proofs.Pures.{an_end, no_end}
use Rattle.expr_types.proofs.TypeCalls.{type_named, impure_stays, no_text_stays}
use Rattle.expr_types.proofs.typ.Goals as goal

pub returns-then-pure : goal.returns-then-pure
returns-then-pure c =
    let judged = an_end _ _ _ _ c.is_some-pure.ensures c.if-pure.true c.is_pure_infallible.ensures in
    type_named c.requires c.word_or_zero-h.ensures
    c.at-kind.ensures c.detail_of-detail.ensures c.word_or_zero-second.ensures
    (sym c.in-Some.is ∙ c.type_text.ensures) refl judged.1 c.write_const.ensures c.write_const.auto.words

pub returns-else-pure : goal.returns-else-pure
returns-else-pure c =
    impure_stays c.requires
    (no_end _ _ _ _ c.is_some-pure.ensures c.if-pure.false c.is_pure_infallible.ensures)

pub returns-in_default : goal.returns-in_default
returns-in_default c =
    no_text_stays c.requires c.word_or_zero-h.ensures
    c.at-kind.ensures c.detail_of-detail.ensures c.word_or_zero-second.ensures
    c.type_text.ensures c.in_default.is
