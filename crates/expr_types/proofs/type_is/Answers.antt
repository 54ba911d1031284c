-- `expr_types::type_is` meets its contract: the part's first word tells whether it is a constant, and of which class.
-- Assumes nothing.
use Rattle.expr_types.proofs.TypeTests.{type_is_folded, type_is_stays}
use Rattle.expr_types.proofs.type_is.Goals as goal

pub returns-then-is_constant : goal.returns-then-is_constant
returns-then-is_constant c =
    type_is_folded c.requires c.word_or_zero-h.ensures c.is_constant.ensures c.if-is_constant.true
    c.detail_of.ensures c.word_or_zero-second.ensures c.const_type.ensures c.write_bool.ensures
    c.write_bool.auto.words

pub returns : goal.returns
returns c =
    type_is_stays c.requires c.word_or_zero-h.ensures c.is_constant.ensures c.if-is_constant.false
