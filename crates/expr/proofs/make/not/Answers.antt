-- `expr::make::not` meets its contract: the part's first word tells what is made of it.
-- Assumes nothing.
use Rattle.expr.proofs.Nots.{not_room, not_folded, not_unknown, not_asks}
use Rattle.expr.proofs.Nots.{not_stripped, not_kept, not_stays}
use Rattle.expr.proofs.make.not.Goals as goal

pub write_bool-requires : goal.write_bool-requires
write_bool-requires c =
    not_room c.requires c.word_or_zero-h.ensures c.is_constant.ensures c.if-is_constant.true

pub returns-in-Some : goal.returns-in-Some
returns-in-Some c =
    not_folded c.requires c.word_or_zero-h.ensures c.is_constant.ensures c.if-is_constant.true
    c.in-Some.ensures c.write_bool.ensures c.write_bool.auto.words

pub returns-in-None : goal.returns-in-None
returns-in-None c =
    absurd
    (not_unknown c.requires c.word_or_zero-h.ensures c.is_constant.ensures c.if-is_constant.true
    c.in-None.ensures)

pub put-requires : goal.put-requires
put-requires c =
    not_asks c.requires c.word_or_zero-h.ensures
    c.is_builtin1.ensures c.if-is_builtin1.true

pub returns-then-is_definitely_bool : goal.returns-then-is_definitely_bool
returns-then-is_definitely_bool c =
    not_stripped c.requires c.word_or_zero-h.ensures
    c.is_builtin1.ensures c.if-is_builtin1.true
    c.is_definitely_bool.ensures c.if-is_definitely_bool.true c.put.ensures

pub returns-then-is_builtin1 : goal.returns-then-is_builtin1
returns-then-is_builtin1 c =
    not_kept c.requires c.word_or_zero-h.ensures
    c.is_builtin1.ensures c.if-is_builtin1.true
    c.is_definitely_bool.ensures c.if-is_definitely_bool.false

pub returns : goal.returns
returns c =
    not_stays c.requires c.word_or_zero-h.ensures c.is_constant.ensures c.if-is_constant.false
    c.is_builtin1.ensures c.if-is_builtin1.false
