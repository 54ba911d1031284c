-- `expr_types::call` meets its contract: a type call goes to `typ`.
-- Assumes nothing.
use Rattle.expr_types.proofs.TypeCalls.{call_typed, call_stays}
use Rattle.expr_types.proofs.call.Goals as goal

pub returns-then-as_type : goal.returns-then-as_type
returns-then-as_type c =
    call_typed c.requires c.word_or_zero-callee.ensures c.as_type.ensures
    c.if-as_type.true c.typ.ensures

pub returns : goal.returns
returns c =
    call_stays c.requires c.word_or_zero-callee.ensures c.as_type.ensures c.if-as_type.false
