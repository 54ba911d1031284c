-- `runs::for_stmt` meets its contract.
-- Assumes nothing.
use Rattle.runs.proofs.Loops.{for_none, for_kept}
use Rattle.runs.proofs.for_stmt.Goals as goal

pub returns-then-is_iterable_empty : goal.returns-then-is_iterable_empty
returns-then-is_iterable_empty c =
    for_none c.is_iterable_empty.ensures c.if-is_iterable_empty.true c.empty.ensures

pub returns : goal.returns
returns c = for_kept c.is_iterable_empty.ensures c.if-is_iterable_empty.false c.single.ensures
