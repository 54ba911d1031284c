-- `runs::close_logic` meets its contract.
-- Assumes nothing.
use Rattle.runs.proofs.Closings.{close_or, close_and}
use Rattle.runs.proofs.close_logic.Goals as goal

pub returns-then-or : goal.returns-then-or
returns-then-or c =
    close_or c.requires c.write_head.ensures c.if-or.true
    c.write_word-second.ensures c.write_word.ensures c.single.ensures

pub returns : goal.returns
returns c =
    close_and c.requires c.write_head.ensures c.if-or.false
    c.write_word-2.ensures c.write_word-last.ensures c.single-2.ensures
