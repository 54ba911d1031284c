-- `blocks::entry::write_blocks` meets its contract. After each turn so many blocks stand at the start of the result.
-- Assumes nothing.
use Rattle.std.proofs.Common.{sym, ◌∙◌, arith}
use Rattle.blocks.proofs.Writing.{block_next, write_refused, write_done}
use Rattle.blocks.proofs.entry.write_blocks.Goals as goal

pub returns-then-res-size : goal.returns-then-res-size
returns-then-res-size c =
    write_refused c.args.words.now c.args.res.now c.div_ceil-count.result
    (sym c.count_right.ensures ∙ c.if-not-count_right.false) (omega arith) c.if-res-size.true

pub returns : goal.returns
returns c =
    write_done c.args.words.now c.args.res.now c.div_ceil-count.result
    (sym c.count_right.ensures ∙ c.if-not-count_right.false) (omega arith) c.loop-number.res c.loop-number.number
    c.if-res-size.false (omega arith) c.loop-number.invariant

pub loop-number-preserved : goal.loop-number-preserved
loop-number-preserved c =
    block_next c.args.res.now c.loop-number.res c.write_block.new.bytes c.min.result c.loop-number.number
    c.args.words.now (omega arith) c.loop-number.invariant c.min.ensures c.write_block.ensures
