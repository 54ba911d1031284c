-- `blocks::load::unpack` meets its contract.
-- Assumes nothing.
use Rattle.std.proofs.Common.{rules, arith}
use Rattle.block_check.proofs.Steps.{chunk_words}
use Rattle.blocks.proofs.Reading.{unpack_none, unpack_start, unpack_next}
use Rattle.blocks.proofs.load.unpack.Goals as goal

pub loop-number-init : goal.loop-number-init
loop-number-init c = unpack_none _ (omega arith) _ c.requires.judged c.requires.size _

pub slice_bounds-unpack_block-count : goal.slice_bounds-unpack_block-count
slice_bounds-unpack_block-count c =
    unpack_start _ (omega arith) _ c.requires.judged c.requires.size c.loop-number.number _
    (omega (arith, c.loop-number-test.true, c.blocks-block-items.ensures.count)) c.min.ensures

pub slice_bounds-unpack_block-start : goal.slice_bounds-unpack_block-start
slice_bounds-unpack_block-start c =
    let from = unpack_start _ (omega arith) _ c.requires.judged c.requires.size c.loop-number.number _
    (omega (arith, c.loop-number-test.true, c.blocks-block-items.ensures.count)) c.min.ensures in
    search (rules, from)

pub loop-number-preserved : goal.loop-number-preserved
loop-number-preserved c =
    unpack_next _ (omega arith) _ c.requires.judged c.requires.size _ _ _ _ c.loop-number.number _
    (omega (arith, c.loop-number-test.true, c.blocks-block-items.ensures.count)) c.min.ensures c.requires.room
    (chunk_words _ _ _ _ c.blocks-block-items.ensures.cut
    (omega (arith, c.loop-number-test.true, c.blocks-block-items.ensures.count)))
    c.loop-number.invariant c.loop-number.auto.res c.unpack_block.ensures
