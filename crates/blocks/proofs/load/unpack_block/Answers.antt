-- `blocks::load::unpack_block` meets its contract.
-- Assumes nothing.
use Rattle.std.proofs.Common.{arith}
use Rattle.blocks.proofs.Reading.{block_copied}
use Rattle.blocks.proofs.load.unpack_block.Goals as goal

pub returns : goal.returns
returns c =
    block_copied _ _ _ c.loop-i.i (omega (arith, c.requires)) (omega (arith, c.fits-block))
    (omega (arith, c.loop-i.auto.res)) (omega (arith, c.loop-i-test.false)) c.loop-i.invariant
