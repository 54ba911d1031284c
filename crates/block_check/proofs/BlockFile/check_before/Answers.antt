-- `block_check::BlockFile::check_before` meets its contract.
-- Assumes nothing.
use Rattle.std.proofs.Common.{arith, ap}
use Rattle.refusal.specs.Answers.{outcome_of}
use Rattle.block_check.proofs.Steps.{block_stops}
use Rattle.block_check.proofs.BlockFile.check_before.Goals as goal

pub returns-in_err-check_block : goal.returns-in_err-check_block
returns-in_err-check_block c =
    let stop = block_stops c.args.self.now.bytes.now c.loop-number.number c.blocks-blocks.result.now _
    c.loop-number-test.true c.blocks-blocks.ensures.cut c.blocks-blocks.ensures.count (outcome_of c.check_block.result)
    c.check_block.ensures (ap outcome_of (c.in_err-check_block.was {u = tt})) in
    grind (arith, stop)
