-- `blocks::entry::write_blocks` meets its contract. After each turn so many blocks stand at the start of the result.
-- Assumes nothing.
use Rattle.std.proofs.Common.{◌≡◌}
use Rattle.spec.specs.Blocks.{bytes_of, blocks}
use Rattle.block_words.specs.Placed.{placed}
use Rattle.blocks.proofs.entry.write_blocks.Given as goal

abbrev pub invariant-loop-number : goal.invariant-loop-number
invariant-loop-number l = l.res ≡ placed l.initial.res 0 (bytes_of (blocks l.number 0 l.words))
