-- `blocks::load::unpack` meets its contract. After each turn the rule words of so many blocks are in place.
-- Assumes nothing.
use Rattle.std.proofs.Common.{◌≡◌}
use Rattle.spec.specs.Blocks.{words_of, rule_words}
use Rattle.block_words.specs.Placed.{placed}
use Rattle.blocks.proofs.load.unpack.Given as goal

abbrev pub invariant-loop-number : goal.invariant-loop-number
invariant-loop-number l = l.res ≡ placed l.initial.res 0 (rule_words l.number (words_of l.file.bytes.now))
