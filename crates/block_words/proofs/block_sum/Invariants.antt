-- `block_words::block_sum` meets its contract. After i turns the sum is that of i words.
-- Assumes nothing.
use Rattle.std.proofs.Common.{◌≡◌, take}
use Rattle.spec.specs.Blocks.{checksum, words_of}
use Rattle.block_words.proofs.block_sum.Given as goal

abbrev pub invariant-loop-word : goal.invariant-loop-word
invariant-loop-word l = l.sum ≡ checksum (take l.word-index (words_of l.block))
