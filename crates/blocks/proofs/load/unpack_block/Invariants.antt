-- `blocks::load::unpack_block` meets its contract. After i turns i rule words are in place.
-- Assumes nothing.
use Rattle.std.proofs.Common.{ℕ, ◌≡◌, ◌+◌, ◌<◌, get_or}
use Rattle.spec.specs.Blocks.{words_of}
use Rattle.blocks.proofs.load.unpack_block.Given as goal

abbrev pub invariant-loop-i : goal.invariant-loop-i
invariant-loop-i l = (j : ℕ) → j < l.i → get_or l.res j 0 ≡ get_or (words_of l.block) (1 + j) 0
