-- `blocks::store::put_rule` meets its contract. After i turns i of the block's rule words are laid down.
-- Assumes nothing.
use Rattle.std.proofs.Common.{◌≡◌, take}
use Rattle.spec.specs.Blocks.{bytes_of}
use Rattle.block_words.specs.Placed.{placed}
use Rattle.blocks.proofs.store.put_rule.Given as goal

abbrev pub invariant-loop-i : goal.invariant-loop-i
invariant-loop-i l = l.bytes ≡ placed l.initial.bytes 4 (bytes_of (take l.i l.rule))
