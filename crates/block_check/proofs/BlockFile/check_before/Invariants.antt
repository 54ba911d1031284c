-- `block_check::BlockFile::check_before` meets its contract. After each turn the answer is that of the blocks that are
-- left.
-- Assumes nothing.
use Rattle.std.proofs.Common.{◌≡◌, ◌-◌, ◌*◌, ◌/◌, length, drop}
use Rattle.spec.specs.Blocks.{words_of, judged_before}
use Rattle.block_check.proofs.BlockFile.check_before.Given as goal

abbrev pub invariant-loop-number : goal.invariant-loop-number
invariant-loop-number l =
    judged_before (length l.self.bytes.now / 512 - 1) 0 (words_of l.self.bytes.now)
    ≡ judged_before (length l.self.bytes.now / 512 - 1 - l.number) l.number
    (drop (128 * l.number) (words_of l.self.bytes.now))
