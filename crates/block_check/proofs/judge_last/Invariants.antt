-- `block_check::judge_last` meets its contract. After each turn the state is that of the words handed over.
-- Assumes nothing.
use Rattle.std.proofs.Common.{◌≡◌, ◌-◌, take}
use Rattle.spec.specs.Blocks.{words_of}
use Rattle.last_block.specs.States.{begun, fed}
use Rattle.block_check.proofs.judge_last.Given as goal

abbrev pub invariant-loop-answer : goal.invariant-loop-answer
invariant-loop-answer l = l.state ≡ fed (begun l.number) (take l.state.seen (words_of l.block))

abbrev pub decreases-loop-answer : goal.decreases-loop-answer
decreases-loop-answer l = 128 - l.state.seen
