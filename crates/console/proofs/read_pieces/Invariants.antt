-- `console::read_pieces` is safe: what is counted lies within the words.
-- Assumes nothing.
use Rattle.std.proofs.Common.{length, ◌≤◌}
use Rattle.console.proofs.read_pieces.Given as goal

abbrev pub invariant-loop : goal.invariant-loop
invariant-loop g l = l.taken.count ≤ length l.words
