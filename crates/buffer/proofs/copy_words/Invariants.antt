-- `buffer::copy_words` meets its contract: after i turns the words are those with i words copied.
-- Assumes nothing.
use mathlib.Core.Path.{◌≡◌}
use Rattle.buffer.specs.Copy.{copied}
use Rattle.buffer.proofs.copy_words.Given as goal

abbrev pub invariant-loop-i : goal.invariant-loop-i
invariant-loop-i l = l.words ≡ copied l.initial.words l.from l.to l.i
