-- The answer of a state as an outcome, and what the entry points promise of the words that were handed over.
use Rattle.std.specs.Prelude.{◌≡◌, ℕ, List, Option, Some, None, Result}
use Rattle.spec.specs.Outcome.{Outcome, given}
use Rattle.spec.specs.Blocks.{Known, not_yet, counted, last_block_on}
use Rattle.refusal.specs.declared.Refusal.{Refusal}
use Rattle.refusal.specs.Answers.{outcome_by}
use Rattle.last_block.specs.States.{begun, fed}
use Rattle.last_block.specs.declared.entry.LastBlock.{LastBlock}

-- nothing yet, the count of rule words, or a refusal and its place
abbrev pub known_of : Option (Result ℕ Refusal) → Outcome Known
known_of None = given not_yet
known_of (Some r) = outcome_by counted r

-- whatever words led to a state, the answer is the loader's for a last block of these words
pub record AsLoader (s : LastBlock) (r : Option (Result ℕ Refusal)) : Type 0 where
  pub loader : (number : ℕ) (ws : List ℕ) → s ≡ fed (begun number) ws → known_of r ≡ last_block_on number ws
