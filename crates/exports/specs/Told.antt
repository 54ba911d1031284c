-- What a caller of the C functions is told beside the values of an answer.
use Rattle.std.specs.Prelude.{List, ◌∷◌, ◌≡◌, ℕ}
use Rattle.spec.specs.Rose.{size}
use Rattle.spec.specs.Tree.{Stmts, rose_l}
use Rattle.spec.specs.NothingDead.{NothingDead}
use Rattle.spec.specs.Value.{Choice}
use Rattle.spec.specs.Running.{run_rule}
use Rattle.prune.specs.Answers.{Stood}
use Rattle.spec.specs.Blocks.{last_block_on}
use Rattle.last_block.specs.States.{begun, fed, answer_in}
use Rattle.last_block.specs.declared.entry.LastBlock.{LastBlock}
use Rattle.values.specs.Told.{Told}
use Rattle.answers.specs.Told.{known_values}

-- demand 3: where 0 is returned, the rule that stands in the words and the rule that stands in the result run alike,
-- for every choice
pub record Alike (ws : List ℕ) (r : ℕ) (result-exit : List ℕ) : Type 0 where
  pub runs : r ≡ 0 → (C : Choice) (ss rs : Stmts) → Stood ws ss → Stood result-exit rs → run_rule C rs ≡ run_rule C ss

-- a rule stands at the start of the result, of as many words as the first value says, if there is one
pub record StoodTold (values result : List ℕ) : Type 0 where
  pub rule : Stmts
  pub stood : Stood result rule
  pub whole : (n : ℕ) (ns : List ℕ) → values ≡ n ∷ ns → size (rose_l rule) ≡ n

-- 02, 2.7: where 0 is returned, a rule stands in the result, of as many words as are told, and nothing dead is left
-- standing in whatever rule stands there
pub record LeftStanding (r : ℕ) (values result-exit : List ℕ) : Type 0 where
  pub stands : r ≡ 0 → StoodTold values result-exit
  pub none_dead : r ≡ 0 → (rs : Stmts) → Stood result-exit rs → NothingDead rs

-- the answer that a state gives, for every state; and, whatever words led to it, the loader's for a last block of these
pub record LastTold (s : LastBlock) (before : List ℕ) (r : ℕ) (left : List ℕ) : Type 0 where
  pub told : Told known_values (answer_in s) before r left
  pub loader : (number : ℕ) (ws : List ℕ) → s ≡ fed (begun number) ws
      → Told known_values (last_block_on number ws) before r left
