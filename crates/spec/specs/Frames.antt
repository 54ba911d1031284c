-- Words that agree, and what it is for a tree to stand at a place of the words as the reader finds it.
use Rattle.std.specs.Prelude.{List, ◌≡◌, ℕ, ◌+◌, ◌≤◌, ◌<◌, length, get_or}
use Rattle.spec.specs.Rose.{Rose, size, depth, At}
use Rattle.spec.specs.Grammar.{Valid}
use Rattle.spec.specs.declared.Sort.{Sort}

-- the n words of v from b on are those of w from a on
pub record Agree (w : List ℕ) (a : ℕ) (v : List ℕ) (b n : ℕ) : Type 0 where
  pub word : (k : ℕ) → k < n → get_or v (b + k) 0 ≡ get_or w (a + k) 0

-- the tree r stands in the words from `at` to `next`, has at most so many levels, and belongs at a place of a sort
pub record Stands (levels : ℕ) (s : Sort) (ws : List ℕ) (at : ℕ) (r : Rose) (next : ℕ) : Type 0 where
  pub here : At ws at r
  pub ends : next ≡ at + size r
  pub inside : next ≤ length ws
  pub deep : depth r ≤ levels
  pub valid : Valid s r
