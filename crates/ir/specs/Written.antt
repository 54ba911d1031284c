-- What it is to write words at a place and no other word.
use Rattle.std.specs.Prelude.{List, ◌≡◌, ℕ, ◌+◌, ◌≤◌, ◌<◌, length, get_or}
use Rattle.spec.specs.Rose.{Words}

-- in v the words xs stand from `at` up to r, and all others are w's
pub record Written (w v : List ℕ) (at : ℕ) (xs : List ℕ) (r : ℕ) : Type 0 where
  pub below : (k : ℕ) → k < at → get_or v k 0 ≡ get_or w k 0
  pub here : Words v at xs
  pub above : (k : ℕ) → r ≤ k → get_or v k 0 ≡ get_or w k 0
  pub ends : r ≡ at + length xs
