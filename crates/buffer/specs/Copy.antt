-- What a copy within a buffer asks and gives, and what it is to leave words as they were.
use Rattle.std.specs.Prelude.{List, ◌++◌, ◌⊎◌, ◌≡◌, ℕ, ◌+◌, ◌-◌, ◌≤◌, ◌<◌, length, take, drop, get_or}
use Rattle.spec.specs.Frames.{Agree}

-- n words at `from` and n at `to` lie within the length; the second place is not above the first, or is clear of it
pub record Clear (len from to n : ℕ) : Type 0 where
  pub source : from + n ≤ len
  pub target : to + n ≤ len
  pub apart : (to ≤ from) ⊎ (from + n ≤ to)

-- w, with the n words from `to` on replaced by those that stood at `from`
abbrev pub copied : List ℕ → ℕ → ℕ → ℕ → List ℕ
copied w from to n = take to w ++ take n (drop from w) ++ drop (to + n) w

-- a frame: below top v has w's words
pub record Same (top : ℕ) (w v : List ℕ) : Type 0 where
  pub word : (k : ℕ) → k < top → get_or v k 0 ≡ get_or w k 0

-- the words from `from` up to `end`, with room for them from top on, clear of them or not above them
pub record PutAsk (len from end top : ℕ) : Type 0 where
  pub order : from ≤ end
  pub apart : (top ≤ from) ⊎ (end ≤ top)
  pub within : end ≤ len
  pub room : top + (end - from) ≤ len

-- they stand from top up to r, and all other words are as they were
pub record PutDone (w v : List ℕ) (from end top r : ℕ) : Type 0 where
  pub frame : Same top w v
  pub moved : Agree w from v top (end - from)
  pub above : (k : ℕ) → r ≤ k → get_or v k 0 ≡ get_or w k 0
  pub ends : r ≡ top + (end - from)
  pub long : length v ≡ length w
