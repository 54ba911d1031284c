-- What the quick walk promises, and what a header asks of its place.
use Rattle.std.specs.Prelude.{List, ◌≡◌, ℕ, ◌≤◌, ◌<◌, Option, Some, None, ⊤, length, get_or}
use Rattle.spec.specs.Outcome.{Outcome, given}
use Rattle.spec.specs.Grammar.{kind_in, detail_in}

-- a place is what is read; None says nothing
abbrev pub Quick : Outcome ℕ → Option ℕ → Type 0
Quick read (Some end) = read ≡ given end
Quick read None = ⊤

-- the header of a read stands there: its kind, 2 to 5, with detail 0
pub record NameAt (ws : List ℕ) (at : ℕ) : Type 0 where
  pub inside : at < length ws
  pub low : 2 ≤ get_or ws at 0
  pub high : get_or ws at 0 ≤ 5

-- a header of this kind and detail stands there, and a level is left for it
pub record HeadAt (ws : List ℕ) (at levels k d : ℕ) : Type 0 where
  pub inside : at < length ws
  pub level : 0 < levels
  pub is_kind : k ≡ kind_in (get_or ws at 0)
  pub is_detail : d ≡ detail_in (get_or ws at 0)

-- this word stands there, and a level is left for it
pub record WordAt (ws : List ℕ) (at levels h : ℕ) : Type 0 where
  pub inside : at < length ws
  pub level : 0 < levels
  pub is_word : h ≡ get_or ws at 0
