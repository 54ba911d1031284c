-- What is told of own words: where they end, how many parts come behind them, and of what sort each is.
use Rattle.std.specs.Prelude.{List, Result, Ok, Err, Option, Some, None, ◌≡◌, ℕ, ◌+◌, get_or}
use Rattle.refusal.specs.Numbers.{number_of, place_of}
use Rattle.refusal.specs.declared.Refusal.{Refusal}
use Rattle.spec.specs.Grammar.{part_sort}
use Rattle.spec.specs.Outcome.{given, refused}
use Rattle.spec.specs.declared.Sort.{Sort}
use Rattle.spec.specs.declared.Sort.TheVariants as sort
use Rattle.steps.specs.Steps.{own_step, count_in, sort_in}
use Rattle.tables.specs.Kinds.{node_number}
use Rattle.tables.specs.declared.kind.NodeKind.{NodeKind}
use Rattle.reader.specs.declared.Own.{Own}

-- the parts of a node of a kind, and the statements of a list
abbrev pub sort_of : Option NodeKind → ℕ → Sort
sort_of (Some kind) i = part_sort (node_number kind) i
sort_of None i = sort.Stmt

pub record IsOwn (levels : ℕ) (ws : List ℕ) (s : Sort) (at : ℕ) (own : Own) : Type 0 where
  pub read : own_step levels ws s at ≡ given own.first
  pub many : own.count ≡ count_in s (get_or ws at 0) (get_or ws (at + 1) 0)
  pub sorts : (i : ℕ) → sort_of own.kind i ≡ sort_in s (get_or ws at 0) i

abbrev pub OwnRead : ℕ → List ℕ → Sort → ℕ → Result Own Refusal → Type 0
OwnRead levels ws s at (Ok own) = IsOwn levels ws s at own
OwnRead levels ws s at (Err r) = own_step levels ws s at ≡ refused (number_of r) (place_of r)
