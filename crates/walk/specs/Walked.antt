-- What walks over words tell, of whatever tree stands there.
use Rattle.std.specs.Prelude.{cond, List, ◌≡◌, ℕ, ◌+◌, ◌≤◌, ◌<◌, ◌^◌, ltb, length}
use Rattle.spec.specs.Rose.{Rose, size, At, parts_of}
use Rattle.spec.specs.Rose.{count as countR}
use Rattle.spec.specs.Grammar.{Valid}
use Rattle.spec.specs.Weight.{weight}
use Rattle.spec.specs.declared.Sort.TheVariants as sort
use Rattle.walk.specs.declared.Weighed.{Weighed}
use Rattle.walk.specs.declared.List as listAt

-- what so many own words weigh: one weighs two
abbrev pub weight_by : ℕ → ℕ
weight_by n = cond (ltb n 2) 2 n

-- an expression's end and weight
pub record WeightOf (ws : List ℕ) (at next w : ℕ) : Type 0 where
  pub of : (r : Rose) → Valid sort.Expr r → At ws at r → (next ≡ at + size r) × (w ≡ weight r)

abbrev pub IsWeighed : List ℕ → ℕ → Weighed → Type 0
IsWeighed ws at x = WeightOf ws at x.next x.weight

-- a list of statements stands there; its words are so few that levels can be counted in 32 bits
pub record SomeList (ws : List ℕ) (at : ℕ) : Type 0 where
  pub tree : Rose
  pub valid : Valid sort.List tree
  pub here : At ws at tree
  pub inside : at + size tree ≤ length ws
  pub short : length ws < 2 ^ 32

pub record Counted (ws : List ℕ) (at n first : ℕ) : Type 0 where
  pub of : (r : Rose) → Valid sort.List r → At ws at r → (n ≡ countR (parts_of r)) × (first ≡ at + 1)

abbrev pub IsList : List ℕ → ℕ → listAt.List → Type 0
IsList ws at x = Counted ws at x.count x.first

pub record ListEnds (ws : List ℕ) (at next : ℕ) : Type 0 where
  pub of : (r : Rose) → Valid sort.List r → At ws at r → at + size r ≤ length ws → next ≡ at + size r
