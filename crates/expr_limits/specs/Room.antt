-- What the program's functions ask: words for an expression, and room for its pass.
use Rattle.std.specs.Prelude.{List, ◌≡◌, ℕ, ◌+◌, ◌*◌, ◌≤◌, ◌<◌, ◌^◌, length}
use Rattle.spec.specs.Rose.{size, At}
use Rattle.spec.specs.Tree.{Expr, rose_e}
use Rattle.spec.specs.Proper.{ValidExpr}

-- a list's header and so many locals of two words from a place on
pub record RestAsk (w : List ℕ) (at parts locals : ℕ) : Type 0 where
  pub few : at + (2 * locals + 1) ≤ 16384
  pub detail : parts < 2 ^ 24
  pub long : length w ≡ 278528

-- an expression of at most n words at the start, with 16 times as much room behind them
pub record PassAsk (w : List ℕ) (n : ℕ) : Type 0 where
  pub tree : Expr
  pub valid : ValidExpr tree
  pub here : At w 0 (rose_e tree)
  pub ends : size (rose_e tree) ≤ n
  pub room : 17 * n ≤ length w
  pub short : length w < 2 ^ 32
