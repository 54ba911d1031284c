-- Expressions that the pass keeps, and what the walk over words promises of them. A tree is kept where each node is.
use Rattle.std.specs.Prelude.{Bool, true, ◌&&◌, List, ◌≡◌, ℕ, ◌+◌, ◌≤◌, length, Option, Some, None, ⊤}
use Rattle.spec.specs.Rose.{Rose, Roses, node, nil, cons, size, depth, At}
use Rattle.spec.specs.Grammar.{Valid}
use Rattle.spec.specs.Tree.{bit_of}
use Rattle.spec.specs.Views.{lead_of}
use Rattle.spec.specs.declared.Sort.TheVariants as sort
use Rattle.kept_nodes.specs.Nodes.{own_kept, own_folds}
use Rattle.kept.specs.declared.Kept.{Kept}

-- each node is kept
abbrev mutual
  pub kept_r : Rose → Bool
  kept_r (node s own ps) = own_kept own (lead_of ps) && kepts_r ps

  pub kepts_r : Roses → Bool
  kepts_r nil = true
  kepts_r (cons p ps) = kept_r p && kepts_r ps

-- how many of them are foldable places
abbrev mutual
  pub places_r : Rose → ℕ
  places_r (node s own ps) = bit_of (own_folds own (lead_of ps)) + places_rs ps

  pub places_rs : Roses → ℕ
  places_rs nil = 0
  places_rs (cons p ps) = places_r p + places_rs ps

-- a tree from `at` on is kept, up to this end and with so many foldable places, and is no deeper than a rule's
-- expression may be
pub record RoseStays (w : List ℕ) (at : ℕ) (k : Kept) : Type 0 where
  pub tree : Rose
  pub valid : Valid sort.Expr tree
  pub here : At w at tree
  pub ends : k.next ≡ at + size tree
  pub inside : k.next ≤ length w
  pub deep : depth tree ≤ 199
  pub kept : kept_r tree ≡ true
  pub met : k.foldable ≡ places_r tree

-- None says nothing
abbrev pub RoseKept : List ℕ → ℕ → Option Kept → Type 0
RoseKept w at (Some k) = RoseStays w at k
RoseKept w at None = ⊤
