-- Words as trees: a node has words of its own, its header first, and parts. All that is said of memory is
-- said of these.
-- A list of statements is such a tree too, with its count for its own word; it is no node and adds no depth.
use Rattle.std.specs.Prelude.{List, [], ◌∷◌, ◌++◌, ◌≡◌, ℕ, suc, ◌+◌, max, length, get_or}
use Rattle.spec.specs.declared.Sort.{Sort}
use Rattle.spec.specs.declared.Sort.TheVariants as sort

mutual
  pub data Rose : Type 0 where
    node : Sort → List ℕ → Roses → Rose

  pub data Roses : Type 0 where
    nil : Roses
    cons : Rose → Roses → Roses

abbrev pub sort_of : Rose → Sort
sort_of (node s own ps) = s

abbrev pub own_of : Rose → List ℕ
own_of (node s own ps) = own

abbrev pub parts_of : Rose → Roses
parts_of (node s own ps) = ps

abbrev pub count : Roses → ℕ
count nil = 0
count (cons p ps) = suc (count ps)

-- how many words
abbrev mutual
  pub size : Rose → ℕ
  size (node s own ps) = length own + sizes ps

  pub sizes : Roses → ℕ
  sizes nil = 0
  sizes (cons p ps) = size p + sizes ps

-- the words themselves: a node's own, then its parts'
abbrev mutual
  pub enc : Rose → List ℕ
  enc (node s own ps) = own ++ encs ps

  pub encs : Roses → List ℕ
  encs nil = []
  encs (cons p ps) = enc p ++ encs ps

-- the words xs stand in w from a on
abbrev pub Words : List ℕ → ℕ → List ℕ → Type 0
Words w a [] = Unit {0}
Words w a (x ∷ xs) = (get_or w a 0 ≡ x) × Words w (a + 1) xs

-- a tree stands in w from a on
abbrev mutual
  pub At : List ℕ → ℕ → Rose → Type 0
  At w a (node s own ps) = Words w a own × Ats w (a + length own) ps

  pub Ats : List ℕ → ℕ → Roses → Type 0
  Ats w a nil = Unit {0}
  Ats w a (cons p ps) = At w a p × Ats w (a + size p) ps

-- what a node adds to the depth, and to the count of nodes
abbrev pub level : Sort → ℕ
level sort.Expr = 1
level sort.Target = 1
level sort.Single = 1
level sort.Stmt = 1
level sort.List = 0

-- refusal 7: how deep, "the top being 1"
abbrev mutual
  pub depth : Rose → ℕ
  depth (node s own ps) = level s + depths ps

  pub depths : Roses → ℕ
  depths nil = 0
  depths (cons p ps) = max (depth p) (depths ps)

-- how many nodes: expressions, targets and statements
abbrev mutual
  pub nodes : Rose → ℕ
  nodes (node s own ps) = level s + nodess ps

  pub nodess : Roses → ℕ
  nodess nil = 0
  nodess (cons p ps) = nodes p + nodess ps
