-- What `optimize` is asked, of some trees, and what it leaves, for whatever trees stood there. An expression and a
-- target are passed alike, parts first; so a tree is said here by its words and its sort.
use Rattle.std.specs.Prelude.{Bool, true, false, not, ◌&&◌, ◌||◌, List, ◌≡◌, ℕ, ◌+◌, ◌≤◌, eqb, length, get_or}
use Rattle.spec.specs.Rose.{Rose, Roses, nil, cons, size, sizes, At, Ats}
use Rattle.spec.specs.Rose.{count as countR}
use Rattle.spec.specs.Grammar.{kind_in, within, Valid, Valids}
use Rattle.spec.specs.Tree
use Rattle.spec.specs.Tree.{Expr, const, read, fresh, dict, if_then, type_is, logic, seq, oper, call, rose_e, rose_t}
use Rattle.spec.specs.Meaning.{expr_of, target_of}
use Rattle.spec.specs.Proper.{ValidExpr}
use Rattle.spec.specs.Pass.{optimize_expr, optimize_target}
use Rattle.spec.specs.Foldable.{foldable, foldable_target}
use Rattle.spec.specs.Weight.{weight, weights, expr_room}
use Rattle.spec.specs.declared.Sort.{Sort}
use Rattle.spec.specs.declared.Sort.TheVariants as sort
use Rattle.buffer.specs.Copy.{Same}
use Rattle.optimize.specs.declared.Optimized.{Optimized}

-- ---- what is made of a tree

-- expressions and targets are what `optimize` takes
abbrev pub is_part : Sort → Bool
is_part sort.Expr = true
is_part sort.Target = true
is_part sort.Single = true
is_part sort.Stmt = false
is_part sort.List = false

-- the words of what is made of it
abbrev pub passed : Sort → Rose → Rose
passed sort.Expr r = rose_e (optimize_expr (expr_of r))
passed sort.Target r = rose_t (optimize_target (target_of r))
passed sort.Single r = rose_t (optimize_target (target_of r))
passed sort.Stmt r = r
passed sort.List r = r

-- and the foldable places met
abbrev pub places : Sort → Rose → ℕ
places sort.Expr r = foldable (expr_of r)
places sort.Target r = foldable_target (target_of r)
places sort.Single r = foldable_target (target_of r)
places sort.Stmt r = 0
places sort.List r = 0

abbrev pub passed_all : Sort → Roses → Roses
passed_all s nil = nil
passed_all s (cons p ps) = cons (passed s p) (passed_all s ps)

abbrev pub places_all : Sort → Roses → ℕ
places_all s nil = 0
places_all s (cons p ps) = places s p + places_all s ps

-- ---- one tree

-- it stands at `at`, and ends at or below top
pub record Below (w : List ℕ) (at top : ℕ) (s : Sort) (r : Rose) : Type 0 where
  pub part : is_part s ≡ true
  pub valid : Valid s r
  pub here : At w at r
  pub below : at + size r ≤ top

pub record Ask (w : List ℕ) (at top : ℕ) : Type 0 where
  pub sort : Sort
  pub tree : Rose
  pub is : Below w at top sort tree
  pub room : top + expr_room (weight tree) ≤ length w

-- and is a constant or a read, by its header
pub record LeafAsk (w : List ℕ) (at top : ℕ) : Type 0 where
  pub ask : Ask w at top
  pub leaf : within 1 5 (kind_in (get_or w at 0)) ≡ true

-- or is neither of them
pub record NodeAsk (w : List ℕ) (at top : ℕ) : Type 0 where
  pub ask : Ask w at top
  pub no_leaf : within 1 5 (kind_in (get_or w at 0)) ≡ false

-- what is made of it stands from top up to the end that is told, with so many foldable places met
pub record Passed (v : List ℕ) (at top : ℕ) (o : Optimized) (s : Sort) (r : Rose) : Type 0 where
  pub from : o.next ≡ at + size r
  pub here : At v top (passed s r)
  pub ends : o.end ≡ top + size (passed s r)
  pub met : o.foldable ≡ places s r

pub record Done (w v : List ℕ) (at top : ℕ) (o : Optimized) : Type 0 where
  pub frame : Same top w v
  pub right : (s : Sort) (r : Rose) → Below w at top s r → Passed v at top o s r

-- ---- trees of one sort, one behind the other

pub record AllBelow (w : List ℕ) (at count top : ℕ) (s : Sort) (ps : Roses) : Type 0 where
  pub part : is_part s ≡ true
  pub valid : Valids (λ (i : ℕ). s) 0 ps
  pub here : Ats w at ps
  pub many : count ≡ countR ps
  pub below : at + sizes ps ≤ top

pub record PartsAsk (w : List ℕ) (at count top : ℕ) : Type 0 where
  pub sort : Sort
  pub trees : Roses
  pub are : AllBelow w at count top sort trees
  pub room : top + expr_room (weights trees) ≤ length w

pub record AllPassed (v : List ℕ) (at top : ℕ) (o : Optimized) (s : Sort) (ps : Roses) : Type 0 where
  pub from : o.next ≡ at + sizes ps
  pub here : Ats v top (passed_all s ps)
  pub ends : o.end ≡ top + sizes (passed_all s ps)
  pub met : o.foldable ≡ places_all s ps

pub record PartsDone (w v : List ℕ) (at count top : ℕ) (o : Optimized) : Type 0 where
  pub frame : Same top w v
  pub right : (s : Sort) (ps : Roses) → AllBelow w at count top s ps → AllPassed v at top o s ps

-- ---- If

-- conditions that stay as they are whatever their parts: their truth is unknown, and `if_expr` takes nothing off them
abbrev pub stays_if : Expr → Bool
stays_if (const c) = false
stays_if (read p) = true
stays_if (fresh f es) = false
stays_if (dict es) = false
stays_if (if_then c t f) = true
stays_if (Tree.not e) = false
stays_if (type_is t e) = true
stays_if (logic l x y) = false
stays_if (seq x y) = false
stays_if (oper h pay es) = true
stays_if (call names args kwargs f es) = true

-- the same by the kind and the detail of their words
abbrev pub stays_by : ℕ → ℕ → Bool
stays_by k d = within 2 5 k || (within 9 10 k || ((eqb k 11 && not (eqb d 3)) || within 14 16 k))

-- an If at `at`, with its first part at `first`
pub record IfBelow (w : List ℕ) (at top : ℕ) (c t f : Expr) : Type 0 where
  pub valid : ValidExpr (if_then c t f)
  pub here : At w at (rose_e (if_then c t f))
  pub below : at + size (rose_e (if_then c t f)) ≤ top

pub record IfAsk (w : List ℕ) (at first top : ℕ) : Type 0 where
  pub test : Expr
  pub yes : Expr
  pub no : Expr
  pub is : IfBelow w at top test yes no
  pub parts : first ≡ at + 1
  pub room : top + expr_room (weight (rose_e (if_then test yes no))) ≤ length w

pub record IfDone (w v : List ℕ) (at top : ℕ) (o : Optimized) : Type 0 where
  pub frame : Same top w v
  pub right : (c t f : Expr) → IfBelow w at top c t f → Passed v at top o sort.Expr (rose_e (if_then c t f))
