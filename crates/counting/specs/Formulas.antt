-- Which expressions are counted (document 02, 2.13), and the list of all of them with a number of nodes. That it has
-- each of them once and nothing else is `listed` of proofs/Listed.antt.
use Rattle.std.specs.Prelude.{Bool, true, false, cond, ◌&&◌, Some, List, [], ◌∷◌, ◌++◌, map}
use Rattle.std.specs.Prelude.{◌≡◌, ℕ, zero, suc, ◌-◌, eqb}
use Rattle.std.specs.List.{flat_map, slice_get}
use Rattle.spec.specs.Tree
use Rattle.spec.specs.Tree.{boolean, Place, local, captured, module', def, Logic, and, or}
use Rattle.spec.specs.Tree.{Expr, const, read, fresh, dict, if_then, type_is, logic, seq, oper, call}
use Rattle.spec.specs.Verdict.{is_bool}
use Rattle.spec.specs.Pass.{nodes_of}

-- ---- which

-- "Local 0"
abbrev pub is_local_0 : Place → Bool
is_local_0 (local n) = eqb n 0
is_local_0 (captured n) = false
is_local_0 (module' n) = false
is_local_0 (def n) = false

-- "built from True, False, Local 0, Not, And and Or"
unfoldable pub built : Expr → Bool
built (const c) = is_bool c
built (read p) = is_local_0 p
built (fresh f es) = false
built (dict es) = false
built (if_then c t f) = false
built (Tree.not e) = built e
built (type_is t e) = false
built (logic l x y) = built x && built y
built (seq x y) = false
built (oper h pay es) = false
built (call names args kwargs f es) = false

-- "expressions of exactly n nodes built from" these
pub record Formula (n : ℕ) (e : Expr) : Type 0 where
  pub from_these : built e ≡ true
  pub exactly : nodes_of e ≡ n

-- ---- each once

-- it stands at one place of the list
pub record Once (e : Expr) (es : List Expr) : Type 0 where
  pub place : ℕ
  pub stands : slice_get es place ≡ Some e
  pub nowhere_else : (i : ℕ) → slice_get es i ≡ Some e → i ≡ place

-- the list has "every such expression once", and nothing else
pub record Listed (n : ℕ) (es : List Expr) : Type 0 where
  pub every : (e : Expr) → Formula n e → Once e es
  pub no_other : (e : Expr) (i : ℕ) → slice_get es i ≡ Some e → Formula n e

-- ---- the list

-- of one node: True, False, Local 0
abbrev pub leaves : List Expr
leaves = const (boolean true) ∷ const (boolean false) ∷ read (local 0) ∷ []

-- And, or Or, of each on the left with each on the right
abbrev pub pairs : Logic → List Expr → List Expr → List Expr
pairs l xs ys = flat_map (λ x. map (logic l x) ys) xs

abbrev pub joins : List Expr → List Expr → List Expr
joins xs ys = pairs and xs ys ++ pairs or xs ys

-- And and Or of parts that have `rest` nodes together, fewer than `lefts` of them on the left; the list for a number of
-- nodes is given
unfoldable pub splits : (ℕ → List Expr) → ℕ → ℕ → List Expr
splits list rest zero = []
splits list rest (suc left) = splits list rest left ++ joins (list left) (list (rest - left))

-- all with n nodes, where the list for each number below n is given: none, the leaves, or Not of one with a node less,
-- and And or Or of two that have a node less together
unfoldable pub next : (ℕ → List Expr) → ℕ → List Expr
next list zero = []
next list (suc zero) = leaves
next list (suc (suc n)) = map Tree.not (list (suc n)) ++ splits list (suc n) (suc n)

-- the list for each number below n, and none for others
unfoldable pub below : ℕ → ℕ → List Expr
below zero k = []
below (suc n) k = cond (eqb k n) (next (below n) n) (below n k)

-- all with exactly n nodes
unfoldable pub formulas : ℕ → List Expr
formulas n = next (below n) n
