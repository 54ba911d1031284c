-- What a constructor over words is asked, and what it leaves: a node stands with its parts, and what the constructor
-- makes of the parts stands in its place.
use Rattle.std.specs.Prelude.{List, ◌≡◌, ℕ, ◌+◌, ◌≤◌, length, get_or}
use Rattle.spec.specs.Rose.{size, At}
use Rattle.spec.specs.Tree
use Rattle.spec.specs.Tree.{Expr, const, read, fresh, dict, if_then, type_is, logic, seq, oper, call, rose_e}
use Rattle.spec.specs.Proper.{ValidExpr}
use Rattle.spec.specs.Pass.{seq_expr, not_expr, type_is_expr, logical_bin_op, call_expr}
use Rattle.ir.specs.Standing.{IsExpr}
use Rattle.buffer.specs.Copy.{Same}
use Rattle.expr_forms.specs.declared.Whole.{Whole}

-- any expression, and what its constructor makes of its parts; an If has its own, in the crate `if_expr`
abbrev pub wholes : Expr → Expr
wholes e = e

unfoldable pub remade : Expr → Expr
remade (const c) = const c
remade (read p) = read p
remade (fresh f es) = fresh f es
remade (dict es) = dict es
remade (if_then c t f) = if_then c t f
remade (Tree.not e) = not_expr e
remade (type_is t e) = type_is_expr t e
remade (logic l x y) = logical_bin_op l x y
remade (seq x y) = seq_expr x y
remade (oper h pay es) = oper h pay es
remade (call names args kwargs f es) = call_expr names args kwargs f es

-- an expression stands from `at` up to `end`
pub record Is (w : List ℕ) (at end : ℕ) (e : Expr) : Type 0 where
  pub valid : ValidExpr e
  pub here : At w at (rose_e e)
  pub ends : end ≡ at + size (rose_e e)

-- some node of this form does
pub record Plain {A : Type 0} (plain : A → Expr) (w : List ℕ) (at end : ℕ) : Type 0 where
  pub parts : A
  pub is : Is w at end (plain parts)
  pub inside : end ≤ length w

-- for whatever parts, what is made of them stands from `at` up to r; words below `at` and from `end` on are as they
-- were
pub record Made {A : Type 0} (plain made : A → Expr) (w v : List ℕ) (at end r : ℕ) : Type 0 where
  pub below : Same at w v
  pub above : (k : ℕ) → end ≤ k → get_or v k 0 ≡ get_or w k 0
  pub long : length v ≡ length w
  pub right : (a : A) → Is w at end (plain a) → Is v at r (made a)

-- ---- over the struct

-- what a constructor is handed: a node of this form, with its numbers
pub record Handed {A : Type 0} (form : A → Expr) (w : List ℕ) (x : Whole) : Type 0 where
  pub plain : Plain form w x.at x.end
  pub node_of : IsExpr w x.at x.node

-- and what it leaves
abbrev pub MadeOf : {A : Type 0} → (A → Expr) → (A → Expr) → List ℕ → List ℕ → Whole → ℕ → Type 0
MadeOf form made w v x r = Made form made w v x.at x.end r
