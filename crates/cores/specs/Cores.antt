-- What is told of a part that has an expression's statements, and of the core inside a chain of such.
use Rattle.std.specs.Prelude.{List, ◌≡◌, ℕ, ◌≤◌, ◌<◌, length}
use Rattle.spec.specs.Tree.{Expr}
use Rattle.spec.specs.PassStmts.{expr_stmts}
use Rattle.spec.specs.Weight.{weight_e}
use Rattle.expr_forms.specs.Made.{Is}

-- of e, which stands from `at` up to `end`: an expression at r that ends there too, is no heavier, and has e's
-- statements
pub record CoreOf (w : List ℕ) (at end r : ℕ) (e : Expr) : Type 0 where
  pub core : Expr
  pub is : Is w r end core
  pub order : at ≤ r
  pub lighter : weight_e core ≤ weight_e e
  pub same : expr_stmts core ≡ expr_stmts e

pub record CoreDone (w : List ℕ) (at r : ℕ) : Type 0 where
  pub of : (end : ℕ) (e : Expr) → Is w at end e → end ≤ length w → CoreOf w at end r e

-- the same, behind e's first word
pub record PartDone (w : List ℕ) (at r : ℕ) : Type 0 where
  pub of : (end : ℕ) (e : Expr) → Is w at end e → end ≤ length w → (at < r) × CoreOf w at end r e
