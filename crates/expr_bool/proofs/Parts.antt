-- The parts of a valid Not, And or Or are valid.
-- Assumes nothing.
use Rattle.spec.specs.Tree
use Rattle.spec.specs.Tree.{Logic, Expr, logic}
use Rattle.spec.specs.Proper.{ValidExpr}
use Rattle.spec.proofs.Passed.{valid_parts, one_part, two_parts}

pub not_part : (x : Expr) → ValidExpr (Tree.not x) → ValidExpr x
not_part x v = one_part x (valid_parts (Tree.not x) v)

module _ (l : Logic) (x y : Expr) (v : ValidExpr (logic l x y)) where
  pub left_part : ValidExpr x
  left_part = (two_parts x y (valid_parts (logic l x y) v)).0

  pub right_part : ValidExpr y
  right_part = (two_parts x y (valid_parts (logic l x y) v)).1
