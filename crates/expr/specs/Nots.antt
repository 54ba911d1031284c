-- What `not` is handed, and what it makes of it.
use Rattle.spec.specs.Tree
use Rattle.spec.specs.Tree.{Expr}
use Rattle.spec.specs.Pass.{not_expr}

-- Not, and what `not` makes of its part
abbrev pub nots : Expr → Expr
nots e = Tree.not e

abbrev pub not_made : Expr → Expr
not_made e = not_expr e
