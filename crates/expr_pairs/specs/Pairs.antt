-- What the constructors of nodes of two expressions are handed, and what they make of it.
use Rattle.std.specs.Prelude.{ℕ}
use Rattle.spec.specs.Tree.{Logic, Expr, logic, seq}
use Rattle.spec.specs.Pass.{seq_expr, logical_bin_op}
use Rattle.buffer.specs.Copy.{PutAsk}

-- Seq, and what `seq` makes of its parts
abbrev pub seqs : Expr × Expr → Expr
seqs e = seq e.0 e.1

abbrev pub seq_made : Expr × Expr → Expr
seq_made e = seq_expr e.0 e.1

-- And or Or, and what `logical_bin_op` makes of its parts
abbrev pub logics : Logic × Expr × Expr → Expr
logics e = logic e.0 e.1 e.2

abbrev pub logic_made : Logic × Expr × Expr → Expr
logic_made e = logical_bin_op e.0 e.1 e.2

-- two parts, each of which can be moved down into the node's place
pub record Kept (len at first next end : ℕ) : Type 0 where
  pub left : PutAsk len first next at
  pub right : PutAsk len next end at
