-- `ir::tree::node_at` meets its contract.
-- Assumes nothing.
use Rattle.ir.proofs.Nodes.{node_inside}
use Rattle.ir.proofs.Ranges.{node_named, node_expr}
use Rattle.ir.proofs.tree.node_at.Goals as goal

pub bounds-words-at : goal.bounds-words-at
bounds-words-at c = node_inside c.requires

pub unwrap-requires : goal.unwrap-requires
unwrap-requires c = node_named c.requires c.try_from.result c.try_from.ensures c.kind_of.ensures

pub expr_at-node-requires : goal.expr_at-node-requires
expr_at-node-requires c =
    node_expr c.requires c.try_from.result c.try_from.ensures c.kind_of.ensures c.in-Expr.field-0 c.in-Expr.ensures
