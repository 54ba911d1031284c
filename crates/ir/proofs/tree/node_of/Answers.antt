-- `ir::tree::node_of` meets its contract.
-- Assumes nothing.
use Rattle.ir.proofs.Nodes.{node_inside}
use Rattle.ir.proofs.tree.node_of.Goals as goal

pub bounds-words-at : goal.bounds-words-at
bounds-words-at g c = node_inside c.requires.0
