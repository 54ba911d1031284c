-- `ir::tree::tabled_at` meets its contract.
-- Assumes nothing.
use Rattle.ir.proofs.Nodes.{node_inside}
use Rattle.ir.proofs.tree.tabled_at.Goals as goal

pub first_pay-word-requires : goal.first_pay-word-requires
first_pay-word-requires g c = node_inside c.requires.some
