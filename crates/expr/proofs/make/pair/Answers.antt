-- `expr::make::pair` meets its contract: each way asks of a constructor what it may, and leaves what that one left.
-- Assumes nothing.
use mathlib.Core.Path.{◌≡◌, ap}
use Rattle.std.proofs.Common.{rules}
use Rattle.tables.specs.Kinds.{expr_number}
use Rattle.expr.proofs.Wholes.{whole_asks, whole_made, has_logic, has_seq}
use Rattle.expr.proofs.make.pair.Goals as goal

pub logical_bin_op-requires : goal.logical_bin_op-requires
logical_bin_op-requires c =
    let p = c.requires in
    whole_asks p.0 (has_logic p.0.plain p.0.node_of (ap expr_number c.in-LogicalBinOp.is))

pub returns-in-LogicalBinOp : goal.returns-in-LogicalBinOp
returns-in-LogicalBinOp c =
    let p = c.requires in
    whole_made p.0 (has_logic p.0.plain p.0.node_of (ap expr_number c.in-LogicalBinOp.is))
    c.logical_bin_op.ensures

pub seq-requires : goal.seq-requires
seq-requires c =
    let p = c.requires in
    let is_seq : expr_number c.args.whole.node.kind ≡ 13 = search rules in
    whole_asks p.0 (has_seq p.0.plain p.0.node_of is_seq)

pub returns-in_default : goal.returns-in_default
returns-in_default c =
    let p = c.requires in
    let is_seq : expr_number c.args.whole.node.kind ≡ 13 = search rules in
    whole_made p.0 (has_seq p.0.plain p.0.node_of is_seq) c.seq.ensures
