-- `expr_bool::seq_const` meets its contract.
-- Assumes nothing.
use Rattle.purity.proofs.Pures.{an_end, no_end}
use Rattle.expr_bool.proofs.Sequels.{seq_pure, seq_kept}
use Rattle.expr_bool.proofs.seq_const.Goals as goal

pub returns-then-is_some : goal.returns-then-is_some
returns-then-is_some c =
    let o = an_end _ _ _ _ c.is_some.ensures c.if-is_some.true c.is_pure_infallible.ensures in
    seq_pure c.args.b o.1 c.write_bool.ensures

pub returns : goal.returns
returns c =
    seq_kept c.requires c.args.b
    (no_end _ _ _ _ c.is_some.ensures c.if-is_some.false c.is_pure_infallible.ensures)
    c.write_head.ensures c.write_bool-2.ensures
