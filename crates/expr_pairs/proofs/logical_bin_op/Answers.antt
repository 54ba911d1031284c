-- `expr_pairs::logical_bin_op` meets its contract: a known truth tells which part is kept; where it is not known, the
-- node stays.
-- Assumes nothing.
use Rattle.expr_pairs.proofs.Logics.{logic_kept, logic_stays}
use Rattle.expr_pairs.proofs.logical_bin_op.Goals as goal

pub returns-in-Some : goal.returns-in-Some
returns-in-Some c = logic_kept c.requires c.in-Some.ensures c.keep.ensures

pub returns-in-None : goal.returns-in-None
returns-in-None c = logic_stays c.requires c.in-None.ensures
