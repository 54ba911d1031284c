-- `expr_pairs::seq` meets its contract: a left that is not pure is kept.
-- Assumes nothing.
use Rattle.expr_pairs.proofs.Seqs.{seq_stays}
use Rattle.expr_pairs.proofs.seq.Goals as goal

pub returns : goal.returns
returns c = seq_stays c.requires c.in_default.ensures
