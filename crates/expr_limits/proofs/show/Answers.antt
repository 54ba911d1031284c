-- `expr_limits::show` is safe: what is read lies within the words, and has room for its pass.
-- Assumes nothing.
use Rattle.expr_limits.proofs.Shown.{read_asks}
use Rattle.expr_limits.proofs.show.Goals as goal

pub pruned-made-requires : goal.pruned-made-requires
pruned-made-requires g c = read_asks _ _ c.in-Ok.ensures c.requires.0 c.requires.1
