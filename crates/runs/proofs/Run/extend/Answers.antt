-- `runs::Run::extend` meets its contract.
-- Assumes nothing.
use Rattle.runs.proofs.Holding.{extend_more}
use Rattle.runs.proofs.Run.extend.Goals as goal

pub returns : goal.returns
returns c = extend_more c.args.right c.if-self.false
