-- `blocks::entry::read_blocks` meets its contract: the answer of the check, then that of the copy.
-- Assumes nothing.
use Rattle.std.proofs.Common.{length, arith}
use Rattle.blocks.proofs.Reading.{read_refused, read_loaded}
use Rattle.blocks.proofs.entry.read_blocks.Goals as goal

pub returns-in_err-used : goal.returns-in_err-used
returns-in_err-used c =
    let met = read_refused c.args.file.now (omega arith) (cc) (length c.args.res.now) c.args.res.now _ _
    (c.in_err-used.was {u = tt}) c.check.ensures in
    grind (arith, met)

pub returns : goal.returns
returns c =
    read_loaded c.args.file.now (omega arith) (cc) _ _ _ _ _ _ (c.in_ok-used.was {u = tt}) c.check.ensures
    c.load.ensures
