-- `blocks::load::load` meets its contract: the size is that of the rule words, and the words copied are these.
-- Assumes nothing.
use Rattle.std.proofs.Common.{arith}
use Rattle.blocks.proofs.Reading.{load_judged, load_size, load_short, load_done}
use Rattle.blocks.proofs.load.load.Goals as goal

pub returns-then-res-n : goal.returns-then-res-n
returns-then-res-n c =
    load_short _ (omega arith) _ c.blocks-2.ensures.count _ c.requires _ c.if-res-n.true

pub returns : goal.returns
returns c =
    load_done _ (omega arith) _ c.blocks-2.ensures.count _ c.requires _ _ c.if-res-n.false c.unpack.ensures

pub unpack-requires-clause-judged : goal.unpack-requires-clause-judged
unpack-requires-clause-judged c = load_judged _ (omega arith) _ c.blocks-2.ensures.count _ c.requires

pub unpack-requires-clause-size : goal.unpack-requires-clause-size
unpack-requires-clause-size c = load_size _ (omega arith) _ c.blocks-2.ensures.count _ c.requires
