-- `optimize::optimize_leaf` meets its contract: its own words are put at top.
-- Assumes nothing.
use Rattle.optimize.proofs.Leaves.{long_put, long_done, short_put, short_done}
use Rattle.optimize.proofs.optimize_leaf.Goals as goal

pub put-end-requires : goal.put-end-requires
put-end-requires c = long_put c.requires c.word_or_zero-h.ensures c.is_const.ensures c.if-is_const.true

pub returns-then-is_const : goal.returns-then-is_const
returns-then-is_const c =
    long_done c.requires c.word_or_zero-h.ensures c.is_const.ensures c.if-is_const.true c.put-end.ensures

pub put-end-requires-2 : goal.put-end-requires-2
put-end-requires-2 c = short_put c.requires c.word_or_zero-h.ensures c.is_const.ensures c.if-is_const.false

pub returns : goal.returns
returns c =
    short_done c.requires c.word_or_zero-h.ensures c.is_const.ensures c.if-is_const.false c.put-end-2.ensures
