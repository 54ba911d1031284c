-- `in_place::settle_in_place` meets its contract.
-- Assumes nothing.
use Rattle.in_place.proofs.Settles.{stays_done, settle_done}
use Rattle.in_place.proofs.settle_in_place.Goals as goal

pub returns-then-stays_at : goal.returns-then-stays_at
returns-then-stays_at c = stays_done c.stays_at.ensures c.if-stays_at.true

pub returns : goal.returns
returns c = settle_done c.requires c.in_ok-last.ensures c.put.ensures
