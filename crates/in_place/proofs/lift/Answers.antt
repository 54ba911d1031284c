-- `in_place::lift` meets its contract.
-- Assumes nothing.
use Rattle.in_place.proofs.Lifts.{lift_done}
use Rattle.in_place.proofs.lift.Goals as goal

pub returns : goal.returns
returns c = lift_done c.requires c.weigh.ensures c.put-last.ensures c.put.ensures
