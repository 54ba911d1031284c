-- `runs::write_list` meets its contract.
-- Assumes nothing.
use Rattle.runs.proofs.Writings.{list_done}
use Rattle.runs.proofs.write_list.Goals as goal

pub returns : goal.returns
returns c =
    list_done c.requires c.write_word-body.ensures c.put.ensures
