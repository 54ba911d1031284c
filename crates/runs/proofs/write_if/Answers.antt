-- `runs::write_if` meets its contract.
-- Assumes nothing.
use mathlib.Core.Path.{◌∙◌}
use Rattle.runs.proofs.Writings.{yes_ask, no_ask, if_done}
use Rattle.runs.proofs.write_if.Goals as goal

pub write_list-other-requires : goal.write_list-other-requires
write_list-other-requires c =
    yes_ask c.requires c.write_head-body.ensures c.put-lists.ensures
    (c.put-lists.auto.words ∙ c.write_head-body.auto.words)

pub write_list-last-requires : goal.write_list-last-requires
write_list-last-requires c =
    no_ask c.requires c.write_head-body.ensures c.put-lists.ensures
    c.write_list-other.ensures
    (c.write_list-other.auto.words ∙ c.put-lists.auto.words ∙ c.write_head-body.auto.words)

pub returns : goal.returns
returns c =
    if_done c.requires c.write_head-body.ensures c.put-lists.ensures
    c.write_list-other.ensures c.write_list-last.ensures c.single.ensures
