-- `prune::entry::prune_rule` meets its contract: the rule is copied in, pruned above itself, and given if it fits.
-- Assumes nothing.
use Rattle.prune.proofs.Copied.{give_done, passed_rule}
use Rattle.prune.proofs.entry.prune_rule.Goals as goal

pub returns : goal.returns
returns c =
    give_done (passed_rule c.requires _ c.copy_in.ensures c.pass_rule-passed.ensures) c.give.ensures
