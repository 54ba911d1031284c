-- `prune::entry::prune` meets its contract: 5, 6, or what the words give, and zeros in the work words.
-- Assumes nothing.
use mathlib.Core.Path.{sym, ◌∙◌}
use Rattle.prune.proofs.Entries.{words_met}
use Rattle.prune.proofs.entry.prune.Goals as goal

pub returns-clause-met : goal.returns-clause-met
returns-clause-met c =
    words_met _ (sym c.count_right.ensures ∙ c.if-not-count_right.false) c.if-work-need.false
    c.prune_words-answer.auto.work c.zero_fill.ensures c.prune_words-answer.ensures
