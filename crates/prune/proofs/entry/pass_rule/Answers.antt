-- `prune::entry::pass_rule` meets its contract: room for the count word, the pass above it, and the count written.
-- Assumes nothing.
use Rattle.prune.proofs.Passes.{list_ask, end_inside, pass_done}
use native.Mathlib.Omega.{arith}
use Rattle.prune.proofs.entry.pass_rule.Goals as goal

pub optimize_list-made-requires : goal.optimize_list-made-requires
optimize_list-made-requires c =
    let wrote = c.write_word-top in
    list_ask wrote.ensures c.requires wrote.auto.words

pub overflow_cast-run : goal.overflow_cast-run
overflow_cast-run c =
    let wrote = c.write_word-top in
    let ask = c.requires in
    omega (arith, (end_inside wrote.ensures ask wrote.auto.words c.optimize_list-made.ensures).1)

pub returns : goal.returns
returns c =
    let wrote = c.write_word-top in
    let ask = c.requires in
    let last = c.write_word in
    pass_done wrote.ensures ask wrote.auto.words c.optimize_list-made.ensures last.ensures
    (omega (arith, wrote.auto.words, c.optimize_list-made.auto.words, last.auto.words))
