-- `optimize_pair` meets its contract.
-- Assumes nothing.
use native.Mathlib.Omega.{arith}
use Rattle.pass.proofs.Pairs.{pair_places, pair_done}
use Rattle.pass.proofs.optimize_pair.Goals as goal

pub overflow_add-foldable : goal.overflow_add-foldable
overflow_add-foldable c =
    let p = pair_places c.requires.are c.requires.room c.optimize-target.ensures c.optimize-target.auto.words
    c.optimize-value.ensures in
    omega (arith, p)

pub returns : goal.returns
returns c =
    pair_done c.requires.are c.requires.room c.optimize-target.ensures c.optimize-target.auto.words
    c.optimize-value.ensures
