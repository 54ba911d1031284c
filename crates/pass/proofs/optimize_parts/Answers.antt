-- `optimize_parts` meets its contract.
-- Assumes nothing.
use native.Mathlib.Omega.{arith}
use Rattle.pass.proofs.Simples.{parts_none, parts_one_done, parts_two, parts_two_done}
use Rattle.pass.proofs.optimize_parts.Goals as goal

pub returns-then-count-eq0 : goal.returns-then-count-eq0
returns-then-count-eq0 c = parts_none c.if-count-eq0.true

pub returns-then-count-eq1 : goal.returns-then-count-eq1
returns-then-count-eq1 c = parts_one_done c.requires.are c.requires.room c.if-count-eq1.true c.optimize.ensures

pub optimize_pair-pair-requires : goal.optimize_pair-pair-requires
optimize_pair-pair-requires c =
    parts_two c.requires.are c.requires.room (omega (arith, c.if-count-eq0.false, c.if-count-eq1.false))

pub returns : goal.returns
returns c =
    parts_two_done c.requires.are c.requires.room (omega (arith, c.if-count-eq0.false, c.if-count-eq1.false))
    c.optimize_pair-pair.ensures
