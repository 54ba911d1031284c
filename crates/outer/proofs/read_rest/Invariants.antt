-- `outer::read_rest` meets its contract.
-- Assumes nothing.
use Rattle.outer.specs.Outer.{RestMade}
use Rattle.outer.proofs.read_rest.Given as goal

abbrev pub invariant-loop-i : goal.invariant-loop-i
invariant-loop-i l = RestMade l.words l.n l.at l._i l.next
