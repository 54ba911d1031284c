-- `foldable::all_constant` meets its contract. After each turn of either loop the parts that are left stand from the
-- next place on.
-- Assumes nothing.
use mathlib.Core.Path.{◌≡◌}
use Prim.Native.Nat.{◌+◌, ◌*◌}
use Rattle.foldable.proofs.Ways.{Inv}
use Rattle.foldable.proofs.all_constant.Given as goal

abbrev pub invariant-loop : goal.invariant-loop
invariant-loop l = Inv l.words l.first l.count l.next l.counter × (l.next ≡ l.first + 2 * l.counter)

abbrev pub invariant-loop-2 : goal.invariant-loop-2
invariant-loop-2 l = Inv l.words l.first l.count l.next l.counter
