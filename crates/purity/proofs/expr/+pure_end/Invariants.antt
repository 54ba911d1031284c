-- `purity::expr::pure_end` meets its contract. The words from its place on fall at each call.
-- Assumes nothing.
use mathlib.Core.Path.{◌≡◌}
use lib.ListN.{length, get_or}
use Rattle.purity.proofs.Pures.{Inv}
use Rattle.purity.proofs.Chains.{Chain}
use Prim.Native.Nat.{◌-◌}
use Rattle.purity.proofs.expr.+pure_end.Given as goal

abbrev pub decreases-pure_end : goal.decreases-pure_end
decreases-pure_end l = length l.words.now - l.at

abbrev pub invariant-loop-seq : goal.invariant-loop-seq
invariant-loop-seq l = Chain l.words l.at l.here × (l.h ≡ get_or l.words l.here 0)

abbrev pub decreases-loop-seq : goal.decreases-loop-seq
decreases-loop-seq l = length l.words - l.here

abbrev pub invariant-loop-i : goal.invariant-loop-i
invariant-loop-i l = Inv l.words l.here l._i-end l.next l._i
