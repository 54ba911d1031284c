-- `purity::expr::front_at` meets its contract. At each turn an expression stands at the place, and the whole is pure
-- only where it is.
-- Assumes nothing.
use mathlib.Core.Path.{◌≡◌}
use Prim.Native.Nat.{◌-◌}
use lib.ListN.{length, get_or}
use Rattle.purity.specs.Told.{FrontOf}
use Rattle.purity.proofs.expr.front_at.Given as goal

abbrev pub invariant-loop-h : goal.invariant-loop-h
invariant-loop-h l = FrontOf l.words l.at l.front × (l.h ≡ get_or l.words l.front 0)

abbrev pub decreases-loop-h : goal.decreases-loop-h
decreases-loop-h l = length l.words - l.front
