-- `purity::expr::lead_at` meets its contract. At each turn an expression stands at the place, without whose truth that
-- of the whole is not known.
-- Assumes nothing.
use mathlib.Core.Path.{◌≡◌}
use Prim.Native.Nat.{◌-◌}
use lib.ListN.{length, get_or}
use Rattle.purity.proofs.Leads.{Leading}
use Rattle.purity.proofs.expr.lead_at.Given as goal

abbrev pub invariant-loop-h : goal.invariant-loop-h
invariant-loop-h l = Leading l.words l.at l.lead × (l.h ≡ get_or l.words l.lead 0)

abbrev pub decreases-loop-h : goal.decreases-loop-h
decreases-loop-h l = length l.words - l.lead
