-- `cores::core_at` meets its contract: a core stands at `core`. Each turn goes into the part that it hands on, which
-- stands further on.
-- Assumes nothing.
use Prim.Native.Nat.{◌-◌}
use lib.ListN.{length}
use Rattle.cores.specs.Cores.{CoreDone}
use Rattle.cores.proofs.core_at.Given as goal

abbrev pub invariant-loop-part : goal.invariant-loop-part
invariant-loop-part l = CoreDone l.words l.at l.core

abbrev pub decreases-loop-part : goal.decreases-loop-part
decreases-loop-part l = length l.words - l.core
