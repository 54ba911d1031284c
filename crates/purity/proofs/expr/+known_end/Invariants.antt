-- `purity::expr::known_end` meets its contract. The words from its place on fall at each call.
-- Assumes nothing.
use lib.ListN.{length}
use Prim.Native.Nat.{◌-◌}
use Rattle.purity.proofs.expr.+known_end.Given as goal

abbrev pub decreases-known_end : goal.decreases-known_end
decreases-known_end l = length l.words.now - l.at
