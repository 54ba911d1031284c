-- `expr_bool::new` and `expr_bool::logical_bin_op` meet their contracts. The words from their place on fall at each
-- call of `new`; `logical_bin_op` is called at the same place, and counts one less there.
-- Assumes nothing.
use Prim.Native.Nat.{◌+◌, ◌-◌, ◌*◌}
use lib.ListN.{length}
use Rattle.expr_bool.proofs.+logical_bin_op_new.Given as goal

abbrev pub decreases-logical_bin_op : goal.decreases-logical_bin_op
decreases-logical_bin_op l = 2 * (length l.words.now - l.at)

abbrev pub decreases-new : goal.decreases-new
decreases-new l = 2 * (length l.words.now - l.at) + 1
