-- `quick::exprs_end` and `quick::node_end` meet their contracts. The levels fall at each call of `exprs_end`;
-- `node_end` is called with the same levels, and counts one less there.
-- Assumes nothing.
use mathlib.Core.Path.{◌≡◌}
use Prim.Native.Nat.{◌+◌, ◌*◌}
use Rattle.spec.specs.declared.Sort.TheVariants as sort
use Rattle.steps.specs.Steps.{exprs_step}
use Rattle.steps.proofs.Nodes.{parts_from}
use Rattle.quick.proofs.+exprs_end_node_end.Given as goal

abbrev pub decreases-exprs_end : goal.decreases-exprs_end
decreases-exprs_end l = 2 * l.levels + 1

abbrev pub decreases-node_end : goal.decreases-node_end
decreases-node_end l = 2 * l.levels

abbrev pub invariant-exprs_end-loop-i : goal.invariant-exprs_end-loop-i
invariant-exprs_end-loop-i l =
    exprs_step l.levels l.words l.count l.at ≡ parts_from l.levels l.words (λ i'. sort.Expr) l.count l._i l.next
