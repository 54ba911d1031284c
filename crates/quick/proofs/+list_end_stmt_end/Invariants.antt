-- `quick::list_end` and `quick::stmt_end` meet their contracts. The levels fall at each call of
-- `list_end`; `stmt_end` is called with the same levels, and counts one less there.
-- Assumes nothing.
use mathlib.Core.Path.{◌≡◌}
use Prim.Native.Nat.{◌+◌, ◌*◌}
use Rattle.spec.specs.Reading.{read_at}
use Rattle.spec.specs.declared.Sort.TheVariants as sort
use Rattle.steps.specs.Steps.{next_of}
use Rattle.steps.proofs.Nodes.{parts_from}
use Rattle.quick.proofs.+list_end_stmt_end.Given as goal

abbrev pub decreases-list_end : goal.decreases-list_end
decreases-list_end l = 2 * l.levels + 1

abbrev pub decreases-stmt_end : goal.decreases-stmt_end
decreases-stmt_end l = 2 * l.levels

abbrev pub invariant-list_end-loop-i : goal.invariant-list_end-loop-i
invariant-list_end-loop-i l =
    next_of (read_at l.levels l.words sort.List l.at)
    ≡ parts_from l.levels l.words (λ i'. sort.Stmt) l.count l._i l.next
