-- `reader::read_pay` meets its contract. After i turns the first i rules are met, and the rest decides.
-- Assumes nothing.
use mathlib.Core.Path.{◌≡◌}
use Prim.Native.Nat.{◌+◌}
use Rattle.tables.specs.Kinds.{node_number}
use Rattle.steps.specs.Steps.{pay_step}
use Rattle.steps.proofs.Decompose.{pay_from}
use Rattle.reader.proofs.read_pay.Given as goal

abbrev pub invariant-loop-i : goal.invariant-loop-i
invariant-loop-i l =
    let k = node_number l.kind in
    pay_step l.words l.at k l.d ≡ pay_from l.words l.at k l.d l.i (l.at + l.i)
