-- `purity::expr::known_end` meets its contract. The words from its place on fall at each call.
-- Assumes nothing.
use mathlib.Core.Bool.{not}
use mathlib.Core.Path.{ap, sym, ◌∙◌}
use Prim.Native.Nat.{ℕ}
use native.Mathlib.Omega.{arith}
use borrow.Author.Tests.{eq-eqb, ne_eqb}
use Rattle.tables.specs.Kinds.{expr_number}
use Rattle.ir.proofs.Forests.{some_one}
use Rattle.ir.proofs.Ranges.{expr_range}
use Rattle.purity.specs.Told.{known_in}
use Rattle.purity.proofs.Pures.{expr_inside}
use Rattle.purity.proofs.Joins.{Logic, logic, Turned, turned}
use Rattle.purity.proofs.expr.+known_end.Goals as goal
use Rattle.purity.proofs.expr.+known_end.Goals.{After-bare_at-node, After-bare_at-node-in_default}

-- And and Or, and Not
both : (t : ℕ) (c : After-bare_at-node t)
    → Logic c.args.words.now c.args.at c.detail_of-detail.result c.bare_at-node.result.first
both t c =
    logic c.bare_at-node.result c.requires c.at-kind.ensures c.detail_of-detail.ensures c.bare_at-node.ensures
    (ap expr_number c.in-LogicalBinOp.is)

one : (t : ℕ) (c : After-bare_at-node-in_default t)
    → Turned c.args.words.now c.args.at c.bare_at-node-in_default.result.first
one t c =
    turned c.bare_at-node-in_default.result c.requires (sym c.is_builtin1.ensures ∙ c.if-is_builtin1.true)
    c.bare_at-node-in_default.ensures

pub bounds-words-at : goal.bounds-words-at
bounds-words-at t c = expr_inside c.requires

pub at-kind-requires : goal.at-kind-requires
at-kind-requires t c = expr_range c.requires

pub known_end-requires : goal.known_end-requires
known_end-requires t c =
    let l = both t (goal.at.known_end-requires t c).After-bare_at-node in
    (omega (arith, l.left_ahead, c.decreases), l.left)

pub known_end-requires-in-True : goal.known_end-requires-in-True
known_end-requires-in-True t c =
    let r = (both t (goal.at.known_end-requires-in-True t c).After-bare_at-node).right c.in-True.ensures in
    (omega (arith, r.0, c.decreases), r.1)

pub skip-requires : goal.skip-requires
skip-requires t c = some_one ((both t (goal.at.skip-requires t c).After-bare_at-node).right c.in-True.ensures).1

pub skip-requires-in-False : goal.skip-requires-in-False
skip-requires-in-False t c =
    some_one ((both t (goal.at.skip-requires-in-False t c).After-bare_at-node).right c.in-False.ensures).1

pub known_end-requires-in-False-2 : goal.known_end-requires-in-False-2
known_end-requires-in-False-2 t c =
    let r = (both t (goal.at.known_end-requires-in-False-2 t c).After-bare_at-node).right c.in-False.ensures in
    (omega (arith, r.0, c.decreases), r.1)

pub returns-in-True : goal.returns-in-True
returns-in-True t c =
    (both t (goal.at.returns-in-True t c).After-bare_at-node).goes_on c.in-True.ensures
    (ap not (eq-eqb c.detail_of-detail.result 0 c.if-and.true)) (known_in c.known_end-in-True.result)
    c.known_end-in-True.ensures

pub returns-in-True-2 : goal.returns-in-True-2
returns-in-True-2 t c =
    (both t (goal.at.returns-in-True-2 t c).After-bare_at-node).decides c.in-True.ensures
    (ap not (ne_eqb c.detail_of-detail.result 0 c.if-and.false)) c.skip.ensures

pub returns-in-False : goal.returns-in-False
returns-in-False t c =
    (both t (goal.at.returns-in-False t c).After-bare_at-node).decides c.in-False.ensures
    (eq-eqb c.detail_of-detail.result 0 c.if-and-2.true) c.skip-in-False.ensures

pub returns-in-False-2 : goal.returns-in-False-2
returns-in-False-2 t c =
    (both t (goal.at.returns-in-False-2 t c).After-bare_at-node).goes_on c.in-False.ensures
    (ne_eqb c.detail_of-detail.result 0 c.if-and-2.false) (known_in c.known_end-in-False-2.result)
    c.known_end-in-False-2.ensures

pub returns-in-Unknown : goal.returns-in-Unknown
returns-in-Unknown t c = (both t (goal.at.returns-in-Unknown t c).After-bare_at-node).unknown c.in-Unknown.ensures

pub known_end-requires-in_default : goal.known_end-requires-in_default
known_end-requires-in_default t c =
    let n = one t (goal.at.known_end-requires-in_default t c).After-bare_at-node-in_default in
    (omega (arith, n.ahead, c.decreases), n.part)

pub returns-in-True-known_end : goal.returns-in-True-known_end
returns-in-True-known_end t c =
    (one t (goal.at.returns-in-True-known_end t c).After-bare_at-node-in_default).turns c.in-True-known_end.ensures

pub returns-in-False-known_end : goal.returns-in-False-known_end
returns-in-False-known_end t c =
    (one t (goal.at.returns-in-False-known_end t c).After-bare_at-node-in_default).turns c.in-False-known_end.ensures

pub returns-in-Unknown-known_end : goal.returns-in-Unknown-known_end
returns-in-Unknown-known_end t c =
    let n = one t (goal.at.returns-in-Unknown-known_end t c).After-bare_at-node-in_default in
    n.unknown c.in-Unknown-known_end.ensures
