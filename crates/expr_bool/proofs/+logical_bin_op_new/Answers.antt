-- `expr_bool::new` and `expr_bool::logical_bin_op` meet their contracts. The words from their place on fall at each
-- call of `new`; `logical_bin_op` is called at the same place, and counts one less there.
-- Assumes nothing.
use mathlib.Core.Bool.{false, ◌&&◌}
use mathlib.Core.Path.{◌≡◌, ap}
use native.Mathlib.Omega.{arith}
use lib.Dec.{eqb}
use Rattle.std.proofs.Common.{rules}
use Rattle.tables.specs.Kinds.{expr_number}
use Rattle.expr_bool.proofs.Steps.{ask_one, known_done, whole_put}
use Rattle.expr_bool.proofs.Steps.{plain_done, logic_done, not_const, not_expr_lem}
use Rattle.expr_bool.proofs.Logics.{skip_ask, left_ask, forward, decisive, neutral_ask, neutral}
use Rattle.expr_bool.proofs.Logics.{behind_ask, join_asks, joins}
use Rattle.expr_bool.proofs.+logical_bin_op_new.Goals as goal

pub logical_bin_op-skip-middle-requires : goal.logical_bin_op-skip-middle-requires
logical_bin_op-skip-middle-requires t c = skip_ask c.requires c.put-body.ensures

pub logical_bin_op-new-requires : goal.logical_bin_op-new-requires
logical_bin_op-new-requires t c =
    let p = c.put-body.ensures in
    let f = forward c.requires p c.skip-middle.ensures in
    (omega (arith, f.0, f.2, c.decreases, c.put-body.auto.words), left_ask c.requires p)

pub logical_bin_op-new-requires-else-b-or : goal.logical_bin_op-new-requires-else-b-or
logical_bin_op-new-requires-else-b-or t c =
    let p = c.put-body.ensures in
    let q = c.skip-middle.ensures in
    let f = forward c.requires p q in (
      omega (arith, f.1, f.3, c.decreases, c.put-body.auto.words, c.new.auto.words),
      neutral_ask c.requires p q c.new.auto.words c.in-Const.ensures,
    )

pub logical_bin_op-new-right-requires : goal.logical_bin_op-new-right-requires
logical_bin_op-new-right-requires t c =
    let p = c.put-body.ensures in
    let q = c.skip-middle.ensures in
    let f = forward c.requires p q in (
      omega (arith, f.1, f.3, c.decreases, c.put-body.auto.words, c.new.auto.words),
      behind_ask c.requires p q c.new.auto.words c.in-Expr.ensures,
    )

pub logical_bin_op-join-requires : goal.logical_bin_op-join-requires
logical_bin_op-join-requires t c =
    join_asks c.requires c.put-body.ensures c.skip-middle.ensures c.new.auto.words c.in-Expr.ensures
    c.new-right.auto.words c.new-right.ensures

pub logical_bin_op-returns-then-b-or : goal.logical_bin_op-returns-then-b-or
logical_bin_op-returns-then-b-or t c =
    decisive c.requires c.put-body.ensures c.skip-middle.ensures c.new.auto.words c.in-Const.ensures c.if-b-or.true

pub logical_bin_op-returns-else-b-or : goal.logical_bin_op-returns-else-b-or
logical_bin_op-returns-else-b-or t c =
    neutral c.requires c.put-body.ensures c.skip-middle.ensures c.new.auto.words c.in-Const.ensures c.if-b-or.false
    c.new-else-b-or.ensures

pub logical_bin_op-returns-in-Expr : goal.logical_bin_op-returns-in-Expr
logical_bin_op-returns-in-Expr t c =
    joins c.requires c.put-body.ensures c.skip-middle.ensures c.new.auto.words c.in-Expr.ensures
    c.new-right.auto.words c.new-right.ensures c.join.ensures

pub new-skip-end-requires : goal.new-skip-end-requires
new-skip-end-requires t c = ask_one c.requires

pub new-put-requires : goal.new-put-requires
new-put-requires t c = whole_put c.requires c.skip-end.ensures

pub new-returns-in-Some : goal.new-returns-in-Some
new-returns-in-Some t c = known_done c.requires c.in-Some.ensures

pub new-returns-in-Const : goal.new-returns-in-Const
new-returns-in-Const t c =
    not_const c.requires c.expr_at-node.ensures c.in_default.ensures (ap expr_number c.in-Builtin1.is) c.if-node.true
    c.put-body.ensures c.in-Const.ensures

pub new-returns-in-Expr : goal.new-returns-in-Expr
new-returns-in-Expr t c =
    not_expr_lem c.requires c.expr_at-node.ensures c.in_default.ensures (ap expr_number c.in-Builtin1.is)
    c.if-node.true c.put-body.ensures c.in-Expr.ensures

pub new-returns-in-LogicalBinOp : goal.new-returns-in-LogicalBinOp
new-returns-in-LogicalBinOp t c =
    logic_done c.requires c.expr_at-node.ensures c.in_default.ensures (ap expr_number c.in-LogicalBinOp.is)
    c.logical_bin_op.ensures

pub new-returns-in_default-kind : goal.new-returns-in_default-kind
new-returns-in_default-kind t c =
    let k = expr_number c.expr_at-node.result.kind in
    let other : eqb k 11 && eqb c.expr_at-node.result.detail 3 ≡ false = search rules in
    let plain : k ≡ 12 → ⊥ = search rules in
    plain_done c.requires c.expr_at-node.ensures c.in_default.ensures other plain c.skip-end.ensures c.put.ensures
