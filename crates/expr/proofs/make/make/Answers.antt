-- `expr::make::make` meets its contract: each way asks of a constructor what it may, and leaves what that one left.
-- Assumes nothing.
use mathlib.Core.Path.{◌≡◌, ap}
use Rattle.std.proofs.Common.{rules}
use Rattle.tables.specs.Kinds.{expr_number}
use Rattle.expr.proofs.Wholes.{whole_asks, whole_made, has_not, has_type_is, has_call, other_stays, builtin_stays}
use Rattle.expr.proofs.make.make.Goals as goal

pub call-requires : goal.call-requires
call-requires c =
    let p = c.requires in
    whole_asks p.0 (has_call p.0.plain p.0.node_of (ap expr_number c.in-Call.is))

pub returns-in-Call : goal.returns-in-Call
returns-in-Call c =
    let p = c.requires in
    whole_made p.0 (has_call p.0.plain p.0.node_of (ap expr_number c.in-Call.is)) c.call.ensures

pub not-requires : goal.not-requires
not-requires c =
    let p = c.requires in
    let builtin = ap expr_number c.in-Builtin1.is in
    whole_asks p.0 (has_not p.0.plain p.0.node_of builtin c.if-detail.true)

pub returns-in-Builtin1 : goal.returns-in-Builtin1
returns-in-Builtin1 c =
    let p = c.requires in
    let builtin = ap expr_number c.in-Builtin1.is in
    whole_made p.0 (has_not p.0.plain p.0.node_of builtin c.if-detail.true) c.not.ensures

pub type_is-requires : goal.type_is-requires
type_is-requires c =
    let p = c.requires in
    let builtin = ap expr_number c.in-Builtin1.is in
    whole_asks p.0 (has_type_is p.0.plain p.0.node_of builtin c.if-detail-2.true)

pub returns-in-Builtin1-2 : goal.returns-in-Builtin1-2
returns-in-Builtin1-2 c =
    let p = c.requires in
    let builtin = ap expr_number c.in-Builtin1.is in
    whole_made p.0 (has_type_is p.0.plain p.0.node_of builtin c.if-detail-2.true) c.type_is.ensures

pub returns-in_default : goal.returns-in_default
returns-in_default c =
    let p = c.requires in
    builtin_stays p.0.plain p.0.node_of (ap expr_number c.in-Builtin1.is) c.if-detail.false c.if-detail-2.false

pub returns-in_default-2 : goal.returns-in_default-2
returns-in_default-2 c =
    let p = c.requires in
    let no_builtin : expr_number c.args.whole.node.kind ≡ 11 → ⊥ = search rules in
    let no_call : expr_number c.args.whole.node.kind ≡ 16 → ⊥ = search rules in
    other_stays p.0.plain p.0.node_of no_builtin p.1 no_call
