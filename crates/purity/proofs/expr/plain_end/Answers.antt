-- `purity::expr::plain_end` meets its contract: each way answers the truth of whatever expression stands there.
-- Assumes nothing.
use mathlib.Core.Bool.{true, false}
use mathlib.Core.Path.{◌≡◌, refl, ap, sym, ◌∙◌}
use Rattle.std.proofs.Common.{rules}
use Rattle.spec.specs.Grammar.{within}
use Rattle.tables.specs.Kinds.{expr_number}
use Rattle.ir.proofs.Nodes.{node_of}
use Rattle.purity.proofs.Pures.{expr_read}
use Rattle.purity.proofs.Truths.{const_way, shown_true, shown_false, shown_open, other_way}
use Rattle.purity.proofs.expr.plain_end.Goals as goal

pub returns-then-const_truth : goal.returns-then-const_truth
returns-then-const_truth c =
    rw (sym c.const_truth.ensures ∙ c.if-const_truth.true) at
    (const_way (expr_read c.leaf_at-node.result c.requires.1.0 c.leaf_at-node.ensures)
    c.word_or_zero-second.result (ap expr_number c.in-Const.is) c.word_or_zero-second.ensures)

pub returns-else-const_truth : goal.returns-else-const_truth
returns-else-const_truth c =
    rw (sym c.const_truth.ensures ∙ c.if-const_truth.false) at
    (const_way (expr_read c.leaf_at-node.result c.requires.1.0 c.leaf_at-node.ensures)
    c.word_or_zero-second.result (ap expr_number c.in-Const.is) c.word_or_zero-second.ensures)

pub returns-in-Some : goal.returns-in-Some
returns-in-Some c =
    let display : within 6 8 (expr_number c.args.kind) ≡ true = search rules in
    shown_false (node_of c.requires.1.0 refl refl refl) display c.if-detail-eq0.true c.in-Some.ensures

pub returns-in-Some-2 : goal.returns-in-Some-2
returns-in-Some-2 c =
    let display : within 6 8 (expr_number c.args.kind) ≡ true = search rules in
    shown_true (node_of c.requires.1.0 refl refl refl) display c.if-detail-eq0.false c.in-Some.ensures

pub returns-in-None : goal.returns-in-None
returns-in-None c =
    let display : within 6 8 (expr_number c.args.kind) ≡ true = search rules in
    shown_open (node_of c.requires.1.0 refl refl refl) display c.in-None.ensures

pub returns-in_default : goal.returns-in_default
returns-in_default c =
    let const : expr_number c.args.kind ≡ 1 → ⊥ = search rules in
    let display : within 6 8 (expr_number c.args.kind) ≡ false = search rules in
    other_way (node_of c.requires.1.0 refl refl refl) const display c.requires.1.1
