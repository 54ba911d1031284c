-- `optimize::optimize`, `optimize::optimize_if`, `optimize::optimize_node` and `optimize::optimize_parts` meet their
-- contracts. The words from the place on fall at each call of `optimize_if` and `optimize_parts`, which call `optimize`
-- at no lower a place, and it calls `optimize_node` at its own. The first two count two more there, and `optimize` one
-- more.
-- Assumes nothing.
use mathlib.Core.Bool.{true, false}
use mathlib.Core.Path.{◌≡◌, refl}
use native.Mathlib.Omega.{arith}
use Rattle.std.proofs.Common.{rules}
use Rattle.spec.specs.Grammar.{within}
use Rattle.tables.specs.Kinds.{expr_number}
use Rattle.optimize.proofs.Rows.{done_from, inv_asks, inv_counted, inv_step, inv_stop}
use Rattle.optimize.proofs.Nodes.{expr_below, target_ask, past, if_ask, target_done}
use Rattle.optimize.proofs.Nodes.{display_done}
use Rattle.optimize.proofs.Nodes.{handed, folds_ask, pair_done, place_sum, expr_done}
use Rattle.optimize.proofs.Nodes as Nodes
use Rattle.optimize.proofs.Ifs.{held, test_sizes, test_some, slot_high, yes_ask, yes_sizes}
use Rattle.optimize.proofs.Ifs.{no_ask, arms_ask, counts, down_ask}
use Rattle.optimize.proofs.Ifs as Ifs
use Rattle.optimize.proofs.InPlace.{stays_done}
use Rattle.optimize.proofs.InPlace as InPlace
use Rattle.optimize.proofs.+optimize_optimize_if_optimize_node_optimize_parts.Goals as goal

pub optimize_if-optimize_parts-arms-requires : goal.optimize_if-optimize_parts-arms-requires
optimize_if-optimize_parts-arms-requires t c =
    let a = held c.put-body.ensures c.requires in
    let d = c.optimize-condition.ensures in
    let e = c.optimize-condition.auto.words in
    let z = test_sizes a d in
    (omega (arith, c.decreases, c.put-body.auto.words, e, z.0, z.1), InPlace.arms_ask a d e)

pub optimize_if-overflow_add-result : goal.optimize_if-overflow_add-result
optimize_if-overflow_add-result t c =
    let a = held c.put-body.ensures c.requires in
    omega (
      arith,
      c.put-body.auto.words,
      InPlace.count a c.optimize-condition.ensures c.optimize_parts-arms.ensures,
    )

pub optimize_if-returns-then-stays_at : goal.optimize_if-returns-then-stays_at
optimize_if-returns-then-stays_at t c =
    let a = held c.put-body.ensures c.requires in
    stays_done a c.optimize-condition.ensures c.optimize_parts-arms.ensures c.put-body.ensures
    c.stays_at.ensures c.if-stays_at.true

pub optimize_if-weigh-requires : goal.optimize_if-weigh-requires
optimize_if-weigh-requires t c =
    let a = held c.put-body.ensures c.requires in
    test_some a c.optimize-condition.ensures c.optimize-condition.auto.words

pub optimize_if-overflow_add-high : goal.optimize_if-overflow_add-high
optimize_if-overflow_add-high t c =
    let a = held c.put-body.ensures c.requires in
    omega (arith, c.put-body.auto.words, slot_high a c.optimize-condition.ensures c.weigh.ensures)

pub optimize_if-optimize-yes-requires : goal.optimize_if-optimize-yes-requires
optimize_if-optimize-yes-requires t c =
    let a = held c.put-body.ensures c.requires in
    let d = c.optimize-condition.ensures in
    let e = c.optimize-condition.auto.words in
    let z = test_sizes a d in (
      omega (arith, c.decreases, c.put-body.auto.words, e, z.0, z.1),
      yes_ask a d c.weigh.ensures e,
    )

pub optimize_if-optimize-no-requires : goal.optimize_if-optimize-no-requires
optimize_if-optimize-no-requires t c =
    let a = held c.put-body.ensures c.requires in
    let d = c.optimize-condition.ensures in
    let e = c.optimize-condition.auto.words in
    let weighed = c.weigh.ensures in
    let d₂ = c.optimize-yes.ensures in
    let e₂ = c.optimize-yes.auto.words in
    let z = test_sizes a d in
    let z₂ = yes_sizes a d weighed d₂ in (
      omega (arith, c.decreases, c.put-body.auto.words, e, e₂, z.0, z₂.0, z₂.1),
      no_ask a d weighed d₂ (omega (arith, e, e₂)),
    )

pub optimize_if-if_expr-last-requires : goal.optimize_if-if_expr-last-requires
optimize_if-if_expr-last-requires t c =
    let a = held c.put-body.ensures c.requires in
    let e = c.optimize-condition.auto.words in
    let e₂ = c.optimize-yes.auto.words in
    let e₃ = c.optimize-no.auto.words in
    arms_ask a c.optimize-condition.ensures c.weigh.ensures c.optimize-yes.ensures
    c.optimize-no.ensures (omega (arith, e, e₂, e₃))

pub optimize_if-put-end-requires : goal.optimize_if-put-end-requires
optimize_if-put-end-requires t c =
    let a = held c.put-body.ensures c.requires in
    let e = c.optimize-condition.auto.words in
    let e₂ = c.optimize-yes.auto.words in
    let e₃ = c.optimize-no.auto.words in
    let e₄ = c.if_expr-last.auto.words in
    down_ask a c.optimize-condition.ensures c.weigh.ensures c.optimize-yes.ensures
    c.optimize-no.ensures c.if_expr-last.ensures c.put-body.ensures (omega (arith, e, e₂, e₃, e₄))

pub optimize_if-overflow_add-result-2 : goal.optimize_if-overflow_add-result-2
optimize_if-overflow_add-result-2 t c =
    let a = held c.put-body.ensures c.requires in
    omega (
      arith,
      c.put-body.auto.words,
      (counts a c.optimize-condition.ensures c.weigh.ensures c.optimize-yes.ensures
          c.optimize-no.ensures).0,
    )

pub optimize_if-overflow_add-result-3 : goal.optimize_if-overflow_add-result-3
optimize_if-overflow_add-result-3 t c =
    let a = held c.put-body.ensures c.requires in
    omega (
      arith,
      c.put-body.auto.words,
      (counts a c.optimize-condition.ensures c.weigh.ensures c.optimize-yes.ensures
          c.optimize-no.ensures).1,
    )

pub optimize_if-returns : goal.optimize_if-returns
optimize_if-returns t c =
    let a = held c.put-body.ensures c.requires in
    Ifs.if_done a c.optimize-condition.ensures c.weigh.ensures c.optimize-yes.ensures
    c.optimize-no.ensures c.if_expr-last.ensures c.put-body.ensures c.put-end.ensures

pub optimize_node-target_at-target-requires : goal.optimize_node-target_at-target-requires
optimize_node-target_at-target-requires t c =
    target_ask c.requires.ask c.word_or_zero-h.ensures c.kind_of.ensures c.in_default.ensures.1

pub optimize_node-returns-in_default : goal.optimize_node-returns-in_default
optimize_node-returns-in_default t c =
    let target = c.target_at-target in
    target_done target.ensures c.put_own-behind.ensures c.optimize_parts.ensures target.result.kind refl

pub optimize_node-optimize_if-requires : goal.optimize_node-optimize_if-requires
optimize_node-optimize_if-requires t c =
    let o = c.own_by-node.ensures in
    let is_if : expr_number c.in-Ok.kind ≡ 9 = search rules in
    let p = past o c.requires.ask in
    (omega (arith, c.decreases, p.0, p.1, p.2), if_ask o is_if c.requires.ask)

pub optimize_node-returns-then-eq : goal.optimize_node-returns-then-eq
optimize_node-returns-then-eq t c =
    let is_if : expr_number c.in-Ok.kind ≡ 9 = search rules in
    Nodes.if_done c.own_by-node.ensures is_if c.optimize_if.ensures

pub optimize_node-returns-then-matches : goal.optimize_node-returns-then-matches
optimize_node-returns-then-matches t c =
    let parts = c.optimize_parts-parts in
    let display : within 7 8 (expr_number c.in-Ok.kind) ≡ true = search rules in
    display_done c.own_by-node.ensures c.put_own-body.ensures parts.ensures
    c.requires.ask parts.auto.words display

pub optimize_node-pair-end-requires : goal.optimize_node-pair-end-requires
optimize_node-pair-end-requires t c =
    let parts = c.optimize_parts-parts in
    let kind = c.in-Ok.kind in
    let is_pair : within 12 13 (expr_number kind) ≡ true = search rules in (
      handed c.own_by-node.ensures c.put_own-body.ensures parts.ensures
          (expr_below kind) c.requires.ask parts.auto.words refl,
      is_pair,
    )

pub optimize_node-returns-then-matches-2 : goal.optimize_node-returns-then-matches-2
optimize_node-returns-then-matches-2 t c =
    let parts = c.optimize_parts-parts in
    let is_pair : within 12 13 (expr_number c.in-Ok.kind) ≡ true = search rules in
    pair_done c.own_by-node.ensures c.put_own-body.ensures parts.ensures
    c.requires.ask parts.auto.words is_pair c.pair-end.ensures

pub optimize_node-folds-here-requires : goal.optimize_node-folds-here-requires
optimize_node-folds-here-requires t c =
    let parts = c.optimize_parts-parts in
    let both = folds_ask c.own_by-node.ensures c.put_own-body.ensures parts.ensures (expr_below c.in-Ok.kind)
    c.requires.ask parts.auto.words in
    record {
      some_expr = both.0;
      node_of = both.1;
    }

pub optimize_node-make-end-requires : goal.optimize_node-make-end-requires
optimize_node-make-end-requires t c =
    let parts = c.optimize_parts-parts in
    let kind = c.in-Ok.kind in
    let no_pair : within 12 13 (expr_number kind) ≡ false = search rules in (
      handed c.own_by-node.ensures c.put_own-body.ensures parts.ensures
          (expr_below kind) c.requires.ask parts.auto.words refl,
      no_pair,
    )

pub optimize_node-overflow_add-result : goal.optimize_node-overflow_add-result
optimize_node-overflow_add-result t c =
    omega (
      arith,
      place_sum c.own_by-node.ensures c.put_own-body.ensures
          c.optimize_parts-parts.ensures (expr_below c.in-Ok.kind) c.folds-here.ensures
          c.requires.ask,
    )

pub optimize_node-returns : goal.optimize_node-returns
optimize_node-returns t c =
    let no_if : expr_number c.in-Ok.kind ≡ 9 → ⊥ = search rules in
    expr_done c.own_by-node.ensures c.put_own-body.ensures
    c.optimize_parts-parts.ensures (expr_below c.in-Ok.kind) c.folds-here.ensures no_if c.make-end.ensures

pub optimize_parts-optimize-part-requires : goal.optimize_parts-optimize-part-requires
optimize_parts-optimize-part-requires t c =
    let v = c.loop.invariant in (
      omega (arith, c.decreases, v.past, v.long),
      inv_asks v (search rules) (search rules) c.requires c.loop-test.true,
    )

pub optimize_parts-overflow_add-done : goal.optimize_parts-overflow_add-done
optimize_parts-overflow_add-done t c =
    omega (arith, inv_counted c.loop.invariant (search rules) c.optimize-part.ensures c.requires c.loop-test.true)

pub optimize_parts-loop-preserved : goal.optimize_parts-loop-preserved
optimize_parts-loop-preserved t c =
    let part = c.optimize-part in
    inv_step c.loop.invariant c.loop-test.true (done_from (search rules) part.ensures) part.auto.words c.requires

pub optimize_parts-returns : goal.optimize_parts-returns
optimize_parts-returns t c =
    inv_stop c.loop.invariant c.loop-test.false
