-- `steps::pay_end` meets its contract: one word more.
-- Assumes nothing.
use mathlib.Core.Path.{◌≡◌, ap, sym, ◌∙◌}
use Prim.Native.Nat.{◌-◌}
use native.Mathlib.Omega.{arith}
use lib.ListN.{get_or}
use Rattle.tables.specs.Kinds.{expr_number}
use Rattle.tables.specs.Payload.{pay_count}
use Rattle.steps.proofs.Cuts.{cut_goes}
use Rattle.steps.proofs.pay_end.Goals as goal

pub loop-i-preserved : goal.loop-i-preserved
loop-i-preserved c =
    let a = c.args in
    let k = expr_number a.kind in
    let sum = c.in_ok-end.ensures.1 in
    let counted = c.pay_count-count.ensures ∙ ap (pay_count k a.d) c.word_or_zero-first.ensures in
    let many : c.in_ok-end.end - a.at ≡ pay_count k a.d (get_or a.words.now a.at 0) = omega (arith, sum, counted) in
    c.loop-i.invariant
    ∙ cut_goes _ _ _ _ c.in_ok-pay.ensures.lookup.0.2 k a.d many c.loop-i.i c.loop-i-test.true
    (sym c.pay_right.ensures ∙ c.if-not-pay_right.false)
