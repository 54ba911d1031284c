-- `steps::flat_end` meets its contract: node by node, what is read of the rest is read of the whole.
-- Assumes nothing.
use mathlib.Core.Path.{refl, ap, ◌∙◌}
use native.Mathlib.Omega.{arith}
use Rattle.std.proofs.Common.{rules}
use lib.Dec.{ltb}
use mir.Val.{bool_byte}
use Rattle.spec.specs.Grammar.{part_count}
use Rattle.tables.specs.Kinds.{expr_number}
use Rattle.steps.proofs.Flat.{flat_step, own_behind}
use Rattle.steps.proofs.flat_end.Goals as goal

pub loop-left-smaller : goal.loop-left-smaller
loop-left-smaller c =
    let behind = own_behind c.args.words.now c.loop-left.next (expr_number c.in_ok-kind.kind) c.detail_of-d.result
    c.in_ok-first.first c.in_ok-first.ensures in
    omega (arith, behind, c.in_ok-h.ensures.lookup.3.0)

pub loop-left-preserved : goal.loop-left-preserved
loop-left-preserved c =
    let k = expr_number c.in_ok-kind.kind in
    let count = c.part_count-count.result in
    let (inside, word) = c.in_ok-h.ensures.lookup.3 in
    let parts = c.part_count-count.ensures ∙ ap (part_count k c.detail_of-d.result) c.word_or_zero-w.ensures in
    flat_step {k = k} {count = count} {inner = bool_byte (ltb 0 count)} c.loop-left.invariant c.loop-left-test.true
    inside (search rules) (rw (word 0) at c.detail_of-d.ensures) c.in_ok-first.ensures parts refl
    c.in_ok-room.ensures.0 (search rules) c.in_ok-room.ensures.1
