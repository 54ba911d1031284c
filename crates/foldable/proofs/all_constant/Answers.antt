-- `foldable::all_constant` meets its contract. After each turn of either loop the parts that are left stand from the
-- next place on.
-- Assumes nothing.
use mathlib.Core.Bool.{Bool, cond}
use mathlib.Core.Path.{◌≡◌, sym, ap, subst, ◌∙◌}
use Prim.Native.Nat.{ℕ, ◌-◌, ◌/◌}
use native.Mathlib.Omega.{arith}
use Rattle.foldable.proofs.Ways.{Inv, turn_none, turn_short, turn_step, inv_stop}
use Rattle.foldable.proofs.all_constant.Goals as goal
use Rattle.foldable.proofs.all_constant.Goals.{then-is_short, else-is_short}

pub loop-preserved : goal.loop-preserved
loop-preserved c = (
  turn_short c.requires c.loop-test.true c.loop.invariant.0
      c.word_or_zero.ensures (sym c.is_short.ensures ∙ c.if-not-is_short.false),
  omega (arith, c.loop.invariant.1),
)

pub loop-2-init : goal.loop-2-init
loop-2-init c =
    let is : c.loop.counter ≡ (c.loop.next - c.args.first) / 2 = omega (arith, c.loop.invariant.1) in
    subst (λ (i : ℕ). Inv c.args.words.now c.args.first c.args.count c.loop.next i) is c.loop.invariant.0

pub returns-then-not-is_constant : goal.returns-then-not-is_constant
returns-then-not-is_constant c =
    turn_none c.requires c.loop-2-test.true c.loop-2.invariant c.word_or_zero-h.ensures
    (sym c.is_constant.ensures ∙ c.if-not-is_constant.true)

pub loop-2-preserved : goal.loop-2-preserved
loop-2-preserved c =
    turn_step c.requires c.loop-2-test.true c.loop-2.invariant c.word_or_zero-h.ensures
    (sym c.is_constant.ensures ∙ c.if-not-is_constant.false)
    (elim c.if-is_short.branch [
      | then-is_short w ↦
          w.next-is ∙ ap (λ (b : Bool). cond b 2 3) (sym w.if-is_short.true ∙ c.is_short-in-loop-2.ensures)
      | else-is_short w ↦
          w.next-is ∙ ap (λ (b : Bool). cond b 2 3) (sym w.if-is_short.false ∙ c.is_short-in-loop-2.ensures)
    ])

pub returns : goal.returns
returns c = inv_stop c.loop-2-test.false c.loop-2.invariant
