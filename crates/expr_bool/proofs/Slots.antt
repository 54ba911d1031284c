-- `settle`: a condition in the slot of its expression.
-- Assumes nothing.
use mathlib.Core.Bool.{Bool}
use mathlib.Core.List.{List}
use mathlib.Core.Logic.{inl}
use mathlib.Core.Path.{◌≡◌, refl, ap, sym, subst, ◌∙◌}
use Prim.Native.Nat.{ℕ, ◌+◌, ◌≤◌}
use native.Mathlib.Omega.{arith}
use lib.ListN.{length}
use Rattle.spec.specs.Tree.{rose_e}
use Rattle.spec.specs.Pass.{new_bool}
use Rattle.spec.specs.Pass as Pass
use Rattle.spec.specs.Weight.{weight_e}
use Rattle.spec.proofs.Weights.{expr_weight, new_expr_weight}
use Rattle.buffer.specs.Copy.{PutAsk, PutDone}
use Rattle.buffer.proofs.Frames.{same_trans, same_less, put_at}
use Rattle.expr_bool.specs.Asked.{Answer, NewAsk, NewDone, SlotAsk, SlotDone}
use Rattle.expr_bool.specs.declared.Condition.TheVariants as condition
use Rattle.expr_bool.proofs.Answers.{Left, const_case, expr_case}

module _ {w : List ℕ} {at cap top : ℕ} (a : SlotAsk w at cap top) where
  pub slot_ask : NewAsk w at top
  slot_ask = record {
    tree = a.tree;
    stands = a.stands;
    below = omega (arith, (expr_weight a.tree).0, a.fits, a.below);
    room = a.room;
  }

  module _ {v : List ℕ} where
    pub slot_const : {b : Bool} → NewDone w v at top (condition.Const b) → SlotDone w v at cap top (condition.Const b)
    slot_const {b} d = record {
      frame = same_less at (omega (arith, a.below)) d.frame;
      beside = λ k l h. d.frame.word k h;
      right = λ e s.
          subst (λ (c : Pass.Condition). Answer v at c (condition.Const b))
          (sym (const_case v top b (new_bool e) (d.right e s))) refl;
    }

    module _ (lv : length v ≡ length w) {end : ℕ} (d : NewDone w v at top (condition.Expr end)) where
      made : Left v top end (new_bool a.tree)
      made = expr_case v top end (new_bool a.tree) (d.right a.tree a.stands)

      upto : (top ≤ end) × (end ≤ top + weight_e a.tree)
      upto =
          let m = new_expr_weight a.tree made.expr made.is in
          (omega (arith, made.ends), omega (arith, made.ends, m, (expr_weight made.expr).0))

      pub slot_put : PutAsk (length v) top end at
      slot_put = record {
        order = upto.0;
        apart = inl (omega (arith, a.below));
        within = omega (arith, upto.1, a.room, lv);
        room = omega (arith, upto, a.below, a.fits, a.room, lv);
      }

      pub slot_expr : {u : List ℕ} {last : ℕ} → PutDone v u top end at last
          → SlotDone w u at cap top (condition.Expr last)
      slot_expr {u} {last} p = record {
        frame = same_trans (same_less at (omega (arith, a.below)) d.frame) p.frame;
        beside = λ k l h. p.above k (omega (arith, p.ends, upto.0, upto.1, a.fits)) ∙ d.frame.word k h;
        right = λ e s.
            let c = expr_case v top end (new_bool e) (d.right e s) in
            subst (λ (c : Pass.Condition). Answer u at c (condition.Expr last)) (sym c.is) (
              ap condition.Expr (omega (arith, p.ends, c.ends)),
              put_at (rose_e c.expr) c.ends p c.here,
            );
      }
