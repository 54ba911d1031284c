-- `settle_back`: a condition at the back of its expression's slot.
-- Assumes nothing.
use mathlib.Core.Bool.{Bool}
use mathlib.Core.List.{List}
use mathlib.Core.Logic.{inl}
use mathlib.Core.Path.{◌≡◌, refl, ap, sym, subst, ◌∙◌}
use Prim.Native.Nat.{ℕ, ◌+◌, ◌-◌, ◌≤◌}
use native.Mathlib.Omega.{arith}
use lib.ListN.{length}
use Rattle.spec.specs.Rose.{size, At}
use Rattle.spec.specs.Tree.{rose_e}
use Rattle.spec.specs.Pass.{new_bool}
use Rattle.spec.specs.Pass as Pass
use Rattle.spec.proofs.Weights.{expr_weight, new_expr_weight}
use Rattle.buffer.specs.Copy.{PutAsk, PutDone}
use Rattle.buffer.proofs.Frames.{same_trans, same_less, put_at}
use Rattle.expr_bool.specs.Asked.{NewAsk, NewDone}
use Rattle.expr_bool.specs.declared.Condition.TheVariants as condition
use Rattle.expr_bool.proofs.Answers.{Left, const_case, expr_case}
use Rattle.runs.specs.Held.{BackAsk, Backed, BackDone}
use Rattle.runs.proofs.Holding.{kept_same}

-- ---- the function

module _ {w : List ℕ} {low at high top : ℕ} (a : BackAsk w low at high top) where
  pub back_ask : NewAsk w at top
  back_ask = record {
    tree = a.tree;
    stands = a.within.stands;
    below = omega (arith, a.within.inner, a.below);
    room = a.room;
  }

  module _ {v : List ℕ} where
    pub back_known : {b : Bool} → NewDone w v at top (condition.Const b)
        → BackDone w v low at high top (condition.Const b)
    back_known {b} d = record {
      kept = kept_same low high (omega (arith, a.within.fits, a.below)) d.frame;
      right = λ e s.
          subst (λ (c : Pass.Condition). Backed v high c (condition.Const b))
          (sym (const_case v top b (new_bool e) (d.right e s.stands))) refl;
    }

    module _ (lv : length v ≡ length w) {end : ℕ} (d : NewDone w v at top (condition.Expr end)) where
      made : Left v top end (new_bool a.tree)
      made = expr_case v top end (new_bool a.tree) (d.right a.tree a.within.stands)

      -- it fits the slot, and stands within the words
      pub back_upto : (top ≤ end) × (low + (end - top) ≤ high) × (end ≤ length v)
      back_upto =
          let m = new_expr_weight a.tree made.expr made.is in
          let s = (expr_weight made.expr).0 in (
            omega (arith, made.ends),
            omega (arith, made.ends, m, s, a.within.fits),
            omega (arith, made.ends, m, s, a.room, lv),
          )

      pub back_put : PutAsk (length v) top end (high - (end - top))
      back_put = record {
        order = back_upto.0;
        apart = inl (omega (arith, a.below));
        within = back_upto.2;
        room = omega (arith, back_upto.0, back_upto.1, back_upto.2, a.below);
      }

      pub back_left : {u : List ℕ} {last : ℕ} → PutDone v u top end (high - (end - top)) last
          → BackDone w u low at high top (condition.Expr (high - (end - top)))
      back_left {u} p = record {
        kept = record {
          frame =
              same_trans (same_less low (omega (arith, a.within.fits, a.below)) d.frame)
              (same_less low (omega (arith, back_upto.1)) p.frame);
          beside = λ k l h. p.above k (omega (arith, p.ends, back_upto.1)) ∙ d.frame.word k h;
        };
        right = λ e s.
            let c = expr_case v top end (new_bool e) (d.right e s.stands) in
            let n : end - top ≡ size (rose_e c.expr) = omega (arith, c.ends) in
            subst (λ (c : Pass.Condition). Backed u high c (condition.Expr (high - (end - top)))) (sym c.is) (
              ap (λ (k : ℕ). condition.Expr (high - k)) n,
              subst (λ (k : ℕ). At u (high - k) (rose_e c.expr)) n (put_at (rose_e c.expr) c.ends p c.here),
            );
      }

-- what the check applies in `settle_back`
pub ruleset backs = (back_ask, back_known, back_upto)
