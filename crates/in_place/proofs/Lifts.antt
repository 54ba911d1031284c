-- `lift`: an expression at the back of a slot of its weight.
-- Assumes nothing.
use mathlib.Core.List.{List}
use mathlib.Core.Path.{◌≡◌}
use Prim.Native.Nat.{ℕ, ◌+◌, ◌-◌, ◌≤◌}
use native.Mathlib.Omega.{arith}
use Rattle.spec.specs.Tree.{Expr, rose_e}
use Rattle.spec.specs.Weight.{weight_e}
use Rattle.spec.proofs.Weights.{expr_weight}
use Rattle.buffer.specs.Copy.{PutDone}
use Rattle.buffer.proofs.Frames.{same_trans, same_less, put_at}
use Rattle.expr_forms.specs.Made.{Is}
use Rattle.walk.specs.Walked.{WeightOf}
use Rattle.in_place.specs.InPlace.{LiftAsk, LiftDone}

module _ {w : List ℕ} {top end : ℕ} (a : LiftAsk w top end) where
  module _ {past n : ℕ} (g : WeightOf w (top + 1) past n) where
    is_weight : (e : Expr) → Is w (top + 1) end e → n ≡ weight_e e
    is_weight e i = (g.of (rose_e e) i.valid.1 i.here).1

    -- it has no more words than the slot
    fits : (e : Expr) → Is w (top + 1) end e → end - (top + 1) ≤ n
    fits e i = omega (arith, is_weight e i, i.ends, (expr_weight e).0)

    module _ {v : List ℕ} {last : ℕ} (p : PutDone w v (top + 1) end (top + n + 1) last) where
      pub lift_done : {u : List ℕ} {r : ℕ} → PutDone v u (top + n + 1) last (top + n - (end - (top + 1))) r
          → LiftDone w u top end (top + n)
      lift_done q = record {
        frame = same_trans (same_less top (omega arith) p.frame)
            (same_less top (omega (arith, fits a.tree a.is)) q.frame);
        right = λ e i. record {
          exact = omega (arith, is_weight e i);
          slot = record {
            is = record {
              valid = i.valid;
              here = put_at (rose_e e) (omega (arith, p.ends, i.ends)) q (put_at (rose_e e) i.ends p i.here);
              ends = omega (arith, i.ends, fits e i);
            };
            order = omega (arith, fits e i);
            fits = omega (arith, is_weight e i);
          };
        };
      }
