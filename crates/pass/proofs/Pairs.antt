-- A target and the expression behind it, optimized one behind the other.
-- Assumes nothing.
use mathlib.Core.List.{List}
use mathlib.Core.Path.{◌≡◌, refl, sym, subst}
use Prim.Native.Nat.{ℕ, ◌+◌, ◌≤◌}
use native.Mathlib.Omega.{arith}
use lib.ListN.{length}
use Rattle.spec.specs.Rose.{At}
use Rattle.spec.specs.Tree.{Expr, Target, rose_e, rose_t}
use Rattle.spec.specs.Pass.{optimize_target}
use Rattle.spec.specs.Weight.{weight_e, weight_t, expr_room}
use Rattle.spec.proofs.Weights.{target_weight, optimize_target_weight}
use Rattle.spec.specs.declared.Sort.TheVariants as sort
use Rattle.buffer.proofs.Frames.{same_trans, same_less, same_at}
use Rattle.optimize.specs.Passed.{Below, Ask, Done}
use Rattle.optimize.specs.declared.Optimized.{Optimized}
use Rattle.pass.specs.Pruned.{PairBelow, PairDone}
use Rattle.spec.proofs.Counts.{expr_places, target_places}
use Rattle.pass.proofs.Singles.{ExprPassed, expr_passed, TargetPassed, target_passed}

module _ {w : List ℕ} {at top : ℕ} {target : Target} {value : Expr} (are : PairBelow w at top target value)
    (room : top + expr_room (weight_t target + weight_e value) ≤ length w) where
  target_below : (t : Target) (e : Expr) → PairBelow w at top t e → Below w at top sort.Target (rose_t t)
  target_below t e b = record {
    part = refl;
    valid = b.target_valid.1;
    here = b.target_here;
    below = omega (arith, b.below);
  }

  pub pair_first : Ask w at top
  pair_first = record {
    sort = sort.Target;
    tree = rose_t target;
    is = target_below target value are;
    room = omega (arith, room);
  }

  module _ {v : List ℕ} {o : Optimized} (first : Done w v at top o) (long : length v ≡ length w) where
    target_on : (t : Target) (e : Expr) → PairBelow w at top t e → TargetPassed v at top o t
    target_on t e b =
        target_passed t b.target_valid (first.right sort.Target (rose_t t) (target_below t e b))

    value_below : (t : Target) (e : Expr) → PairBelow w at top t e → Below v o.next o.end sort.Expr (rose_e e)
    value_below t e b =
        let p = target_on t e b in
        record {
          part = refl;
          valid = b.value_valid.1;
          here = same_at (rose_e e) o.next (omega (arith, p.from, b.below)) first.frame
              (subst (λ (i : ℕ). At w i (rose_e e)) (sym p.from) b.value_here);
          below = omega (arith, p.from, p.ends, b.below);
        }

    pub pair_second : Ask v o.next o.end
    pair_second =
        let p = target_on target value are in
        record {
          sort = sort.Expr;
          tree = rose_e value;
          is = value_below target value are;
          room = omega (
            arith,
            p.ends,
            room,
            target_weight (optimize_target target),
            optimize_target_weight target,
          );
        }

    module _ {u : List ℕ} {o₂ : Optimized} (second : Done v u o.next o.end o₂) where
      value_on : (t : Target) (e : Expr) → PairBelow w at top t e → ExprPassed u o.next o.end o₂ e
      value_on t e b = expr_passed e b.value_valid (second.right sort.Expr (rose_e e) (value_below t e b))

      pub pair_places : o.foldable + o₂.foldable ≤ length w
      pair_places =
          let p = target_on target value are in
          let q = value_on target value are in
          omega (arith, p.met, q.met, are.below, room, target_places target, expr_places value)

      pub pair_done : PairDone w u at top (record {
        next = o₂.next;
        over = o.end;
        end = o₂.end;
        foldable = o.foldable + o₂.foldable;
      })
      pair_done = record {
        frame = same_trans first.frame
            (same_less top (omega (arith, (target_on target value are).ends)) second.frame);
        right = λ t e b.
            let p = target_on t e b in
            let q = value_on t e b in
            record {
              from = omega (arith, p.from, q.from);
              target_here = same_at (rose_t (optimize_target t)) top (omega (arith, p.ends)) second.frame p.here;
              parted = p.ends;
              value_here = q.here;
              ends = q.ends;
              met = omega (arith, p.met, q.met);
            };
      }
