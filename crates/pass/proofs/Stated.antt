-- `optimize_expr`: an expression is optimized behind the place of its statement's header.
-- Assumes nothing.
use mathlib.Core.List.{List}
use mathlib.Core.Path.{◌≡◌}
use Prim.Native.Nat.{ℕ, ◌+◌, ◌≤◌, ◌<◌, ◌^◌}
use native.Mathlib.Omega.{arith}
use lib.ListN.{length}
use Rattle.spec.specs.Tree.{Expr, rose_e}
use Rattle.spec.specs.Pass.{optimize_expr}
use Rattle.spec.specs.Weight.{weight_e, stmt_room}
use Rattle.spec.proofs.Weights.{some_weight, optimize_weight}
use Rattle.spec.proofs.Passed.{optimize_valid}
use Rattle.spec.specs.declared.Sort.TheVariants as sort
use Rattle.ir.specs.Standing.{SomeExpr}
use Rattle.buffer.proofs.Frames.{same_trans, same_less}
use Rattle.expr_forms.specs.Made.{Is}
use Rattle.optimize.specs.Passed.{Ask, Done}
use Rattle.optimize.specs.declared.Optimized.{Optimized}
use Rattle.runs.specs.declared.Run.{Run}
use Rattle.in_place.specs.InPlace.{PlaceAsk, PlaceDone}
use Rattle.pass.specs.Pruned.{ExprBelow, ExprDone}
use Rattle.pass.proofs.Singles.{some_expr, expr_below, ExprPassed, expr_passed}

module _ {w : List ℕ} {at top : ℕ} {e : Expr} (is : ExprBelow w at top e)
    (room : top + stmt_room (weight_e e) ≤ length w) (short : length w < 2 ^ 32) where
  pub stated_some : SomeExpr w at
  stated_some = some_expr (omega (arith, room)) is

  pub stated_inside : top + 1 ≤ length w
  stated_inside = omega (arith, room, some_weight e)

  pub stated_ask : Ask w at (top + 1)
  stated_ask = record {
    sort = sort.Expr;
    tree = rose_e e;
    is = expr_below (top + 1) (omega arith) is;
    room = omega (arith, room, some_weight e);
  }

  module _ {v : List ℕ} {o : Optimized} (done : Done w v at (top + 1) o) (long : length v ≡ length w) where
    passed : (f : Expr) → ExprBelow w at top f → ExprPassed v at (top + 1) o f
    passed f b = expr_passed f b.valid (done.right sort.Expr (rose_e f) (expr_below (top + 1) (omega arith) b))

    made : (f : Expr) → ExprBelow w at top f → Is v (top + 1) o.end (optimize_expr f)
    made f b = record { valid = optimize_valid f b.valid; here = (passed f b).here; ends = (passed f b).ends }

    pub stated_place : PlaceAsk v top o.end
    stated_place = record {
      tree = optimize_expr e;
      is = made e is;
      room = omega (arith, room, optimize_weight e, long);
      short = omega (arith, short, long);
    }

    pub stated_done : {u : List ℕ} {run : Run} → PlaceDone v u top o.end run
        → ExprDone w u at top (record { next = o.next; run = run; foldable = o.foldable })
    stated_done p = record {
      frame = same_trans (same_less top (omega arith) done.frame) p.frame;
      begins = p.begins;
      right = λ f b. record {
        from = (passed f b).from;
        holds = p.right (optimize_expr f) (made f b);
        met = (passed f b).met;
      };
    }

-- what the check applies in `optimize_expr`
pub ruleset stated = (stated_inside, stated_ask, stated_place)
