-- `settle_if`: a condition over which an If statement stays an If.
-- Assumes nothing.
use mathlib.Core.List.{List}
use mathlib.Core.Path.{◌≡◌, ap, ◌∙◌}
use Prim.Native.Nat.{ℕ}
use native.Mathlib.Omega.{arith}
use lib.ListN.{length}
use Rattle.std.specs.Prelude.{Some}
use Rattle.spec.specs.Tree.{Expr, Stmts}
use Rattle.spec.specs.Pass.{new_bool}
use Rattle.spec.specs.Pass as Pass
use Rattle.spec.specs.PassStmts.{if_stays, if_stmt_step, expr_stmts, if_stmts}
use Rattle.spec.proofs.Passed.{new_valid}
use Rattle.spec.proofs.Unroll.{if_stmt_unrolled}
use Rattle.spec.proofs.Weights.{expr_weight, new_expr_weight}
use Rattle.expr_bool.specs.Asked.{ExprAt, NewAsk, NewDone}
use Rattle.expr_bool.specs.declared.Condition.TheVariants as condition
use Rattle.expr_bool.proofs.Answers.{Left, expr_case}
use Rattle.if_expr.specs.Arms.{TestAsk, TestDone}
use Rattle.if_expr.specs.declared.Test.TheVariants as test
use Rattle.stmt.specs.Made.{StayDone}
use Rattle.stmt.proofs.Ifs.{plain_case, plain_left}

module _ {w v : List ℕ} {at top last : ℕ} (d : NewDone w v at top (condition.Expr last)) where
  made : (c : Expr) → ExprAt w at c → Left v top last (new_bool c)
  made c i = expr_case v top last (new_bool c) (d.right c i)

  made_stands : (c : Expr) (i : ExprAt w at c) → ExprAt v top (made c i).expr
  made_stands c i =
      let m = made c i in
      record { valid = new_valid c m.expr i.valid m.is; here = m.here }

  pub stay_test : NewAsk w at top → length v ≡ length w → TestAsk v top
  stay_test a long =
      let m = made a.tree a.stands in
      record {
        tree = m.expr;
        stands = made_stands a.tree a.stands;
        inside = omega (
          arith,
          new_expr_weight a.tree m.expr m.is,
          (expr_weight m.expr).0,
          a.room,
          long,
        );
      }

  left_so : TestDone v top test.Stays → (c : Expr) (i : ExprAt w at c) (t f : Stmts)
      → if_stmts c t f ≡ if_stays expr_stmts (made c i).expr t f
  unfolding if_stmt_step
  left_so g c i t f =
      let m = made c i in
      if_stmt_unrolled c t f
      ∙ ap (λ (n : Pass.Condition). if_stmt_step expr_stmts if_stmts n t f) m.is
      ∙ plain_left m.expr (plain_case (g.right m.expr (made_stands c i))) t f

  pub stay_done : TestDone v top test.Stays → StayDone w v at top (Some last)
  stay_done g = record {
    frame = d.frame;
    right = λ c i.
        let m = made c i in
        record {
          left = m.expr;
          is = record { valid = (made_stands c i).valid; here = m.here; ends = m.ends };
          lighter = new_expr_weight c m.expr m.is;
          so = left_so g c i;
        };
  }
