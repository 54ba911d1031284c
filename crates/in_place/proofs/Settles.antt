-- `settle_in_place`: a condition over which an If statement stays an If.
-- Assumes nothing.
use mathlib.Core.Bool.{Bool, true, false≢true}
use mathlib.Core.List.{List}
use mathlib.Core.Path.{◌≡◌, ap, sym, ◌∙◌}
use Prim.Native.Nat.{ℕ}
use native.Mathlib.Omega.{arith}
use Rattle.std.specs.Prelude.{Some}
use Rattle.spec.specs.Tree.{Expr, read, if_then, type_is, oper, call, Stmts, rose_e}
use Rattle.spec.specs.Verdict.{truth_of}
use Rattle.spec.specs.Pass.{decided, new_bool}
use Rattle.spec.specs.PassStmts.{if_stays, if_stmt_left, if_stmt_step, expr_stmts, if_stmts}
use Rattle.spec.proofs.Meanings.{expr_again}
use Rattle.spec.proofs.Unroll.{if_stmt_unrolled}
use Rattle.buffer.specs.Copy.{PutDone}
use Rattle.buffer.proofs.Frames.{same_refl, same_trans, same_less}
use Rattle.purity.specs.Told.{BoolOf}
use Rattle.expr_forms.proofs.Moves.{is_put}
use Rattle.optimize.specs.Passed.{stays_if}
use Rattle.stmt.specs.Made.{StayDone}
use Rattle.in_place.specs.InPlace.{SettleAsk, SettleDone}

-- ---- a condition of which nothing is known and nothing is taken off

stays_so : (c : Expr) → stays_if c ≡ true → (t f : Stmts) → if_stmts c t f ≡ if_stays expr_stmts c t f
unfolding new_bool decided truth_of if_stmt_step if_stmt_left
stays_so (read p) s t f = if_stmt_unrolled (read p) t f
stays_so (if_then c x y) s t f = if_stmt_unrolled (if_then c x y) t f
stays_so (type_is u e) s t f = if_stmt_unrolled (type_is u e) t f
stays_so (oper h pay es) s t f = if_stmt_unrolled (oper h pay es) t f
stays_so (call names args kwargs g es) s t f = if_stmt_unrolled (call names args kwargs g es) t f
stays_so _ s t f = absurd (false≢true s)

-- ---- step by step

-- it is as it was
pub stays_done : {w : List ℕ} {at end : ℕ} {b : Bool} → BoolOf stays_if w at b → b ≡ true
    → SettleDone w w at end (Some end)
stays_done {w} {at} q s = record {
  frame = same_refl at w;
  right = λ c i. record {
    left = c;
    is = i;
    lighter = omega arith;
    so = stays_so c (sym (sym s ∙ q.of (rose_e c) i.valid.1 i.here
        ∙ ap stays_if (expr_again c i.valid.0 i.valid.1)));
  };
}

-- what is left of it is put in its place
pub settle_done : {w v u : List ℕ} {at end last r : ℕ} → SettleAsk w at end → StayDone w v at end (Some last)
    → PutDone v u end last at r → SettleDone w u at end (Some r)
settle_done {at = at} a d p = record {
  frame = same_trans (same_less at (omega (arith, a.is.ends)) d.frame) p.frame;
  right = λ c i.
      let s = d.right c (record { valid = i.valid; here = i.here }) in
      record {
        left = s.left;
        is = is_put p s.is;
        lighter = s.lighter;
        so = s.so;
      };
}
