-- `for_stmt`: a For, or nothing where what it loops over is empty.
-- Assumes nothing.
use mathlib.Core.Bool.{Bool, true, false}
use mathlib.Core.List.{List}
use mathlib.Core.Path.{◌≡◌, refl, sym, ap, subst, ◌∙◌}
use Prim.Native.Nat.{ℕ}
use Rattle.spec.specs.Rose.{At}
use Rattle.spec.specs.Tree.{Target, Expr, Stmts, for, rose_e}
use Rattle.spec.specs.Verdict.{empty_iterable}
use Rattle.spec.specs.PassStmts.{is_exit, for_stmts}
use Rattle.spec.proofs.Meanings.{expr_again}
use Rattle.purity.specs.Told.{BoolOf}
use Rattle.runs.specs.Held.{EmptyDone, SingleDone, Looped, ForDone}
use Rattle.runs.specs.declared.Run.{Run}

-- what it loops over stands at its place
over_at : {w : List ℕ} {at over end : ℕ} {t : Target} {e : Expr} {body : Stmts} → Looped w at over end t e body
    → At w over (rose_e e)
over_at {w} {e = e} l = subst (λ (k : ℕ). At w k (rose_e e)) (sym l.over_is) l.here.1.1.0

module _ {w : List ℕ} {at over end : ℕ} where
  -- whether it is empty
  told : {b none : Bool} {t : Target} {e : Expr} {body : Stmts} → BoolOf empty_iterable w over none → none ≡ b
      → Looped w at over end t e body → empty_iterable e ≡ b
  told {e = e} q n l =
      ap empty_iterable (sym (expr_again e l.valid.0 l.valid.1))
      ∙ sym (q.of (rose_e e) l.valid.1 (over_at l))
      ∙ n

  pub for_none : {none : Bool} {r : Run} → BoolOf empty_iterable w over none → none ≡ true → EmptyDone at r
      → ForDone w at over end r
  unfolding for_stmts
  for_none q n d = record { begins = d.begins; right = λ t e body l. rw (told q n l) (d.right w) }

  pub for_kept : {none : Bool} {r : Run} → BoolOf empty_iterable w over none → none ≡ false → SingleDone at end r
      → ForDone w at over end r
  unfolding for_stmts is_exit
  for_kept q n d = record {
    begins = d.begins;
    right = λ t e body l. rw (told q n l) (d.right w (for t e body) l.here l.ends refl);
  }
