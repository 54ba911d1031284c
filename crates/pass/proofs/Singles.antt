-- One tree at a place: what `optimize` leaves of an expression and of a target, and that at most one statement and one
-- list stand at a place, so that what holds of the one that is asked about holds of all.
-- Assumes nothing.
use mathlib.Core.List.{List}
use mathlib.Core.Path.{◌≡◌, refl, ap, sym, subst, ◌∙◌}
use Prim.Native.Nat.{ℕ, ◌+◌, ◌≤◌}
use native.Mathlib.Omega.{arith}
use lib.ListN.{length}
use Rattle.spec.specs.Rose.{size, At}
use Rattle.spec.specs.Grammar.{Valid}
use Rattle.spec.specs.Tree.{Expr, Target, Stmt, Stmts, rose_e, rose_t, rose_s}
use Rattle.spec.specs.Proper.{ProperTarget, ValidExpr}
use Rattle.spec.specs.Meaning.{stmt_of}
use Rattle.spec.specs.Pass.{optimize_expr, optimize_target}
use Rattle.spec.specs.PassStmts.{optimize_stmt}
use Rattle.spec.specs.Foldable.{foldable, foldable_target, foldable_stmt}
use Rattle.spec.proofs.Meanings.{expr_again}
use Rattle.spec.proofs.Targets.{target_again}
use Rattle.spec.proofs.Statements.{stmt_again}
use Rattle.spec.proofs.Readings.{unique}
use Rattle.spec.proofs.Trees.{rule_unique}
use Rattle.spec.proofs.PassedStmts.{ValidStmt}
use Rattle.spec.specs.declared.Sort.TheVariants as sort
use Rattle.ir.specs.Standing.{SomeExpr}
use Rattle.optimize.specs.Passed.{Below, Passed}
use Rattle.optimize.specs.declared.Optimized.{Optimized}
use Rattle.pass.specs.Pruned.{ExprBelow, StmtBelow, StmtRoom, ListBelow, Made}
use Rattle.pass.specs.declared.Pruned.{Pruned}

-- ---- expressions and targets

pub some_expr : {w : List ℕ} {at top : ℕ} {e : Expr} → top ≤ length w → ExprBelow w at top e → SomeExpr w at
some_expr {e = e} l b = record {
  tree = rose_e e;
  valid = b.valid.1;
  here = b.here;
  inside = omega (arith, b.below);
}

-- an expression below `low` is below every top above it
pub expr_below : {w : List ℕ} {at low : ℕ} {e : Expr} (top : ℕ) → low ≤ top → ExprBelow w at low e
    → Below w at top sort.Expr (rose_e e)
expr_below top l b = record { part = refl; valid = b.valid.1; here = b.here; below = omega (arith, b.below) }

-- what is made of e stands from top on
pub record ExprPassed (v : List ℕ) (at top : ℕ) (o : Optimized) (e : Expr) : Type 0 where
  pub from : o.next ≡ at + size (rose_e e)
  pub here : At v top (rose_e (optimize_expr e))
  pub ends : o.end ≡ top + size (rose_e (optimize_expr e))
  pub met : o.foldable ≡ foldable e

pub expr_passed : {v : List ℕ} {at top : ℕ} {o : Optimized} (e : Expr) → ValidExpr e
    → Passed v at top o sort.Expr (rose_e e) → ExprPassed v at top o e
expr_passed {v} {at} {top} {o} e valid p =
    let again = expr_again e valid.0 valid.1 in record {
      from = p.from;
      here = subst (λ (x : Expr). At v top (rose_e (optimize_expr x))) again p.here;
      ends = subst (λ (x : Expr). o.end ≡ top + size (rose_e (optimize_expr x))) again p.ends;
      met = subst (λ (x : Expr). o.foldable ≡ foldable x) again p.met;
    }

pub record TargetPassed (v : List ℕ) (at top : ℕ) (o : Optimized) (t : Target) : Type 0 where
  pub from : o.next ≡ at + size (rose_t t)
  pub here : At v top (rose_t (optimize_target t))
  pub ends : o.end ≡ top + size (rose_t (optimize_target t))
  pub met : o.foldable ≡ foldable_target t

pub target_passed : {v : List ℕ} {at top : ℕ} {o : Optimized} (t : Target)
    → ProperTarget t × Valid sort.Target (rose_t t) → Passed v at top o sort.Target (rose_t t)
    → TargetPassed v at top o t
target_passed {v} {at} {top} {o} t valid p =
    let again = target_again t valid.0 valid.1 in record {
      from = p.from;
      here = subst (λ (x : Target). At v top (rose_t (optimize_target x))) again p.here;
      ends = subst (λ (x : Target). o.end ≡ top + size (rose_t (optimize_target x))) again p.ends;
      met = subst (λ (x : Target). o.foldable ≡ foldable_target x) again p.met;
    }

-- ---- statements and lists

stmt_unique : (w : List ℕ) (at : ℕ) (s u : Stmt) → ValidStmt s → ValidStmt u → At w at (rose_s s) → At w at (rose_s u)
    → at + size (rose_s s) ≤ length w → at + size (rose_s u) ≤ length w → s ≡ u
stmt_unique w at s u v x a b l m =
    sym (stmt_again s v.0 v.1)
    ∙ ap stmt_of (unique w sort.Stmt at (rose_s s) (rose_s u) v.1 x.1 a b l m)
    ∙ stmt_again u x.0 x.1

-- what was made of the statement that stands there
pub stmt_every : {w v : List ℕ} {at top : ℕ} {r : Pruned} {s : Stmt} → StmtRoom w at top s
    → Made v at r (size (rose_s s)) (optimize_stmt s) (foldable_stmt s)
    → (u : Stmt) → StmtBelow w at top u → Made v at r (size (rose_s u)) (optimize_stmt u) (foldable_stmt u)
stmt_every {w} {v} {at} {top} {r} {s} a m u b =
    let i = a.is in
    let same = stmt_unique w at s u i.valid b.valid i.here b.here (omega (arith, i.below, a.room))
    (omega (arith, b.below, a.room)) in
    subst (λ (x : Stmt). Made v at r (size (rose_s x)) (optimize_stmt x) (foldable_stmt x)) same m

-- the list that stands there
pub list_only : {w : List ℕ} {at top : ℕ} {ss rs : Stmts} → top ≤ length w → ListBelow w at top ss
    → ListBelow w at top rs → ss ≡ rs
list_only {w} {at} {top} {ss} {rs} l a b =
    rule_unique w at ss rs a.valid b.valid a.here b.here (omega (arith, a.below))
    (omega (arith, b.below))
