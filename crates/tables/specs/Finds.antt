-- The kinds that a sort's numbers are read as: the law `finds` of `Kind`.
use Rattle.std.specs.Prelude.{Result, Ok, Err, MatchResult, true, ◌≡◌, ℕ}
use Rattle.spec.specs.Grammar.{within}
use native.Mathlib.Omega.{arith}
use Rattle.spec.proofs.Heads.{within_low, within_high}
use Rattle.tables.specs.Kinds.{Kinded, IsExprKind, IsStmtKind, IsTargetKind}
use Rattle.tables.specs.Kinds.{expr_number, stmt_number, target_number}
use Rattle.tables.specs.declared.kind.NoKind.{NoKind}
use Rattle.tables.specs.declared.exprs.ExprKind.{ExprKind}
use Rattle.tables.specs.declared.stmts.StmtKind.{StmtKind}
use Rattle.tables.specs.declared.targets.TargetKind.{TargetKind}
use Rattle.tables.specs.declared.exprs.ExprKind.TheVariants as expr
use Rattle.tables.specs.declared.stmts.StmtKind.TheVariants as stmt
use Rattle.tables.specs.declared.targets.TargetKind.TheVariants as target

-- some kind has a number
abbrev Has : {K : Type 0} → (K → ℕ) → ℕ → Type 0
Has {K} number n = ((kind : K) → number kind ≡ n → ⊥) → ⊥

module _ (n : ℕ) where
  pub expr_kind : within 1 16 n ≡ true → Has expr_number n
  expr_kind h f =
      omega (
        arith,
        within_low 1 16 n h,
        within_high 1 16 n h,
        f expr.Const,
        f expr.Local,
        f expr.LocalCaptured,
        f expr.Module,
        f expr.Def,
        f expr.Tuple,
        f expr.List,
        f expr.Dict,
        f expr.If,
        f expr.Slice,
        f expr.Builtin1,
        f expr.LogicalBinOp,
        f expr.Seq,
        f expr.Builtin2,
        f expr.Index2,
        f expr.Call,
      )

  pub stmt_kind : within 32 40 n ≡ true → Has stmt_number n
  stmt_kind h f =
      omega (
        arith,
        within_low 32 40 n h,
        within_high 32 40 n h,
        f stmt.PossibleGc,
        f stmt.Return,
        f stmt.Expr,
        f stmt.Assign,
        f stmt.AssignModify,
        f stmt.If,
        f stmt.For,
        f stmt.Break,
        f stmt.Continue,
      )

  pub target_kind : within 64 69 n ≡ true → Has target_number n
  target_kind h f =
      omega (
        arith,
        within_low 64 69 n h,
        within_high 64 69 n h,
        f target.Dot,
        f target.Index,
        f target.Tuple,
        f target.Local,
        f target.LocalCaptured,
        f target.Module,
      )

-- a number that some kind has is read as one that has it
found : {K : Type 0} (number : K → ℕ) (n : ℕ) (r : Result K NoKind) → Kinded number n r → Has number n
    → MatchResult r (λ kind. number kind ≡ n) (λ _. ⊥)
found number n (Ok kind) m some = m
found number n (Err e) m some = some m.1

pub expr_finds : (n : ℕ) (r : Result ExprKind NoKind) → IsExprKind n r → within 1 16 n ≡ true
    → MatchResult r (λ kind. expr_number kind ≡ n) (λ _. ⊥)
expr_finds n r m h = found expr_number n r m (expr_kind n h)

pub stmt_finds : (n : ℕ) (r : Result StmtKind NoKind) → IsStmtKind n r → within 32 40 n ≡ true
    → MatchResult r (λ kind. stmt_number kind ≡ n) (λ _. ⊥)
stmt_finds n r m h = found stmt_number n r m (stmt_kind n h)

pub target_finds : (n : ℕ) (r : Result TargetKind NoKind) → IsTargetKind n r → within 64 69 n ≡ true
    → MatchResult r (λ kind. target_number kind ≡ n) (λ _. ⊥)
target_finds n r m h = found target_number n r m (target_kind n h)
