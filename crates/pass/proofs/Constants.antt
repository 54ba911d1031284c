-- A constant as a statement: nothing is made of it.
-- Assumes nothing.
use mathlib.Core.List.{List}
use mathlib.Core.Path.{◌≡◌, refl, subst, sym}
use Prim.Native.Nat.{ℕ, ◌+◌}
use native.Mathlib.Omega.{arith}
use lib.ListN.{length}
use Rattle.spec.specs.Rose.{size, own_of}
use Rattle.spec.specs.Tree.{Const, Expr, const, rose_e, no_stmts}
use Rattle.spec.specs.Verdict.{pure}
use Rattle.spec.specs.Pass.{optimize_expr}
use Rattle.spec.specs.PassStmts.{expr_stmts}
use Rattle.spec.specs.Foldable.{foldable}
use Rattle.spec.proofs.Unroll.{expr_unrolled}
use Rattle.spec.specs.declared.Sort.TheVariants as sort
use Rattle.ir.specs.Standing.{NodeOf}
use Rattle.buffer.proofs.Frames.{same_refl}
use Rattle.expr_forms.proofs.Forms.{form_at, is_const}
use Rattle.runs.specs.Held.{Holds, EmptyDone}
use Rattle.runs.specs.declared.Run.{Run}
use Rattle.pass.specs.Pruned.{Made, ExprDone}

const_stmts : (c : Const) → expr_stmts (optimize_expr (const c)) ≡ no_stmts
unfolding optimize_expr pure
const_stmts c = expr_unrolled (const c)

const_folds : (c : Const) → 0 ≡ foldable (const c)
unfolding foldable
const_folds c = refl

const_made : {w : List ℕ} {at first : ℕ} {run : Run} (c : Const) → first ≡ at + length (own_of (rose_e (const c)))
    → Holds w run no_stmts
    → Made w at (record { next = first; run = run; foldable = 0 }) (size (rose_e (const c)))
    (expr_stmts (optimize_expr (const c))) (foldable (const c))
const_made {w} {at} {first} {run} c ends none = record {
  from = omega (arith, ends);
  holds = subst (Holds w run) (sym (const_stmts c)) none;
  met = const_folds c;
}

pub const_done : {w : List ℕ} {at top k d p first n : ℕ} {run : Run} → NodeOf w at k d p first n → k ≡ 1
    → EmptyDone top run
    → ExprDone w w at top (record { next = first; run = run; foldable = 0 })
const_done {w} {at} {top} {first = first} {run = run} told constant empty = record {
  frame = same_refl top w;
  begins = empty.begins;
  right = λ e b.
      let (c, same, class) = is_const (form_at e b.valid b.here told) constant in
      let shape = told.of sort.Expr (rose_e e) refl b.valid.1 b.here in
      subst (λ (x : Expr). Made w at (record { next = first; run = run; foldable = 0 }) (size (rose_e x))
      (expr_stmts (optimize_expr x)) (foldable x)) (sym same)
      (const_made c (subst (λ (x : Expr). first ≡ at + length (own_of (rose_e x))) same shape.is_first)
      (empty.right w));
}
