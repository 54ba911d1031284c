-- Answers by their case, and own words and whole trees that are kept or moved.
-- Assumes nothing.
use mathlib.Core.Bool.{Bool}
use mathlib.Core.List.{List}
use mathlib.Core.Path.{◌≡◌, refl, ap, sym, subst}
use Prim.Native.Nat.{ℕ, ◌+◌, ◌-◌, ◌≤◌}
use native.Mathlib.Omega.{arith}
use lib.ListN.{length}
use Rattle.spec.specs.Rose.{Rose, node, size, Words, At, own_of}
use Rattle.spec.specs.Frames.{Agree}
use Rattle.spec.specs.Tree.{Expr, rose_e}
use Rattle.spec.specs.Pass.{const_condition, expr_condition}
use Rattle.spec.specs.Pass as Pass
use Rattle.spec.proofs.Places.{words_move}
use Rattle.buffer.specs.Copy.{Same, PutDone}
use Rattle.buffer.proofs.Frames.{same_agree}
use Rattle.expr_bool.specs.Asked.{Answer}
use Rattle.expr_bool.specs.declared.Condition.TheVariants as condition

-- ---- an answer's case tells the condition's

pub const_case : (v : List ℕ) (top : ℕ) (a : Bool) (c : Pass.Condition) → Answer v top c (condition.Const a)
    → c ≡ const_condition a
const_case v top a (const_condition b) p = let q : a ≡ b = cc in ap const_condition (sym q)
const_case v top a (expr_condition e) p = let q = p.0 in let z : ◌≡◌ {A = ℕ} 0 1 = cc in absurd (omega arith)

-- the expression that stands there
pub record Left (v : List ℕ) (top k : ℕ) (c : Pass.Condition) : Type 0 where
  pub expr : Expr
  pub is : c ≡ expr_condition expr
  pub ends : k ≡ top + size (rose_e expr)
  pub here : At v top (rose_e expr)

pub expr_case : (v : List ℕ) (top k : ℕ) (c : Pass.Condition) → Answer v top c (condition.Expr k) → Left v top k c
expr_case v top k (const_condition b) p = let z : ◌≡◌ {A = ℕ} 0 1 = cc in absurd (omega arith)
expr_case v top k (expr_condition e) p =
    let q = p.0 in
    let r : k ≡ top + size (rose_e e) = cc in
    record { expr = e; is = refl; ends = r; here = p.1 }

-- ---- own words

pub own_at : (w : List ℕ) (at : ℕ) (r : Rose) → At w at r → Words w at (own_of r)
own_at w at (node s own ps) t = t.0

pub own_size : (r : Rose) → length (own_of r) ≤ size r
own_size (node s own ps) = omega arith

-- moved to top, and kept there
pub own_moved : {w v u : List ℕ} {at first top body : ℕ} (own : List ℕ) → first ≡ at + length own
    → PutDone w v at first top body → Same body v u → Words w at own → Words u top own
own_moved {w} {v} {u} {at} {first} {top} {body} own e d s t =
    let n : first - at ≡ length own = omega arith in
    words_move own
    (words_move own t (subst (λ (m : ℕ). Agree w at v top m) n d.moved))
    (same_agree top (length own) (omega (arith, d.ends)) s)
