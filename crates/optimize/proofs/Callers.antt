-- For callers of `optimize`: how it is asked for a valid expression or target that stands somewhere, and what it
-- leaves.
-- Assumes nothing.
use mathlib.Core.Bool.{true, false≢true}
use mathlib.Core.List.{List}
use mathlib.Core.Path.{◌≡◌, refl, ap, subst, ◌∙◌}
use Prim.Native.Nat.{ℕ, ◌+◌, ◌≤◌}
use native.Mathlib.Omega.{arith}
use lib.ListN.{length}
use Rattle.spec.specs.Rose.{Rose, node, size, At, sort_of}
use Rattle.spec.specs.Grammar.{Valid}
use Rattle.spec.specs.Tree.{Expr, rose_e, Target, dot, index, tuple_target, slot, rose_t}
use Rattle.spec.specs.Meaning.{target_of}
use Rattle.spec.specs.Proper.{ValidExpr}
use Rattle.spec.specs.Pass.{optimize_expr, optimize_target}
use Rattle.spec.specs.Foldable.{foldable, foldable_target}
use Rattle.spec.specs.Weight.{weight_e, weight_t, expr_room}
use Rattle.spec.specs.declared.Sort.{Sort}
use Rattle.spec.specs.declared.Sort.TheVariants as sort
use Rattle.spec.proofs.Targets.{single_target, target_again}
use Rattle.spec.proofs.Passed.{ValidTarget, optimize_valid, optimize_target_valid}
use Rattle.expr_forms.specs.Made.{Is}
use Rattle.optimize.specs.Passed.{is_part, passed, places, Below, Ask, Done}
use Rattle.optimize.specs.declared.Optimized.{Optimized}
use Rattle.optimize.proofs.Renewals.{passed_expr, places_expr}

-- ---- expressions

-- what is made of e, which stood at `at`, stands from top on
pub record ExprPassed (v : List ℕ) (at top : ℕ) (o : Optimized) (e : Expr) : Type 0 where
  pub is : Is v top o.end (optimize_expr e)
  pub from : o.next ≡ at + size (rose_e e)
  pub met : o.foldable ≡ foldable e

module _ {w : List ℕ} {at top : ℕ} (e : Expr) (v : ValidExpr e) (here : At w at (rose_e e))
    (below : at + size (rose_e e) ≤ top) where
  expr_below : Below w at top sort.Expr (rose_e e)
  expr_below = record { part = refl; valid = v.1; here = here; below = below }

  pub expr_ask : top + expr_room (weight_e e) ≤ length w → Ask w at top
  expr_ask room = record { sort = sort.Expr; tree = rose_e e; is = expr_below; room = room }

  pub expr_passed : {u : List ℕ} {o : Optimized} → Done w u at top o → ExprPassed u at top o e
  expr_passed {u} d =
      let p = d.right sort.Expr (rose_e e) expr_below in
      let same = passed_expr e v in
      record {
        is = record {
          valid = optimize_valid e v;
          here = subst (At u top) same p.here;
          ends = p.ends ∙ ap (λ (r : Rose). top + size r) same;
        };
        from = p.from;
        met = p.met ∙ places_expr e v;
      }

-- ---- targets, at a place of a sort

pub record TargetPassed (v : List ℕ) (at top : ℕ) (o : Optimized) (s : Sort) (t : Target) : Type 0 where
  pub valid : ValidTarget s (optimize_target t)
  pub here : At v top (rose_t (optimize_target t))
  pub ends : o.end ≡ top + size (rose_t (optimize_target t))
  pub from : o.next ≡ at + size (rose_t t)
  pub met : o.foldable ≡ foldable_target t

-- the words of a target are no expression
no_expr : (r : Rose) → sort_of r ≡ sort.Target → Valid sort.Expr r → ⊥
no_expr (node s own ps) e v =
    let same = v.0 in
    let z : ◌≡◌ {A = ℕ} 0 1 = cc in
    omega arith

rose_sort : (t : Target) → sort_of (rose_t t) ≡ sort.Target
rose_sort (dot t e) = refl
rose_sort (index x y) = refl
rose_sort (tuple_target ts) = refl
rose_sort (slot s) = refl

target_means : (s : Sort) (t : Target) → is_part s ≡ true → ValidTarget s t
    → (passed s (rose_t t) ≡ rose_t (optimize_target t)) × (places s (rose_t t) ≡ foldable_target t)
target_means s t p v = go s p v.1
  where
    means : Valid sort.Target (rose_t t) → target_of (rose_t t) ≡ t
    means u = target_again t v.0 u

    both : Valid sort.Target (rose_t t)
        → (passed sort.Target (rose_t t) ≡ rose_t (optimize_target t))
        × (places sort.Target (rose_t t) ≡ foldable_target t)
    both u = (ap (λ (x : Target). rose_t (optimize_target x)) (means u), ap foldable_target (means u))

    go : (s : Sort) → is_part s ≡ true → Valid s (rose_t t)
        → (passed s (rose_t t) ≡ rose_t (optimize_target t)) × (places s (rose_t t) ≡ foldable_target t)
    go sort.Expr p u = absurd (no_expr (rose_t t) (rose_sort t) u)
    go sort.Target p u = both u
    go sort.Single p u = both (single_target (rose_t t) u)
    go sort.Stmt p u = absurd (false≢true p)
    go sort.List p u = absurd (false≢true p)

module _ {w : List ℕ} {at top : ℕ} (s : Sort) (part : is_part s ≡ true) (t : Target) (v : ValidTarget s t)
    (here : At w at (rose_t t)) (below : at + size (rose_t t) ≤ top) where
  target_below : Below w at top s (rose_t t)
  target_below = record { part = part; valid = v.1; here = here; below = below }

  pub target_ask : top + expr_room (weight_t t) ≤ length w → Ask w at top
  target_ask room = record { sort = s; tree = rose_t t; is = target_below; room = room }

  pub target_passed : {u : List ℕ} {o : Optimized} → Done w u at top o → TargetPassed u at top o s t
  target_passed {u} d =
      let p = d.right s (rose_t t) target_below in
      let same = target_means s t part v in
      record {
        valid = optimize_target_valid s t v;
        here = subst (At u top) same.0 p.here;
        ends = p.ends ∙ ap (λ (r : Rose). top + size r) same.0;
        from = p.from;
        met = p.met ∙ same.1;
      }
