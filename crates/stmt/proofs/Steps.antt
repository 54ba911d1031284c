-- `expr` but for its loop and And and Or: a pure expression gives nothing, some give the statements of a part, and the
-- rest stay.
-- Assumes nothing.
use mathlib.Core.Bool.{Bool, true, false, cond}
use mathlib.Core.List.{List}
use mathlib.Core.Path.{◌≡◌, ap, sym, subst, ◌∙◌}
use Prim.Native.Nat.{ℕ, ◌+◌, ◌≤◌}
use native.Mathlib.Omega.{arith}
use lib.ListN.{length}
use Rattle.spec.specs.Rose.{size}
use Rattle.spec.specs.Tree.{Expr, no_stmts, rose_e}
use Rattle.spec.specs.Tree as Tree
use Rattle.spec.specs.Verdict.{pure}
use Rattle.spec.specs.PassStmts.{one, expr_step, expr_stmts, if_stmts}
use Rattle.spec.proofs.Trees.{expr_unique}
use Rattle.spec.proofs.Unroll.{some_nodes, expr_unrolled}
use Rattle.spec.proofs.Weights.{expr_weight, some_weight}
use Rattle.purity.specs.Told.{IsPure, IsImpure}
use Rattle.purity.proofs.Exprs.{pure_here, impure_here}
use Rattle.expr_bool.specs.Asked.{ExprAt}
use Rattle.runs.specs.Held.{Holds, Kept, EmptyDone, OneAsk, OneDone}
use Rattle.runs.specs.declared.Run.{Run}
use Rattle.stmt.specs.Made.{PartOf, WayOf, part, stays, WayDone, AtBack, ExprAsk, ExprDone}
use Rattle.stmt.specs.declared.Way.{Way}
use Rattle.stmt.specs.declared.Way.TheVariants as way
use Rattle.runs.proofs.Holding.{kept_refl, kept_same}

one_part : {w : List ℕ} {at place : ℕ} {e : Expr} → WayOf w at e (way.Part place) → (x : Expr) × PartOf w at place e x
one_part (part e x place p) = (x, p)

-- (also for the crate `in_place`)
pub stays_one : {w : List ℕ} {at : ℕ} {e : Expr} → WayOf w at e way.Stays
    → expr_step expr_stmts if_stmts e ≡ one (Tree.expr e)
stays_one (stays e p) = p expr_stmts if_stmts

module _ {w : List ℕ} {low at end top nodes : ℕ} (a : ExprAsk w low at end top nodes) where
  inside : end ≤ length w
  inside = omega (arith, a.below, a.room)

  pub some_left : 1 ≤ nodes
  some_left = omega (arith, some_nodes a.tree, a.few)

  stands : ExprAt w at a.tree
  stands = record { valid = a.back.is.valid; here = a.back.is.here }

  within : at + size (rose_e a.tree) ≤ length w
  within = omega (arith, a.back.is.ends, inside)

  pub way_of : {r : Way} → WayDone w at r → WayOf w at a.tree r
  way_of d = d.right a.tree stands within

  -- no other expression stands there
  pub finish : {v : List ℕ} {r : Run} → Kept low end top w v → r.at ≡ top → Holds v r (expr_stmts a.tree)
      → ExprDone w v low at end top r
  finish {v} {r} k b h = record {
    kept = k;
    begins = b;
    right = λ e f.
        let same = expr_unique w at a.tree e a.back.is.valid f.is.valid a.back.is.here f.is.here
        within (omega (arith, f.is.ends, inside)) in
        subst (λ (x : Expr). Holds v r (expr_stmts x)) same h;
  }

  opened : (b : Bool) → pure a.tree ≡ b → expr_stmts a.tree ≡ cond b no_stmts (expr_step expr_stmts if_stmts a.tree)
  opened b e =
      expr_unrolled a.tree ∙ ap (λ (b : Bool). cond b no_stmts (expr_step expr_stmts if_stmts a.tree)) e

  pub nothing : {r : Run} {next : ℕ} → IsPure w at next → EmptyDone top r → ExprDone w w low at end top r
  nothing {r} q d =
      let v = a.back.is.valid in
      finish (kept_refl low end top w) d.begins
      (subst (Holds w r) (sym (opened true (pure_here a.tree v a.back.is.here q).0)) (d.right w))

  module _ (q : IsImpure w at) where
    pub stepped : expr_stmts a.tree ≡ expr_step expr_stmts if_stmts a.tree
    stepped = opened false (impure_here a.tree a.back.is.valid a.back.is.here q)

    -- a part
    module _ {place : ℕ} (d : WayDone w at (way.Part place)) where
      part_back : {x : Expr} → PartOf w at place a.tree x → AtBack w low place end x
      part_back p = record {
        is = record {
          valid = p.stands.valid;
          here = p.stands.here;
          ends = a.back.is.ends ∙ sym p.ends;
        };
        order = omega (arith, p.past, a.back.order);
        fits = omega (arith, p.lighter, a.back.fits);
      }

      pub part_done : {v : List ℕ} {r : Run} → ExprDone w v low place end top r → ExprDone w v low at end top r
      part_done {v} {r} g =
          let (x, p) = one_part (way_of d) in
          finish g.kept g.begins
          (subst (Holds v r) (sym (stepped ∙ p.step expr_stmts if_stmts)) (g.right x (part_back p)))

    -- it stays
    pub stays_done : {v : List ℕ} {r : Run} → WayDone w at way.Stays → OneDone w v at end top r
        → ExprDone w v low at end top r
    stays_done {v} {r} d g =
        finish (kept_same low end (omega (arith, a.back.is.ends, a.back.order, a.below)) g.frame) g.begins
        (subst (Holds v r) (sym (stepped ∙ stays_one (way_of d))) (g.right a.tree a.back.is))

  pub stays_ask : OneAsk w at end top
  stays_ask = record {
    tree = a.tree;
    is = a.back.is;
    below = a.below;
    room = omega (arith, a.room, expr_weight a.tree, some_weight a.tree);
  }
