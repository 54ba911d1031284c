-- `expr_in_place`: a pure expression gives nothing, one that stays gets its header, and any other goes to a slot.
-- Assumes nothing.
use mathlib.Core.Bool.{Bool, true, false, cond}
use mathlib.Core.List.{List, [], ◌∷◌}
use mathlib.Core.Logic.{inl}
use mathlib.Core.Path.{◌≡◌, refl, ap, sym, subst, ◌∙◌}
use Prim.Native.Nat.{ℕ, ◌+◌, ◌-◌, ◌≤◌}
use native.Mathlib.Omega.{arith}
use lib.ListN.{length}
use Rattle.spec.specs.Rose.{At}
use Rattle.spec.specs.Tree.{Expr, no_stmts, rose_e}
use Rattle.spec.specs.Tree as Tree
use Rattle.spec.specs.Verdict.{pure}
use Rattle.spec.specs.PassStmts.{is_exit, expr_step, expr_stmts, if_stmts}
use Rattle.spec.proofs.Counts.{expr_nodes}
use Rattle.spec.proofs.Places.{at_move}
use Rattle.spec.proofs.Rows.{made_words}
use Rattle.spec.proofs.Trees.{expr_unique}
use Rattle.spec.proofs.Unroll.{expr_unrolled}
use Rattle.spec.proofs.Weights.{expr_weight, some_weight}
use Rattle.ir.specs.Written.{Written}
use Rattle.buffer.specs.Copy.{Same, PutAsk}
use Rattle.buffer.proofs.Frames.{same_refl, same_trans}
use Rattle.purity.specs.Told.{IsPure, IsImpure}
use Rattle.purity.proofs.Exprs.{pure_here, impure_here}
use Rattle.expr_bool.specs.Asked.{ExprAt}
use Rattle.runs.specs.Held.{Holds, EmptyDone, SingleDone}
use Rattle.runs.specs.Held as Held
use Rattle.runs.specs.declared.Run.{Run}
use Rattle.stmt.specs.Made.{WayDone, AtBack, ExprAsk, ExprDone}
use Rattle.stmt.specs.declared.Way.TheVariants as way
use Rattle.stmt.proofs.Steps.{stays_one}
use Rattle.cores.specs.Cores.{CoreOf, CoreDone}
use Rattle.in_place.specs.InPlace.{Lifted, LiftDone, PlaceAsk, PlaceDone}

module _ {w : List ℕ} {top end : ℕ} (a : PlaceAsk w top end) where
  inside : end ≤ length w
  inside = omega (arith, a.is.ends, a.room, expr_weight a.tree, some_weight a.tree)

  stands : ExprAt w (top + 1) a.tree
  stands = record { valid = a.is.valid; here = a.is.here }

  -- no other expression stands there
  finish : {v : List ℕ} {r : Run} → Same top w v → r.at ≡ top → Holds v r (expr_stmts a.tree)
      → PlaceDone w v top end r
  finish {v} {r} s b h = record {
    frame = s;
    begins = b;
    right = λ e i.
        let same = expr_unique w (top + 1) a.tree e a.is.valid i.valid a.is.here i.here
        (omega (arith, a.is.ends, inside)) (omega (arith, i.ends, inside)) in
        subst (λ (x : Expr). Holds v r (expr_stmts x)) same h;
  }

  opened : (b : Bool) → pure a.tree ≡ b → expr_stmts a.tree ≡ cond b no_stmts (expr_step expr_stmts if_stmts a.tree)
  opened b e =
      expr_unrolled a.tree ∙ ap (λ (b : Bool). cond b no_stmts (expr_step expr_stmts if_stmts a.tree)) e

  pub place_none : {r : Run} {next : ℕ} → IsPure w (top + 1) next → EmptyDone top r → PlaceDone w w top end r
  place_none {r} q d =
      finish (same_refl top w) d.begins
      (subst (Holds w r) (sym (opened true (pure_here a.tree a.is.valid a.is.here q).0)) (d.right w))

  -- it stays: its header is all that is written
  pub place_stays : {v : List ℕ} {body : ℕ} {r : Run} → IsImpure w (top + 1) → WayDone w (top + 1) way.Stays
      → Written w v top (34 ∷ []) body → SingleDone top end r → PlaceDone w v top end r
  unfolding is_exit
  place_stays {v} {r = r} q d g one =
      let e = a.tree in
      let Way-of = d.right e stands (omega (arith, a.is.ends, inside)) in
      let here : At v (top + 1) (rose_e e) = at_move (rose_e e) a.is.here
      (record { word = λ k h. g.above (top + 1 + k) (omega (arith, g.ends)) }) in
      finish (record { word = λ k h. g.below k h }) one.begins
      (subst (Holds v r) (sym (opened false (impure_here e a.is.valid a.is.here q) ∙ stays_one Way-of))
      (one.right v (Tree.expr e) ((g.here.0, tt), (here, tt)) (omega (arith, a.is.ends)) refl))

  module _ {v : List ℕ} {high : ℕ} (lifted : LiftDone w v top end high) (long : length v ≡ length w) where
    given : Lifted v top end high a.tree
    given = lifted.right a.tree a.is

    below : high ≤ length v
    below = omega (arith, given.exact, a.room, long)

    module _ {core : ℕ} (cored : CoreDone v (high - (end - (top + 1))) core) where
      -- the core stands at the back of the slot too
      cored_of : CoreOf v (high - (end - (top + 1))) high core a.tree
      cored_of = cored.of high a.tree given.slot.is below

      core_back : AtBack v top core high cored_of.core
      core_back = record {
        is = cored_of.is;
        order = omega (arith, given.slot.order, cored_of.order);
        fits = omega (arith, given.slot.fits, cored_of.lighter);
      }

      pub core_order : core ≤ high
      core_order = omega (arith, cored_of.is.ends)

      pub core_ask : ExprAsk v top core high high (high - core)
      core_ask = record {
        tree = cored_of.core;
        back = core_back;
        below = omega arith;
        room = omega (arith, given.exact, cored_of.lighter, a.room, long);
        few = omega (arith, cored_of.is.ends, expr_nodes cored_of.core);
        short = omega (arith, a.short, long);
      }

      module _ {u : List ℕ} {run : Run} (made : ExprDone v u top core high high run) (long' : length u ≡ length v)
        where
          -- what is made of the core is what is made of the expression
          made_holds : Holds u run (expr_stmts a.tree)
          made_holds = subst (Holds u run) cored_of.same (made.right cored_of.core core_back)

          pub made_down : PutAsk (length u) run.at run.end top
          made_down =
              let h = made_holds in
              let x = made_words a.tree in
              record {
                order = omega (arith, h.ends);
                apart = inl (omega (arith, made.begins, given.exact));
                within = omega (arith, made.begins, given.exact, h.ends, x, a.room, long, long');
                room = omega (arith, made.begins, given.exact, h.ends, x, a.room, long, long');
              }

          pub made_done : {x : List ℕ} {r : Run} → Held.PlaceDone u x run top r → PlaceDone w x top end r
          made_done p =
              finish (same_trans lifted.frame (same_trans made.kept.frame p.frame)) p.begins
              (p.right (expr_stmts a.tree) made_holds)
