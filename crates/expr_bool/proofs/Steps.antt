-- `new` step by step: a known truth, Not, And and Or by what is made of their parts, and what stays as it is.
-- Assumes nothing.
use mathlib.Core.Bool.{Bool, true, false, not, ◌&&◌}
use mathlib.Core.List.{List, [], ◌∷◌}
use mathlib.Core.Logic.{inr}
use mathlib.Core.Path.{◌≡◌, refl, ap, sym, subst, ◌∙◌}
use Prim.Native.Nat.{ℕ, ◌+◌, ◌≤◌, ◌<◌}
use native.Mathlib.Omega.{arith}
use borrow.Author.Tests.{eq-eqb}
use lib.Dec.{eqb}
use lib.ListN.{length}
use Rattle.spec.specs.Rose.{size, At}
use Rattle.spec.specs.Grammar.{header}
use Rattle.spec.specs.Tree
use Rattle.spec.specs.Tree.{Logic, Expr, logic, rose_e}
use Rattle.spec.specs.Views.{kind_of}
use Rattle.spec.specs.Verdict.{truth_of}
use Rattle.spec.specs.Pass.{not_condition, logic_condition, new_bool}
use Rattle.spec.specs.Pass as Pass
use Rattle.spec.proofs.Trees.{expr_alone}
use Rattle.spec.proofs.Conditions.{new_constant}
use Rattle.spec.proofs.Weights.{expr_weight}
use Rattle.spec.specs.declared.Sort.TheVariants as sort
use Rattle.spec.specs.declared.Truth.TheVariants as truth
use Rattle.ir.specs.Standing.{SomeExpr, SomeExprs, Shape, NodeOf, SkipOf}
use Rattle.ir.proofs.Forests.{own_some, some_one, skip_one}
use Rattle.purity.specs.Told.{IsKnown, IsUnknown}
use Rattle.purity.proofs.Exprs.{known_here, unknown_here}
use Rattle.buffer.specs.Copy.{Same, PutAsk, PutDone}
use Rattle.buffer.proofs.Frames.{same_refl, same_trans, same_less, same_at, put_at}
use Rattle.expr_bool.specs.Asked.{Answer, ExprAt, NewAsk, NewDone, logic_by, Placed, LogicAsk, LogicDone}
use Rattle.expr_bool.specs.declared.Condition.{Condition}
use Rattle.expr_bool.specs.declared.Condition.TheVariants as condition
use Rattle.expr_bool.proofs.Shapes.{Way, way, of_not, of_logic, of_plain, not_made_lem, logic_made_lem, logic_by_lem}
use Rattle.expr_bool.proofs.Parts.{not_part}
use Rattle.expr_bool.proofs.Answers.{const_case, expr_case, own_size, own_moved}

-- the own words of a node go to top
pub own_put : {w : List ℕ} {at first top : ℕ} {e : Expr} → Placed w at first top e → PutAsk (length w) at first top
own_put {e = e} s =
    let o = own_size (rose_e e) in
    let g = (expr_weight e).0 in
    record {
      order = omega (arith, s.parts);
      apart = inr (omega (arith, s.parts, o, s.below));
      within = omega (arith, s.parts, o, s.below, s.room);
      room = omega (arith, s.parts, o, g, s.room);
    }

module _ {w : List ℕ} {at top : ℕ} (a : NewAsk w at top) where
  pub ask_some : SomeExpr w at
  ask_some = record {
    tree = rose_e a.tree;
    valid = a.stands.valid.1;
    here = a.stands.here;
    inside = omega (arith, a.below, a.room);
  }

  pub ask_one : SomeExprs w at 1
  ask_one = some_one ask_some

  -- no other expression stands there
  done : (v : List ℕ) (r : Condition) → Same top w v → Answer v top (new_bool a.tree) r → NewDone w v at top r
  done v r s z = record {
    frame = s;
    right = λ e x.
        let same = expr_alone w at a.tree e a.stands.valid x.valid a.stands.here x.here in
        subst (λ (f : Expr). Answer v top (new_bool f) r) same z;
  }

  -- where it ends
  module _ {end : ℕ} (z : SkipOf w at 1 end) where
    ends : end ≡ at + size (rose_e a.tree)
    ends = skip_one (rose_e a.tree) a.stands.valid.1 a.stands.here z

    pub whole_put : PutAsk (length w) at end top
    whole_put =
        let g = (expr_weight a.tree).0 in
        record {
          order = omega (arith, ends);
          apart = inr (omega (arith, ends, a.below));
          within = omega (arith, ends, a.below, a.room);
          room = omega (arith, ends, g, a.room);
        }

  pub known_done : {b : Bool} {next : ℕ} → IsKnown w at b next → NewDone w w at top (condition.Const b)
  known_done {b} q =
      let c = (new_constant a.tree b).1 (known_here a.tree a.stands.valid a.stands.here q).0 in
      done w (condition.Const b) (same_refl top w)
      (subst (λ (c : Pass.Condition). Answer w top c (condition.Const b)) (sym c) refl)

  module _ {k d x first n : ℕ} (o : NodeOf w at k d x first n) where
    shape : Shape (rose_e a.tree) at k d x first n
    shape = o.of sort.Expr (rose_e a.tree) refl a.stands.valid.1 a.stands.here

    found : Way k d a.tree
    found =
        subst (λ (i : ℕ). Way i d a.tree) (sym shape.is_kind)
        (subst (λ (j : ℕ). Way (kind_of (rose_e a.tree)) j a.tree) (sym shape.is_detail)
        (way a.tree a.stands.valid.0))

    pub placed : Placed w at first top a.tree
    placed = record { stands = a.stands; parts = shape.is_first; below = a.below; room = a.room }

    -- parts stand behind the node's own words
    pub past : (at < first) × (first ≤ length w)
    past = (
      omega (arith, shape.is_first, own_some (rose_e a.tree) a.stands.valid.1),
      omega (arith, shape.is_first, own_size (rose_e a.tree), a.below, a.room),
    )

    module _ (q : IsUnknown w at) where
      unknown : truth_of a.tree ≡ truth.Unknown
      unknown = unknown_here a.tree a.stands.valid a.stands.here q

      pub plain_done : eqb k 11 && eqb d 3 ≡ false → (k ≡ 12 → ⊥) → {end : ℕ} → SkipOf w at 1 end
          → {v : List ℕ} {r : ℕ} → PutDone w v at end top r
          → NewDone w v at top (condition.Expr r)
      plain_done h m z {v} {r} p =
          done v (condition.Expr r) p.frame
          (subst (λ (c : Pass.Condition). Answer v top c (condition.Expr r)) (sym (of_plain found h m unknown)) (
            ap condition.Expr (omega (arith, p.ends, ends z)),
            put_at (rose_e a.tree) (ends z) p a.stands.here,
          ))

      -- ---- And and Or

      pub logic_ask : k ≡ 12 → LogicAsk w at first top (eqb d 1)
      logic_ask h =
          of_logic (λ e. Placed w at first top e → LogicAsk w at first top (eqb d 1)) found h
          (λ l y z j s. record {
            left = y;
            other = z;
            placed = subst (λ (g : Logic). Placed w at first top (logic g y z))
                (sym (ap (λ (i : ℕ). logic_by (eqb i 1)) j ∙ logic_by_lem l)) s;
          })
          placed

      pub logic_done : k ≡ 12 → {v : List ℕ} {r : Condition} → LogicDone w v at top (eqb d 1) r
          → NewDone w v at top r
      logic_done h {v} {r} g =
          done v r g.frame
          (of_logic (λ e. Placed w at first top e → truth_of e ≡ truth.Unknown → Answer v top (new_bool e) r) found h
          (λ l y z j s u.
          let same = ap (λ (i : ℕ). logic_by (eqb i 1)) j ∙ logic_by_lem l in
          let stands = subst (λ (m : Logic). ExprAt w at (logic m y z)) (sym same) s.stands in
          subst (λ (c : Pass.Condition). Answer v top c r) (sym (logic_made_lem l y z u))
          (subst (λ (m : Logic). Answer v top (logic_condition m (new_bool y) (new_bool z)) r) same
          (g.right y z stands (omega (arith, s.below, s.room)))))
          placed unknown)

      -- ---- Not

      module _ (is_operator : k ≡ 11) (is_not : d ≡ 3) {v : List ℕ} {body : ℕ} (p : PutDone w v at first top body) where
        h : eqb k 11 && eqb d 3 ≡ true
        h = simp (eq-eqb k 11 is_operator, eq-eqb d 3 is_not)

        part : (y : Expr) → Placed w at first top (Tree.not y) → ExprAt v first y
        part y s =
            let f : first ≡ at + 1 = s.parts in
            record {
              valid = not_part y s.stands.valid;
              here = same_at (rose_e y) first (omega (arith, f, s.below)) p.frame
                  (subst (λ (i : ℕ). At w i (rose_e y)) (sym f) s.stands.here.1.0);
            }

        pub not_ask : NewAsk v first body
        not_ask =
            of_not (λ e. Placed w at first top e → NewAsk v first body) found h
            (λ y s. record {
              tree = y;
              stands = part y s;
              below = omega (arith, s.parts, s.below, p.ends);
              room = omega (arith, s.room, s.parts, p.ends, p.long);
            })
            placed

        module _ {u : List ℕ} where
          framed : Same body v u → Same top w u
          framed s = same_trans p.frame (same_less top (omega (arith, p.ends)) s)

          by_part : (r s : Condition) → NewDone v u first body r
              → ((y : Expr) → Placed w at first top (Tree.not y) → Answer u body (new_bool y) r
              → Answer u top (not_condition (new_bool y)) s)
              → NewDone w u at top s
          by_part r s g f =
              done u s (framed g.frame)
              (of_not (λ e. Placed w at first top e → truth_of e ≡ truth.Unknown → Answer u top (new_bool e) s) found
              h
              (λ y z m. subst (λ (c : Pass.Condition). Answer u top c s) (sym (not_made_lem y m))
              (f y z (g.right y (part y z))))
              placed unknown)

          pub not_const : {b : Bool} → NewDone v u first body (condition.Const b)
              → NewDone w u at top (condition.Const (not b))
          unfolding not_condition
          not_const {b} g =
              by_part (condition.Const b) (condition.Const (not b)) g
              (λ y s z. subst (λ (c : Pass.Condition). Answer u top (not_condition c) (condition.Const (not b)))
              (sym (const_case u body b (new_bool y) z)) refl)

          pub not_expr_lem : {last : ℕ} → NewDone v u first body (condition.Expr last)
              → NewDone w u at top (condition.Expr last)
          unfolding not_condition
          not_expr_lem {last} g =
              by_part (condition.Expr last) (condition.Expr last) g
              (λ y s z.
              let c = expr_case u body last (new_bool y) z in
              let e : body ≡ top + 1 = omega (arith, p.ends, s.parts) in
              subst (λ (c : Pass.Condition). Answer u top (not_condition c) (condition.Expr last)) (sym c.is) (
                ap condition.Expr (omega (arith, c.ends, e)),
                (
                  own_moved (header 11 3 ∷ []) s.parts p g.frame s.stands.here.0,
                  (subst (λ (i : ℕ). At u i (rose_e c.expr)) e c.here, tt),
                ),
              ))

-- ---- what the check applies

pub ruleset steps = (own_put, ask_some, placed, past, logic_ask, not_ask)
