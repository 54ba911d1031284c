-- `logical_bin_op` step by step: And and Or, part by part.
-- Assumes nothing.
use mathlib.Core.Bool.{Bool, true, false, cond, beq}
use mathlib.Core.List.{List, [], ◌∷◌}
use mathlib.Core.Path.{◌≡◌, refl, sym, subst, ◌∙◌}
use Prim.Native.Nat.{ℕ, ◌+◌, ◌≤◌, ◌<◌}
use native.Mathlib.Omega.{arith}
use lib.ListN.{length}
use Rattle.spec.specs.Rose.{nil, cons, size, At}
use Rattle.spec.specs.Grammar.{header}
use Rattle.spec.specs.Tree.{Logic, Expr, logic, rose_e, logic_detail}
use Rattle.spec.specs.Proper.{ValidExpr}
use Rattle.spec.specs.Pass.{const_condition, logic_condition, new_bool}
use Rattle.spec.specs.Pass as Pass
use Rattle.spec.specs.Weight.{weight_e}
use Rattle.spec.proofs.Passed.{new_valid}
use Rattle.spec.proofs.Trees.{expr_unique}
use Rattle.spec.proofs.Weights.{expr_weight, some_weight, new_expr_weight}
use Rattle.ir.specs.Standing.{SomeExprs, SkipOf}
use Rattle.buffer.specs.Copy.{Same, PutDone}
use Rattle.buffer.proofs.Frames.{same_trans, same_less, same_at}
use Rattle.expr_bool.specs.Asked.{Answer, ExprAt, NewAsk, NewDone, logic_by}
use Rattle.expr_bool.specs.Asked.{LogicAsk, LogicDone, Joined, JoinAsk, JoinDone}
use Rattle.expr_bool.specs.declared.Condition.{Condition}
use Rattle.expr_bool.specs.declared.Condition.TheVariants as condition
use Rattle.expr_bool.proofs.Shapes.{decides_by}
use Rattle.expr_bool.proofs.Parts.{left_part, right_part}
use Rattle.expr_bool.proofs.Answers.{Left, const_case, expr_case, own_moved}

-- parts of equal nodes are equal
logic_parts : (l : Logic) (x y z t : Expr) → logic l x y ≡ logic l z t → (x ≡ z) × (y ≡ t)
logic_parts l x y z t e = (cc, cc)

module _ {w : List ℕ} {at first top : ℕ} {o : Bool} (a : LogicAsk w at first top o) where
  left_valid : ValidExpr a.left
  left_valid = left_part (logic_by o) a.left a.other a.placed.stands.valid

  right_valid : ValidExpr a.other
  right_valid = right_part (logic_by o) a.left a.other a.placed.stands.valid

  begins : first ≡ at + 1
  begins = a.placed.parts

  fits : at + (1 + (size (rose_e a.left) + (size (rose_e a.other) + 0))) ≤ top
  fits = a.placed.below

  roomy : top + (2 + (weight_e a.left + (weight_e a.other + 0))) ≤ length w
  roomy = a.placed.room

  -- no other And or Or stands there
  finish : (v : List ℕ) (r : Condition) → Same top w v
      → Answer v top (logic_condition (logic_by o) (new_bool a.left) (new_bool a.other)) r
      → LogicDone w v at top o r
  finish v r s z = record {
    frame = s;
    right = λ x y t i.
        let l = logic_by o in
        let e = expr_unique w at (logic l a.left a.other) (logic l x y) a.placed.stands.valid t.valid
        a.placed.stands.here t.here (omega (arith, fits, roomy)) i in
        let p = logic_parts l a.left a.other x y e in
        subst (λ (f : Expr). Answer v top (logic_condition l (new_bool f) (new_bool y)) r) p.0
        (subst (λ (f : Expr). Answer v top (logic_condition l (new_bool a.left) (new_bool f)) r) p.1 z);
  }

  module _ {v : List ℕ} {body : ℕ} (p : PutDone w v at first top body) where
    behind : body ≡ top + 1
    behind = omega (arith, p.ends, begins)

    left_stands : ExprAt v first a.left
    left_stands = record {
      valid = left_valid;
      here = same_at (rose_e a.left) first (omega (arith, fits, begins)) p.frame
          (subst (λ (i : ℕ). At w i (rose_e a.left)) (sym begins) a.placed.stands.here.1.0);
    }

    pub skip_ask : SomeExprs v first 1
    skip_ask = record {
      trees = cons (rose_e a.left) nil;
      valid = (left_valid.1, tt);
      here = (left_stands.here, tt);
      many = refl;
      inside = omega (arith, fits, roomy, begins, p.long);
    }

    pub left_ask : NewAsk v first body
    left_ask = record {
      tree = a.left;
      stands = left_stands;
      below = omega (arith, fits, begins, behind);
      room = omega (arith, roomy, behind, p.long);
    }

    module _ {middle : ℕ} (q : SkipOf v first 1 middle) where
      between : middle ≡ first + size (rose_e a.left)
      between =
          let e = q.of (cons (rose_e a.left) nil) (left_valid.1, tt) (left_stands.here, tt) refl in
          omega (arith, e)

      -- each part is behind what came before
      pub forward : (at < first) × (at < middle) × (first ≤ length w) × (middle ≤ length w)
      forward = (
        omega (arith, begins),
        omega (arith, begins, between),
        omega (arith, begins, fits, roomy),
        omega (arith, begins, between, fits, roomy),
      )

      right_stands : (u : List ℕ) → Same body v u → ExprAt u middle a.other
      right_stands u s =
          let e : middle ≡ at + 1 + size (rose_e a.left) = omega (arith, between, begins) in
          let under : middle + size (rose_e a.other) ≤ top = omega (arith, e, fits) in
          record {
            valid = right_valid;
            here = same_at (rose_e a.other) middle (omega (arith, under, behind)) s
                (same_at (rose_e a.other) middle under p.frame
                (subst (λ (i : ℕ). At w i (rose_e a.other)) (sym e) a.placed.stands.here.1.1.0));
          }

      under : middle + size (rose_e a.other) ≤ top
      under = omega (arith, between, begins, fits)

      module _ {u : List ℕ} (lu : length u ≡ length v) where
        framed : Same body v u → Same top w u
        framed s = same_trans p.frame (same_less top (omega (arith, behind)) s)

        -- ---- the left side is a constant
        module _ {b : Bool} (g : NewDone v u first body (condition.Const b)) where
          by_left : (z : List ℕ) (r : Condition) (t : Bool) → beq b o ≡ t
              → Answer z top (cond t (const_condition b) (new_bool a.other)) r
              → Answer z top (logic_condition (logic_by o) (new_bool a.left) (new_bool a.other)) r
          unfolding logic_condition
          by_left z r t h m =
              subst (λ (c : Pass.Condition). Answer z top (logic_condition (logic_by o) c (new_bool a.other)) r)
              (sym (const_case u body b (new_bool a.left) (g.right a.left left_stands)))
              (subst (λ (t : Bool). Answer z top (cond t (const_condition b) (new_bool a.other)) r)
              (sym (decides_by o b ∙ h)) m)

          pub decisive : beq b o ≡ true → LogicDone w u at top o (condition.Const b)
          decisive h =
              finish u (condition.Const b) (framed g.frame) (by_left u (condition.Const b) true h refl)

          pub neutral_ask : NewAsk u middle top
          neutral_ask = record {
            tree = a.other;
            stands = right_stands u g.frame;
            below = under;
            room = omega (arith, roomy, lu, p.long);
          }

          pub neutral : beq b o ≡ false → {z : List ℕ} {r : Condition} → NewDone u z middle top r
              → LogicDone w z at top o r
          neutral h {z} {r} f =
              finish z r (same_trans (framed g.frame) f.frame)
              (by_left z r false h (f.right a.other (right_stands u g.frame)))

        -- ---- the left side is an expression
        module _ {end : ℕ} (g : NewDone v u first body (condition.Expr end)) where
          kept : Left u body end (new_bool a.left)
          kept = expr_case u body end (new_bool a.left) (g.right a.left left_stands)

          upto : (body ≤ end) × (end + weight_e a.other ≤ length u) × (end + 2 ≤ length u)
          upto =
              let m = new_expr_weight a.left kept.expr kept.is in
              let s = (expr_weight kept.expr).0 in
              let t = some_weight a.other in (
                omega (arith, kept.ends),
                omega (arith, kept.ends, m, s, roomy, behind, lu, p.long),
                omega (arith, kept.ends, m, s, t, roomy, behind, lu, p.long),
              )

          pub behind_ask : NewAsk u middle end
          behind_ask = record {
            tree = a.other;
            stands = right_stands u g.frame;
            below = omega (arith, under, behind, upto.0);
            room = upto.1;
          }

          module _ {z : List ℕ} (lz : length z ≡ length u) {right : Condition} (f : NewDone u z middle end right) where
            joined : Joined z top body end right o kept.expr (new_bool a.other)
            joined = record {
              side = record {
                stands = record {
                  valid = new_valid a.left kept.expr left_valid kept.is;
                  here = same_at (rose_e kept.expr) body (omega (arith, kept.ends)) f.frame kept.here;
                };
                head = behind;
                ends = kept.ends;
              };
              own = own_moved (header 12 (logic_detail (logic_by o)) ∷ []) begins p
                  (same_trans g.frame (same_less body upto.0 f.frame)) a.placed.stands.here.0;
              told = f.right a.other (right_stands u g.frame);
            }

            pub join_asks : JoinAsk z top body end right o
            join_asks = record {
              left = kept.expr;
              other = new_bool a.other;
              joined = joined;
              room = omega (arith, upto.2, lz);
            }

            pub joins : {m : List ℕ} {r : Condition} → JoinDone z m top body end right o r → LogicDone w m at top o r
            joins {m} {r} d =
                finish m r
                (same_trans (same_trans (framed g.frame)
                (same_less top (omega (arith, behind, upto.0)) f.frame)) d.frame)
                (subst (λ (c : Pass.Condition). Answer m top (logic_condition (logic_by o) c (new_bool a.other)) r)
                (sym kept.is) (d.right kept.expr (new_bool a.other) joined))
