-- `if_expr` and `if_left`: a constant picks an arm, Not swaps the arms, Seq goes on with its right part, behind its
-- left one where that is not pure, and any other condition makes an If.
-- Assumes nothing.
use mathlib.Core.Bool.{Bool, true, false, cond}
use mathlib.Core.List.{List, [], ◌∷◌}
use mathlib.Core.Path.{◌≡◌, refl, ap, sym, subst, ◌∙◌}
use Prim.Native.Nat.{ℕ, ◌+◌, ◌-◌, ◌≤◌, ◌<◌}
use native.Mathlib.Omega.{arith}
use lib.ListN.{length, get_or}
use Rattle.spec.specs.Rose.{size, At}
use Rattle.spec.specs.Grammar.{header}
use Rattle.spec.specs.Tree
use Rattle.spec.specs.Tree.{Expr, if_then, seq, rose_e}
use Rattle.spec.specs.Proper.{ValidExpr}
use Rattle.spec.specs.Verdict.{pure}
use Rattle.spec.specs.Pass.{const_condition, expr_condition, new_bool, seq_expr, if_left, if_step, if_expr}
use Rattle.spec.specs.Pass as Pass
use Rattle.spec.specs.Weight.{weight_e}
use Rattle.spec.proofs.Passed.{valid_parts, two_parts, new_valid, seq_node}
use Rattle.spec.proofs.Trees.{expr_unique}
use Rattle.spec.proofs.Unroll.{if_unrolled}
use Rattle.spec.proofs.Weights.{expr_weight, new_expr_weight}
use Rattle.ir.specs.Standing.{SomeExpr, SomeExprs, SkipOf}
use Rattle.ir.specs.Written.{Written}
use Rattle.ir.proofs.Forests.{some_one, skip_one}
use Rattle.purity.specs.Told.{IsPure, IsImpure}
use Rattle.purity.proofs.Exprs.{pure_here, impure_here}
use Rattle.buffer.specs.Copy.{Same, PutAsk, PutDone}
use Rattle.buffer.proofs.Frames.{same_refl, same_trans, same_less, same_at}
use Rattle.expr_forms.specs.Made.{Is}
use Rattle.expr_bool.specs.Asked.{ExprAt, SlotAsk, SlotDone, swapped}
use Rattle.expr_bool.specs.declared.Condition.{Condition}
use Rattle.expr_bool.specs.declared.Condition.TheVariants as condition
use Rattle.expr_bool.proofs.Parts.{not_part}
use Rattle.expr_bool.proofs.Answers.{Left, const_case, expr_case}
use Rattle.if_expr.specs.Arms.{TestAsk, TestDone, Armed, WriteAsk, WriteDone, Slotted, IfAsk, Beside, IfDone}
use Rattle.if_expr.specs.Arms.{LeftAsk}
use Rattle.expr_bool.specs.declared.Arms.{Arms}
use Rattle.if_expr.specs.declared.Arm.{Arm}
use Rattle.if_expr.specs.declared.Test.TheVariants as test
use Rattle.expr_forms.proofs.Moves.{is_same, is_beside, is_put, put_above, is_only}
use Rattle.if_expr.proofs.Tests.{NotIs, not_is_lem, SeqIs, seq_is_lem, stays_is}
use Rattle.if_expr.proofs.Writes.{written_same}

-- ---- the definition, by the condition

if_const : (c t f : Expr) (b : Bool) → new_bool c ≡ const_condition b → if_expr c t f ≡ cond b t f
unfolding if_step
if_const c t f b p = if_unrolled c t f ∙ ap (λ (s : Pass.Condition). if_step if_expr s t f) p

if_rest : (c t f x : Expr) → new_bool c ≡ expr_condition x → if_expr c t f ≡ if_left if_expr x t f
unfolding if_step
if_rest c t f x p = if_unrolled c t f ∙ ap (λ (s : Pass.Condition). if_step if_expr s t f) p

left_not : (x t f : Expr) → if_left if_expr (Tree.not x) t f ≡ if_expr x f t
unfolding if_left
left_not x t f = refl

left_seq : (p x t f : Expr) (b : Bool) → b ≡ pure p
    → if_left if_expr (seq p x) t f ≡ cond b (if_expr x t f) (seq p (if_expr x t f))
unfolding if_left seq_expr
left_seq p x t f b e = ap (λ (q : Bool). cond q (if_expr x t f) (seq p (if_expr x t f))) (sym e)

-- ---- arms

armed_same : {w v : List ℕ} {arms : Arms Arm} {top new : ℕ} {t f : Expr} → Same top w v → top ≤ new
    → Armed w arms top t f → Armed v arms new t f
armed_same s l a = record {
  yes_is = is_same s a.yes_below a.yes_is;
  no_is = is_same s a.no_below a.no_is;
  yes_below = omega (arith, a.yes_below);
  no_below = omega (arith, a.no_below);
}

armed_swapped : {w : List ℕ} {arms : Arms Arm} {top : ℕ} {t f : Expr} → Armed w arms top t f
    → Armed w (swapped arms) top f t
armed_swapped a = record {
  yes_is = a.no_is;
  no_is = a.yes_is;
  yes_below = a.no_below;
  no_below = a.yes_below;
}

-- ---- if_expr

module _ {w : List ℕ} {at cap : ℕ} {arms : Arms Arm} {top : ℕ} (a : IfAsk w at cap arms top) where
  -- the slot ends at or below top
  pub low : at + cap ≤ top
  low = omega (arith, a.slotted.yes_above, a.slotted.armed.yes_is.ends, a.slotted.armed.yes_below)

  long : top + 2 + weight_e a.tree + weight_e a.yes_tree + weight_e a.no_tree ≤ length w
  long = omega (arith, a.room)

  -- no other expressions stand there
  only : (c t f : Expr) → Slotted w at cap arms top c t f
      → (a.tree ≡ c) × (a.yes_tree ≡ t) × (a.no_tree ≡ f)
  only c t f s = (
    expr_unique w at a.tree c a.slotted.stands.valid s.stands.valid a.slotted.stands.here
        s.stands.here
        (omega (arith, (expr_weight a.tree).0, a.slotted.fits, low, long))
        (omega (arith, (expr_weight c).0, s.fits, low, long)),
    is_only a.slotted.armed.yes_is s.armed.yes_is (omega (arith, a.slotted.armed.yes_below, long)),
    is_only a.slotted.armed.no_is s.armed.no_is (omega (arith, a.slotted.armed.no_below, long)),
  )

  done : (make : Expr → Expr → Expr → Expr) {v : List ℕ} {r : ℕ} → Beside w v at cap top
      → Is v top r (make a.tree a.yes_tree a.no_tree) → IfDone w v at cap arms top make r
  done make {v} {r} b i = record {
    kept = b;
    right = λ c t f s.
        let o = only c t f s in
        let m = o.0 in
        let n = o.1 in
        let q = o.2 in
        let whole : make a.tree a.yes_tree a.no_tree ≡ make c t f = cc in
        subst (Is v top r) whole i;
  }

  pub slot_ask : SlotAsk w at cap top
  slot_ask = record {
    tree = a.tree;
    stands = a.slotted.stands;
    fits = a.slotted.fits;
    below = low;
    room = omega (arith, long);
  }

  module _ {v : List ℕ} (lv : length v ≡ length w) where
    kept_arms : {r : Condition} → SlotDone w v at cap top r → Armed v arms top a.yes_tree a.no_tree
    kept_arms d =
        let s = a.slotted in
        record {
          yes_is = is_beside (at + cap) top d.beside s.yes_above s.armed.yes_below s.armed.yes_is;
          no_is = is_beside (at + cap) top d.beside s.no_above s.armed.no_below s.armed.no_is;
          yes_below = s.armed.yes_below;
          no_below = s.armed.no_below;
        }

    -- a constant
    module _ {b : Bool} (d : SlotDone w v at cap top (condition.Const b)) where
      picked : (b : Bool)
          → Is v (cond b arms.yes arms.no).at (cond b arms.yes arms.no).end (cond b a.yes_tree a.no_tree)
          × ((cond b arms.yes arms.no).end ≤ top) × (size (rose_e (cond b a.yes_tree a.no_tree)) + top ≤ length w)
      picked true = (
        (kept_arms d).yes_is,
        a.slotted.armed.yes_below,
        omega (arith, (expr_weight a.yes_tree).0, long),
      )
      picked false =
          ((kept_arms d).no_is, a.slotted.armed.no_below, omega (arith, (expr_weight a.no_tree).0, long))

      module _ {arm : Arm} (e : arm ≡ cond b arms.yes arms.no) where
        arm_is : Is v arm.at arm.end (cond b a.yes_tree a.no_tree) × (arm.end ≤ top)
        arm_is =
            subst (λ (x : Arm). Is v x.at x.end (cond b a.yes_tree a.no_tree) × (x.end ≤ top)) (sym e)
            ((picked b).0, (picked b).1)

        pub arm_ask : PutAsk (length v) arm.at arm.end top
        arm_ask = put_above arm_is.0 arm_is.1 (omega (arith, (picked b).2, lv))

        pub arm_done : {u : List ℕ} {r : ℕ} → PutDone v u arm.at arm.end top r
            → IfDone w u at cap arms top if_expr r
        arm_done {u} {r} p =
            done if_expr
            (record {
              frame = same_trans d.frame (same_less at (omega (arith, low)) p.frame);
              beside = λ k l h. p.frame.word k h ∙ d.beside k l h;
            })
            (subst (Is u top r)
            (sym (if_const a.tree a.yes_tree a.no_tree b
            (const_case v at b (new_bool a.tree) (d.right a.tree a.slotted.stands))))
            (is_put p arm_is.0))

    -- an expression is left
    module _ {end : ℕ} (d : SlotDone w v at cap top (condition.Expr end)) where
      made : Left v at end (new_bool a.tree)
      made = expr_case v at end (new_bool a.tree) (d.right a.tree a.slotted.stands)

      lighter : weight_e made.expr ≤ weight_e a.tree
      lighter = new_expr_weight a.tree made.expr made.is

      left_slotted : Slotted v at cap arms top made.expr a.yes_tree a.no_tree
      left_slotted = record {
        stands = record {
          valid = new_valid a.tree made.expr a.slotted.stands.valid made.is;
          here = made.here;
        };
        fits = omega (arith, lighter, a.slotted.fits);
        armed = kept_arms d;
        yes_above = a.slotted.yes_above;
        no_above = a.slotted.no_above;
      }

      pub left_ask : LeftAsk v at end cap arms top
      left_ask = record {
        asked = record {
          tree = made.expr;
          yes_tree = a.yes_tree;
          no_tree = a.no_tree;
          slotted = left_slotted;
          room = omega (arith, lighter, long, lv);
        };
        ends = made.ends;
      }

      pub left_done : {u : List ℕ} {r : ℕ} → IfDone v u at cap arms top (if_left if_expr) r
          → IfDone w u at cap arms top if_expr r
      left_done {u} {r} g =
          done if_expr
          (record {
            frame = same_trans d.frame g.kept.frame;
            beside = λ k l h. g.kept.beside k l h ∙ d.beside k l h;
          })
          (subst (Is u top r) (sym (if_rest a.tree a.yes_tree a.no_tree made.expr made.is))
          (g.right made.expr a.yes_tree a.no_tree left_slotted))

-- ---- if_left

module _ {w : List ℕ} {at end cap : ℕ} {arms : Arms Arm} {top : ℕ} (b : LeftAsk w at end cap arms top) where
  abbrev a : IfAsk w at cap arms top
  a = b.asked

  stands : ExprAt w at a.tree
  stands = a.slotted.stands

  inside : at + size (rose_e a.tree) ≤ length w
  inside = omega (arith, (expr_weight a.tree).0, a.slotted.fits, low a, long a)

  pub test_ask : TestAsk w at
  test_ask = record { tree = a.tree; stands = stands; inside = inside }

  -- Not
  module _ {part : ℕ} (q : TestDone w at (test.Not part)) where
    n : NotIs at a.tree part
    n = not_is_lem (q.right a.tree stands)

    inner_stands : ExprAt w at (Tree.not n.inner)
    inner_stands = subst (ExprAt w at) n.is stands

    inner_weight : weight_e a.tree ≡ 2 + weight_e n.inner
    inner_weight = omega (arith, ap weight_e n.is)

    pub not_past : (at < part) × (part ≤ at + cap)
    not_past = (omega (arith, n.place), omega (arith, n.place, inner_weight, a.slotted.fits))

    inner_slotted : Slotted w part (cap - (part - at)) (swapped arms) top n.inner a.no_tree a.yes_tree
    inner_slotted = record {
      stands = record {
        valid = not_part n.inner inner_stands.valid;
        here = subst (λ (i : ℕ). At w i (rose_e n.inner)) (sym n.place) inner_stands.here.1.0;
      };
      fits = omega (arith, n.place, inner_weight, a.slotted.fits);
      armed = armed_swapped a.slotted.armed;
      yes_above = omega (arith, not_past, a.slotted.no_above);
      no_above = omega (arith, not_past, a.slotted.yes_above);
    }

    pub not_ask : IfAsk w part (cap - (part - at)) (swapped arms) top
    not_ask = record {
      tree = n.inner;
      yes_tree = a.no_tree;
      no_tree = a.yes_tree;
      slotted = inner_slotted;
      room = omega (arith, inner_weight, long a);
    }

    pub not_done : {u : List ℕ} {r : ℕ} → IfDone w u part (cap - (part - at)) (swapped arms) top if_expr r
        → IfDone w u at cap arms top (if_left if_expr) r
    not_done {u} {r} g =
        done a (if_left if_expr)
        (record {
          frame = same_less at (omega (arith, not_past.0)) g.kept.frame;
          beside = λ k l h. g.kept.beside k (omega (arith, not_past)) h;
        })
        (subst (λ (c : Expr). Is u top r (if_left if_expr c a.yes_tree a.no_tree)) (sym n.is)
        (subst (Is u top r) (sym (left_not n.inner a.yes_tree a.no_tree))
        (g.right n.inner a.no_tree a.yes_tree inner_slotted)))

  -- Seq
  module _ {first : ℕ} (q : TestDone w at (test.Seq first)) where
    s : SeqIs at a.tree first
    s = seq_is_lem (q.right a.tree stands)

    pair_stands : ExprAt w at (seq s.left s.other)
    pair_stands = subst (ExprAt w at) s.is stands

    pair_valid : ValidExpr s.left × ValidExpr s.other
    pair_valid = two_parts s.left s.other (valid_parts (seq s.left s.other) pair_stands.valid)

    pair_weight : weight_e a.tree ≡ 2 + weight_e s.left + weight_e s.other
    pair_weight = omega (arith, ap weight_e s.is)

    left_at : ExprAt w first s.left
    left_at = record {
      valid = pair_valid.0;
      here = subst (λ (i : ℕ). At w i (rose_e s.left)) (sym s.place) pair_stands.here.1.0;
    }

    pub first_some : SomeExpr w first
    first_some = record {
      tree = rose_e s.left;
      valid = pair_valid.0.1;
      here = left_at.here;
      inside = omega (arith, s.place, (expr_weight s.left).0, pair_weight, a.slotted.fits, low a, long a);
    }

    pub first_one : SomeExprs w first 1
    first_one = some_one first_some

    module _ {part : ℕ} (skipped : SkipOf w first 1 part) where
      part_is : part ≡ at + 1 + size (rose_e s.left)
      part_is = omega (arith, skip_one (rose_e s.left) pair_valid.0.1 left_at.here skipped, s.place)

      pub seq_past : (at < part) × (part ≤ at + cap)
      seq_past = (
        omega (arith, part_is),
        omega (arith, part_is, (expr_weight s.left).0, pair_weight, a.slotted.fits),
      )

      left_is : Is w first part s.left
      left_is = record { valid = pair_valid.0; here = left_at.here; ends = omega (arith, part_is, s.place) }

      -- the right part, where words above top were written: what is made of it goes to `new`, which is top or behind
      -- the left part
      module _ {v : List ℕ} (lv : length v ≡ length w) (kept : Same top w v) {new : ℕ}
          (between : (top ≤ new) × (new ≤ top + (part - at))) where
        other_slotted : Slotted v part (cap - (part - at)) arms new s.other a.yes_tree a.no_tree
        other_slotted =
            let e = (expr_weight s.left).0 in
            let f = (expr_weight s.other).0 in
            record {
              stands = record {
                valid = pair_valid.1;
                here = same_at (rose_e s.other) part
                    (omega (arith, part_is, e, f, pair_weight, a.slotted.fits, low a)) kept
                    (subst (λ (i : ℕ). At w i (rose_e s.other)) (sym part_is) pair_stands.here.1.1.0);
              };
              fits = omega (arith, part_is, e, pair_weight, a.slotted.fits);
              armed = armed_same kept between.0 a.slotted.armed;
              yes_above = omega (arith, seq_past, a.slotted.yes_above);
              no_above = omega (arith, seq_past, a.slotted.no_above);
            }

        other_ask : IfAsk v part (cap - (part - at)) arms new
        other_ask = record {
          tree = s.other;
          yes_tree = a.yes_tree;
          no_tree = a.no_tree;
          slotted = other_slotted;
          room = omega (arith, part_is, (expr_weight s.left).0, pair_weight, between, lv, long a);
        }

      -- what is made, by the purity of the left part
      seq_made_lem : {u : List ℕ} {r : ℕ} (t : Bool) → pure s.left ≡ t
          → Is u top r
          (cond t (if_expr s.other a.yes_tree a.no_tree)
          (seq s.left (if_expr s.other a.yes_tree a.no_tree)))
          → Is u top r (if_left if_expr a.tree a.yes_tree a.no_tree)
      seq_made_lem {u} {r} t e i =
          subst (λ (c : Expr). Is u top r (if_left if_expr c a.yes_tree a.no_tree)) (sym s.is)
          (subst (Is u top r)
          (sym (left_seq s.left s.other a.yes_tree a.no_tree t (sym e))) i)

      -- a pure left part is dropped
      here_too : (top ≤ top) × (top ≤ top + (part - at))
      here_too = (omega arith, omega arith)

      pub pure_ask : IfAsk w part (cap - (part - at)) arms top
      pure_ask = other_ask refl (same_refl top w) here_too

      pub pure_done : {next : ℕ} → IsPure w first next → {u : List ℕ} {r : ℕ}
          → IfDone w u part (cap - (part - at)) arms top if_expr r
          → IfDone w u at cap arms top (if_left if_expr) r
      pure_done o {u} {r} g =
          done a (if_left if_expr)
          (record {
            frame = same_less at (omega (arith, seq_past.0)) g.kept.frame;
            beside = λ k l h. g.kept.beside k (omega (arith, seq_past)) h;
          })
          (seq_made_lem true (pure_here s.left left_at.valid left_at.here o).0
          (g.right s.other a.yes_tree a.no_tree (other_slotted refl (same_refl top w) here_too)))

      -- any other is written first, behind Seq's header
      pub seq_room : top < length w
      seq_room = omega (arith, long a)

      module _ {v : List ℕ} {body : ℕ} (lv : length v ≡ length w) (h : Written w v top (header 13 0 ∷ []) body) where
        past : body ≡ top + 1
        past = h.ends

        below : part ≤ top
        below = omega (arith, seq_past.1, low a)

        moved_is : Is v first part s.left
        moved_is = is_same (written_same h) below left_is

        pub first_ask : PutAsk (length v) first part body
        first_ask =
            put_above moved_is (omega (arith, past, below))
            (omega (arith, past, (expr_weight s.left).0, pair_weight, lv, long a))

        module _ {u : List ℕ} {behind : ℕ} (d : PutDone v u first part body behind) where
          lu : length u ≡ length w
          lu = d.long ∙ lv

          su : Same top w u
          su = same_trans (written_same h) (same_less top (omega (arith, past)) d.frame)

          behind_is : behind ≡ top + 1 + size (rose_e s.left)
          behind_is = omega (arith, past, d.ends, left_is.ends)

          between : (top ≤ behind) × (behind ≤ top + (part - at))
          between = (omega (arith, behind_is), omega (arith, behind_is, part_is))

          pub behind_ask : IfAsk u part (cap - (part - at)) arms behind
          behind_ask = other_ask lu su between

          module _ {z : List ℕ} {r : ℕ} (g : IfDone u z part (cap - (part - at)) arms behind if_expr r) where
            written : Is z top r (seq s.left (if_expr s.other a.yes_tree a.no_tree))
            written =
                let x : Is z body behind s.left =
                is_beside (part + (cap - (part - at))) behind g.kept.beside
                (omega (arith, past, seq_past, low a)) (omega arith) (is_put d moved_is) in
                let y = g.right s.other a.yes_tree a.no_tree (other_slotted lu su between) in
                let head : get_or z top 0 ≡ 13 =
                g.kept.beside top (omega (arith, seq_past, low a)) (omega (arith, behind_is))
                ∙ d.frame.word top (omega (arith, past)) ∙ h.here.0 in
                record {
                  valid = seq_node s.left (if_expr s.other a.yes_tree a.no_tree) x.valid y.valid;
                  here = (
                    (head, tt),
                    (
                      subst (λ (i : ℕ). At z i (rose_e s.left)) past x.here,
                      (
                        subst (λ (i : ℕ). At z i (rose_e (if_expr s.other a.yes_tree a.no_tree))) behind_is
                            y.here,
                        tt,
                      ),
                    ),
                  );
                  ends = omega (arith, behind_is, y.ends);
                }

            pub behind_done : IsImpure w first → IfDone w z at cap arms top (if_left if_expr) r
            behind_done o =
                done a (if_left if_expr)
                (record {
                  frame = same_trans (same_less at (omega (arith, low a)) su)
                      (same_less at (omega (arith, seq_past.0)) g.kept.frame);
                  beside = λ k l m. g.kept.beside k (omega (arith, seq_past)) (omega (arith, between.0))
                      ∙ su.word k m;
                })
                (seq_made_lem false (impure_here s.left left_at.valid left_at.here o) written)

  -- any other condition
  condition_is_lem : Is w at end a.tree
  condition_is_lem = record { valid = stands.valid; here = stands.here; ends = b.ends }

  pub write_ask : WriteAsk w at end arms top
  write_ask =
      let e = (expr_weight a.tree).0 in
      record {
        tree = a.tree;
        yes_tree = a.yes_tree;
        no_tree = a.no_tree;
        is = condition_is_lem;
        armed = a.slotted.armed;
        below = omega (arith, b.ends, e, a.slotted.fits, low a);
        room = omega (arith, (expr_weight (if_then a.tree a.yes_tree a.no_tree)).0, a.room);
      }

  pub write_done : TestDone w at test.Stays → {u : List ℕ} {r : ℕ} → WriteDone w u at end arms top r
      → IfDone w u at cap arms top (if_left if_expr) r
  write_done q {u} {r} g =
      done a (if_left if_expr)
      (record {
        frame = same_less at (omega (arith, low a)) g.frame;
        beside = λ k l h. g.frame.word k h;
      })
      (subst (Is u top r) (sym (stays_is (q.right a.tree stands) if_expr a.yes_tree a.no_tree))
      (g.right a.tree a.yes_tree a.no_tree condition_is_lem a.slotted.armed))
