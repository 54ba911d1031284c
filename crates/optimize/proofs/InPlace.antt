-- `optimize_if` where the condition stays: its own word stands at top and the condition behind it, the arms are made
-- behind that, and all is in its place.
-- Assumes nothing.
use mathlib.Core.Bool.{Bool, true}
use mathlib.Core.List.{List}
use mathlib.Core.Path.{◌≡◌, refl, ap, ap₂, sym, subst, ◌∙◌}
use Prim.Native.Nat.{ℕ, ◌+◌, ◌≤◌}
use native.Mathlib.Omega.{arith}
use lib.ListN.{length}
use Rattle.spec.specs.Rose.{Rose, Roses, nil, cons, size, sizes, At, Ats, own_of}
use Rattle.spec.specs.Tree.{Expr, if_then, rose_e}
use Rattle.spec.specs.Pass.{optimize_expr}
use Rattle.spec.specs.Foldable.{foldable}
use Rattle.spec.specs.declared.Sort.TheVariants as sort
use Rattle.spec.proofs.Meanings.{expr_again}
use Rattle.spec.proofs.Counts.{expr_places}
use Rattle.buffer.specs.Copy.{Same, PutDone}
use Rattle.buffer.proofs.Frames.{same_trans, same_less, same_at, same_ats}
use Rattle.purity.specs.Told.{BoolOf}
use Rattle.expr_bool.proofs.Answers.{own_moved}
use Rattle.optimize.specs.Passed.{passed_all, Done, AllBelow, PartsAsk, PartsDone, stays_if, IfBelow, IfDone}
use Rattle.optimize.specs.declared.Optimized.{Optimized}
use Rattle.optimize.proofs.Renewals.{passed_expr, places_expr}
use Rattle.optimize.proofs.Stays.{stays_if_lem}
use Rattle.optimize.proofs.Ifs.{arms_valid, passed_words, Held, below_body, test_passed}

-- the words of two arms
abbrev arms : Expr → Expr → Roses
arms t f = cons (rose_e t) (cons (rose_e f) nil)

-- what is made of two arms, which stood at `at`, stands from top on
record ArmsPassed (u : List ℕ) (at top : ℕ) (o : Optimized) (t f : Expr) : Type 0 where
  here : Ats u top (arms (optimize_expr t) (optimize_expr f))
  ends : o.end ≡ top + sizes (arms (optimize_expr t) (optimize_expr f))
  from : o.next ≡ at + sizes (arms t f)
  met : o.foldable ≡ foldable t + foldable f

module _ {w v : List ℕ} {at first top : ℕ} {o : Optimized} (a : Held w at first top)
    (d : Done w v first top o) where
  -- ---- the arms

  arms_below : (c t f : Expr) → IfBelow w at top c t f → AllBelow v o.next 2 o.end sort.Expr (arms t f)
  arms_below c t f b =
      let m = test_passed a d c t f b in
      let good = arms_valid c t f b.valid in
      record {
        part = refl;
        valid = (good.0.1, (good.1.1, tt));
        here = same_ats (arms t f) o.next (omega (arith, m.from, a.parts, b.below)) d.frame
            (subst (λ (i : ℕ). Ats w i (arms t f)) (omega (arith, m.from, a.parts)) b.here.1.1);
        many = refl;
        below = omega (arith, m.from, m.is.ends, a.parts, b.below);
      }

  pub arms_ask : length v ≡ length w → PartsAsk v o.next 2 o.end
  arms_ask e =
      let m = test_passed a d a.test a.yes a.no a.is in
      record {
        sort = sort.Expr;
        trees = arms a.yes a.no;
        are = arms_below a.test a.yes a.no a.is;
        room = omega (arith, e, m.is.ends, passed_words a.test, a.room);
      }

  module _ {u : List ℕ} {o₂ : Optimized} (g : PartsDone v u o.next 2 o.end o₂) where
    arms_passed : (c t f : Expr) → IfBelow w at top c t f → ArmsPassed u o.next o.end o₂ t f
    arms_passed c t f b =
        let (left, right) = arms_valid c t f b.valid in
        let p = g.right sort.Expr (arms t f) (arms_below c t f b) in
        let same : passed_all sort.Expr (arms t f) ≡ arms (optimize_expr t) (optimize_expr f) =
        ap₂ (λ (x y : Rose). cons x (cons y nil)) (passed_expr t left) (passed_expr f right) in
        record {
          here = subst (Ats u o.end) same p.here;
          ends = p.ends ∙ ap (λ (ps : Roses). o.end + sizes ps) same;
          from = p.from;
          met = omega (arith, p.met, places_expr t left, places_expr f right);
        }

    -- the count stays within the words
    pub count : o.foldable + o₂.foldable ≤ length w
    count =
        omega (
          arith,
          (test_passed a d a.test a.yes a.no a.is).met,
          (arms_passed a.test a.yes a.no a.is).met,
          expr_places a.test,
          expr_places a.yes,
          expr_places a.no,
          a.is.below,
          a.room,
        )

    -- ---- the If

    module _ {w₀ : List ℕ} {top₀ : ℕ} (put : PutDone w₀ w at first top₀ top) {b : Bool}
        (stays : BoolOf stays_if v top b) (yes : b ≡ true) where
      low : Same top w u
      low =
          let m = test_passed a d a.test a.yes a.no a.is in
          same_trans d.frame (same_less top (omega (arith, m.is.ends)) g.frame)

      -- the pass makes an If of what it makes of the parts
      same_if : (c t f : Expr) → IfBelow w at top c t f
          → optimize_expr (if_then c t f) ≡ if_then (optimize_expr c) (optimize_expr t) (optimize_expr f)
      unfolding optimize_expr
      same_if c t f b =
          let m = (test_passed a d c t f b).is in
          let told = stays.of (rose_e (optimize_expr c)) m.valid.1 m.here in
          stays_if_lem (optimize_expr c) (optimize_expr t) (optimize_expr f)
          (sym (sym yes ∙ told ∙ ap stays_if (expr_again (optimize_expr c) m.valid.0 m.valid.1)))

      if_here : (c t f : Expr) → IfBelow w₀ at top₀ c t f
          → At u top₀ (rose_e (if_then (optimize_expr c) (optimize_expr t) (optimize_expr f)))
      if_here c t f b₀ =
          let b = below_body put c t f b₀ in
          let m = (test_passed a d c t f b).is in
          let x = rose_e (optimize_expr c) in
          let e : top ≡ top₀ + 1 = omega (arith, a.parts, put.ends) in (
            own_moved (own_of (rose_e (if_then c t f))) a.parts put low b₀.here.0,
            (
              subst (λ (i : ℕ). At u i x) e (same_at x top (omega (arith, m.ends)) g.frame m.here),
              subst (λ (i : ℕ). Ats u i (arms (optimize_expr t) (optimize_expr f))) (omega (arith, e, m.ends))
                  (arms_passed c t f b).here,
            ),
          )

      pub stays_done : IfDone w₀ u at top₀
          (record { next = o₂.next; end = o₂.end; foldable = o.foldable + o₂.foldable })
      unfolding foldable
      stays_done = record {
        frame = same_trans put.frame (same_less top₀ (omega (arith, put.ends)) low);
        right = λ c t f b₀.
            let b = below_body put c t f b₀ in
            let m = test_passed a d c t f b in
            let q = arms_passed c t f b in
            let same = sym (passed_expr (if_then c t f) b.valid ∙ ap rose_e (same_if c t f b)) in
            record {
              from = omega (arith, a.parts, m.from, q.from);
              here = subst (At u top₀) same (if_here c t f b₀);
              ends = subst (λ (r : Rose). o₂.end ≡ top₀ + size r) same
                  (omega (arith, a.parts, put.ends, m.is.ends, q.ends));
              met = subst (λ (i : ℕ). o.foldable + o₂.foldable ≡ i) (sym (places_expr (if_then c t f) b.valid))
                  (omega (arith, m.met, q.met));
            };
      }
