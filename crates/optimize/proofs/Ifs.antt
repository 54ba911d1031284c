-- `optimize_if` step by step: its own word at top, and the condition behind it. InPlace.antt has the arms behind a
-- condition that stays; here any other has a slot, the arms are behind that, and what `if_expr` makes of them above is
-- moved down to top.
-- Assumes nothing.
use mathlib.Core.List.{List}
use mathlib.Core.Logic.{inl}
use mathlib.Core.Path.{◌≡◌, sym, subst}
use Prim.Native.Nat.{ℕ, ◌+◌, ◌-◌, ◌≤◌, ◌<◌}
use native.Mathlib.Omega.{arith}
use lib.ListN.{length}
use Rattle.spec.specs.Rose.{Rose, size, At}
use Rattle.spec.specs.Tree.{Expr, no_exprs, more_exprs, if_then, rose_e}
use Rattle.spec.specs.Proper.{ValidExpr}
use Rattle.spec.specs.Pass.{optimize_expr, if_expr}
use Rattle.spec.specs.Foldable.{foldable}
use Rattle.spec.specs.Weight.{weight_e, expr_room}
use Rattle.spec.proofs.Passed.{first_exprs, two_parts, valid_parts}
use Rattle.spec.proofs.Weights.{expr_weight, optimize_weight, if_weight}
use Rattle.buffer.specs.Copy.{PutAsk, PutDone}
use Rattle.buffer.proofs.Frames.{same_trans, same_less, same_at, put_at}
use Rattle.ir.specs.Standing.{SomeExpr}
use Rattle.ir.proofs.Forests.{own_some, size_parts}
use Rattle.walk.specs.Walked.{WeightOf}
use Rattle.expr_forms.specs.Made.{Is}
use Rattle.if_expr.specs.Arms.{Slotted}
use Rattle.if_expr.specs.Arms as If
use Rattle.expr_bool.specs.declared.Arms.{Arms}
use Rattle.if_expr.specs.declared.Arm.{Arm}
use Rattle.optimize.specs.Passed.{Ask, Done, IfBelow, IfAsk, IfDone}
use Rattle.optimize.specs.declared.Optimized.{Optimized}
use Rattle.spec.proofs.Counts.{expr_places}
use Rattle.optimize.proofs.Renewals.{passed_expr, places_expr}
use Rattle.optimize.proofs.Callers.{ExprPassed, expr_ask, expr_passed}

-- ---- the parts of an If

module _ (c t f : Expr) (v : ValidExpr (if_then c t f)) where
  test_valid : ValidExpr c
  test_valid = (first_exprs c (more_exprs t (more_exprs f no_exprs)) (valid_parts (if_then c t f) v)).0

  pub arms_valid : ValidExpr t × ValidExpr f
  arms_valid = two_parts t f (first_exprs c (more_exprs t (more_exprs f no_exprs)) (valid_parts (if_then c t f) v)).1

-- words passed are no more than the weight before
pub passed_words : (e : Expr) → size (rose_e (optimize_expr e)) ≤ weight_e e
passed_words e = omega (arith, (expr_weight (optimize_expr e)).0, optimize_weight e)

-- the two arms, one behind the other
abbrev arms : ℕ → ℕ → ℕ → Arms Arm
arms first second last = record {
  yes = record { at = first; end = second };
  no = record { at = second; end = last };
}

-- ---- its own word

-- an If that stands below top; one word of its room is taken, by its own word in front of top
pub record Held (w : List ℕ) (at first top : ℕ) : Type 0 where
  pub test : Expr
  pub yes : Expr
  pub no : Expr
  pub is : IfBelow w at top test yes no
  pub parts : first ≡ at + 1
  pub room : top + expr_room (weight_e (if_then test yes no)) ≤ length w + 1

module _ {w v : List ℕ} {at first top body : ℕ} (p : PutDone w v at first top body) where
  -- what stood below top stands there still
  pub below_body : (c t f : Expr) → IfBelow w at top c t f → IfBelow v at body c t f
  below_body c t f b = record {
    valid = b.valid;
    here = same_at (rose_e (if_then c t f)) at b.below p.frame b.here;
    below = omega (arith, b.below, p.ends);
  }

  pub held : IfAsk w at first top → Held v at first body
  held a = record {
    test = a.test;
    yes = a.yes;
    no = a.no;
    is = below_body a.test a.yes a.no a.is;
    parts = a.parts;
    room = omega (arith, a.parts, a.room, p.ends, p.long);
  }

-- ---- the condition

module _ {w : List ℕ} {at first top : ℕ} (a : Held w at first top) where
  -- an If that stands there, with what was asked of it
  module _ (c t f : Expr) (b : IfBelow w at top c t f) where
    test_here : At w first (rose_e c)
    test_here = subst (λ (i : ℕ). At w i (rose_e c)) (sym a.parts) b.here.1.0

    test_below : first + size (rose_e c) ≤ top
    test_below = omega (arith, a.parts, b.below)

  pub test_ask : Ask w first top
  test_ask =
      let v = a.is.valid in
      expr_ask a.test (test_valid a.test a.yes a.no v) (test_here a.test a.yes a.no a.is)
      (test_below a.test a.yes a.no a.is) (omega (arith, a.room))

  module _ {v : List ℕ} {o : Optimized} (d : Done w v first top o) where
    pub test_passed : (c t f : Expr) → IfBelow w at top c t f → ExprPassed v first top o c
    test_passed c t f b =
        expr_passed c (test_valid c t f b.valid) (test_here c t f b) (test_below c t f b) d

    mine : ExprPassed v first top o a.test
    mine = test_passed a.test a.yes a.no a.is

    pub test_sizes : (first < o.next) × (o.next ≤ length w)
    test_sizes =
        let r = rose_e a.test in
        let v = test_valid a.test a.yes a.no a.is.valid in (
          omega (arith, mine.from, own_some r v.1, size_parts r),
          omega (arith, mine.from, a.parts, a.is.below, a.room),
        )

    -- ---- the slot

    -- what is made of it is weighed
    pub test_some : length v ≡ length w → SomeExpr v top
    test_some e = record {
      tree = rose_e (optimize_expr a.test);
      valid = mine.is.valid.1;
      here = mine.is.here;
      inside = omega (arith, e, passed_words a.test, a.room);
    }

    module _ {past slot : ℕ} (weighed : WeightOf v top past slot) where
      -- the slot is of its weight, and there is room for it
      is_weight : (c t f : Expr) → IfBelow w at top c t f → slot ≡ weight_e (optimize_expr c)
      is_weight c t f b =
          let m = test_passed c t f b in
          (weighed.of (rose_e (optimize_expr c)) m.is.valid.1 m.is.here).1

      slot_light : slot ≤ weight_e a.test
      slot_light = omega (arith, is_weight a.test a.yes a.no a.is, optimize_weight a.test)

      pub slot_high : top + slot ≤ length w
      slot_high = omega (arith, slot_light, a.room)

      -- ---- the first arm

      module _ (c t f : Expr) (b : IfBelow w at top c t f) where
        yes_here : At v o.next (rose_e t)
        yes_here =
            let m = test_passed c t f b in
            same_at (rose_e t) o.next (omega (arith, m.from, a.parts, b.below)) d.frame
            (subst (λ (i : ℕ). At w i (rose_e t)) (omega (arith, m.from, a.parts)) b.here.1.1.0)

        yes_below : o.next + size (rose_e t) ≤ top + slot
        yes_below =
            let m = test_passed c t f b in
            omega (arith, m.from, a.parts, b.below)

      pub yes_ask : length v ≡ length w → Ask v o.next (top + slot)
      yes_ask e =
          expr_ask a.yes (arms_valid a.test a.yes a.no a.is.valid).0
          (yes_here a.test a.yes a.no a.is) (yes_below a.test a.yes a.no a.is)
          (omega (arith, e, slot_light, a.room))

      module _ {v₂ : List ℕ} {o₂ : Optimized} (d₂ : Done v v₂ o.next (top + slot) o₂) where
        yes_passed : (c t f : Expr) → IfBelow w at top c t f → ExprPassed v₂ o.next (top + slot) o₂ t
        yes_passed c t f b =
            expr_passed t (arms_valid c t f b.valid).0 (yes_here c t f b) (yes_below c t f b) d₂

        mine₂ : ExprPassed v₂ o.next (top + slot) o₂ a.yes
        mine₂ = yes_passed a.test a.yes a.no a.is

        pub yes_sizes : (o.next ≤ o₂.next) × (o₂.next ≤ length w)
        yes_sizes = (
          omega (arith, mine₂.from),
          omega (arith, mine.from, mine₂.from, a.parts, a.is.below, a.room),
        )

        -- ---- the second arm

        module _ (c t f : Expr) (b : IfBelow w at top c t f) where
          no_here : At v₂ o₂.next (rose_e f)
          no_here =
              let m = test_passed c t f b in
              let m₂ = yes_passed c t f b in
              let s = same_trans d.frame (same_less top (omega arith) d₂.frame) in
              same_at (rose_e f) o₂.next (omega (arith, m.from, m₂.from, a.parts, b.below)) s
              (subst (λ (i : ℕ). At w i (rose_e f)) (omega (arith, m.from, m₂.from, a.parts)) b.here.1.1.1.0)

          no_below : o₂.next + size (rose_e f) ≤ o₂.end
          no_below =
              let m = test_passed c t f b in
              let m₂ = yes_passed c t f b in
              omega (arith, m.from, m₂.from, m₂.is.ends, a.parts, b.below)

        pub no_ask : length v₂ ≡ length w → Ask v₂ o₂.next o₂.end
        no_ask e =
            expr_ask a.no (arms_valid a.test a.yes a.no a.is.valid).1
            (no_here a.test a.yes a.no a.is) (no_below a.test a.yes a.no a.is)
            (omega (arith, e, mine₂.is.ends, slot_light, passed_words a.yes, a.room))

        module _ {v₃ : List ℕ} {o₃ : Optimized} (d₃ : Done v₂ v₃ o₂.next o₂.end o₃) where
          no_passed : (c t f : Expr) → IfBelow w at top c t f → ExprPassed v₃ o₂.next o₂.end o₃ f
          no_passed c t f b =
              expr_passed f (arms_valid c t f b.valid).1 (no_here c t f b) (no_below c t f b) d₃

          mine₃ : ExprPassed v₃ o₂.next o₂.end o₃ a.no
          mine₃ = no_passed a.test a.yes a.no a.is

          -- the counts stay within the words
          pub counts : (o₂.foldable + o₃.foldable ≤ length w) × (o.foldable + (o₂.foldable + o₃.foldable) ≤ length w)
          counts = (
            omega (
              arith,
              mine₂.met,
              mine₃.met,
              expr_places a.yes,
              expr_places a.no,
              a.is.below,
              a.room,
            ),
            omega (
              arith,
              mine.met,
              mine₂.met,
              mine₃.met,
              expr_places a.test,
              expr_places a.yes,
              expr_places a.no,
              a.is.below,
              a.room,
            ),
          )

          -- ---- if_expr

          slotted : (c t f : Expr) → IfBelow w at top c t f
              → Slotted v₃ top (top + slot - top) (arms (top + slot) o₂.end o₃.end) o₃.end (optimize_expr c)
              (optimize_expr t) (optimize_expr f)
          slotted c t f b =
              let m = test_passed c t f b in
              let m₂ = yes_passed c t f b in
              let m₃ = no_passed c t f b in
              let heavy = is_weight c t f b in
              let words = (expr_weight (optimize_expr c)).0 in
              let low = same_trans d₂.frame (same_less (top + slot) (omega (arith, m₂.is.ends)) d₃.frame) in
              record {
                stands = record {
                  valid = m.is.valid;
                  here = same_at (rose_e (optimize_expr c)) top (omega (arith, words, heavy)) low m.is.here;
                };
                fits = omega (arith, heavy);
                armed = record {
                  yes_is = record {
                    valid = m₂.is.valid;
                    here = same_at (rose_e (optimize_expr t)) (top + slot) (omega (arith, m₂.is.ends)) d₃.frame
                        m₂.is.here;
                    ends = m₂.is.ends;
                  };
                  no_is = m₃.is;
                  yes_below = omega (arith, m₃.is.ends);
                  no_below = omega arith;
                };
                yes_above = omega arith;
                no_above = omega (arith, m₂.is.ends);
              }

          -- all that stands above top
          heights : (o₃.end + weight_e (if_then (optimize_expr a.test) (optimize_expr a.yes) (optimize_expr a.no))
              ≤ length w)
              × (top ≤ o₃.end)
          heights = (
            omega (
              arith,
              mine₂.is.ends,
              mine₃.is.ends,
              slot_light,
              passed_words a.yes,
              passed_words a.no,
              optimize_weight a.test,
              optimize_weight a.yes,
              optimize_weight a.no,
              a.room,
            ),
            omega (arith, mine₂.is.ends, mine₃.is.ends),
          )

          pub arms_ask : length v₃ ≡ length w
              → If.IfAsk v₃ top (top + slot - top) (arms (top + slot) o₂.end o₃.end) o₃.end
          arms_ask e = record {
            tree = optimize_expr a.test;
            yes_tree = optimize_expr a.yes;
            no_tree = optimize_expr a.no;
            slotted = slotted a.test a.yes a.no a.is;
            room = omega (arith, e, heights.0);
          }

          module _ {v₄ : List ℕ} {last : ℕ}
              (g : If.IfDone v₃ v₄ top (top + slot - top) (arms (top + slot) o₂.end o₃.end) o₃.end if_expr last) where
            made : (c t f : Expr) → IfBelow w at top c t f
                → Is v₄ o₃.end last (if_expr (optimize_expr c) (optimize_expr t) (optimize_expr f))
            made c t f b = g.right (optimize_expr c) (optimize_expr t) (optimize_expr f) (slotted c t f b)

            -- ---- moved down, over its own word

            module _ {w₀ : List ℕ} {top₀ : ℕ} (put : PutDone w₀ w at first top₀ top) where
              pub down_ask : length v₄ ≡ length w → PutAsk (length v₄) o₃.end last top₀
              down_ask e =
                  let c = optimize_expr a.test in
                  let t = optimize_expr a.yes in
                  let f = optimize_expr a.no in
                  let ends = (made a.test a.yes a.no a.is).ends in
                  let light : size (rose_e (if_expr c t f)) ≤ weight_e (if_then c t f) =
                  omega (arith, if_weight c t f, (expr_weight (if_expr c t f)).0) in
                  record {
                    order = omega arith;
                    apart = inl (omega (arith, heights.1, put.ends));
                    within = omega (arith, heights.0);
                    room = omega (arith, heights.0, heights.1, put.ends);
                  }

              pub if_done : {v₅ : List ℕ} {r : ℕ} → PutDone v₄ v₅ o₃.end last top₀ r
                  → IfDone w₀ v₅ at top₀
                  (record { next = o₃.next; end = r; foldable = o.foldable + (o₂.foldable + o₃.foldable) })
              unfolding optimize_expr foldable
              if_done {v₅} {r} p = record {
                frame =
                    let up : top₀ ≤ top = omega (arith, put.ends) in
                    let up₂ : top₀ ≤ top + slot = omega (arith, put.ends) in
                    let up₃ : top₀ ≤ o₂.end = omega (arith, mine₂.is.ends, put.ends) in
                    same_trans put.frame
                    (same_trans (same_less top₀ up d.frame)
                    (same_trans (same_less top₀ up₂ d₂.frame)
                    (same_trans (same_less top₀ up₃ d₃.frame)
                    (same_trans (same_less top₀ up g.kept.frame) p.frame))));
                right = λ c t f b₀.
                    let b = below_body put c t f b₀ in
                    let m = test_passed c t f b in
                    let m₂ = yes_passed c t f b in
                    let m₃ = no_passed c t f b in
                    let q = made c t f b in
                    let same = sym (passed_expr (if_then c t f) b.valid) in
                    let all = o.foldable + (o₂.foldable + o₃.foldable) in
                    let x = rose_e (if_expr (optimize_expr c) (optimize_expr t) (optimize_expr f)) in
                    record {
                      from = omega (arith, a.parts, m.from, m₂.from, m₃.from);
                      here = subst (At v₅ top₀) same (put_at x q.ends p q.here);
                      ends = subst (λ (y : Rose). r ≡ top₀ + size y) same (omega (arith, q.ends, p.ends));
                      met = subst (λ (i : ℕ). all ≡ i) (sym (places_expr (if_then c t f) b.valid))
                          (omega (arith, m.met, m₂.met, m₃.met));
                    };
              }

-- what the check applies in `optimize_if`: its condition can be asked for
pub condition_ask : {w v : List ℕ} {at first top body : ℕ} → PutDone w v at first top body → IfAsk w at first top
    → Ask v first body
condition_ask p a = test_ask (held p a)
