-- If whose condition stays, simplified: its own word, its condition and its lists, each behind the other; where both
-- lists are empty, the condition as a statement.
-- Assumes nothing.
use mathlib.Core.List.{List}
use mathlib.Core.Path.{◌≡◌, refl, sym, subst, ◌∙◌}
use Prim.Native.Nat.{ℕ, ◌+◌, ◌-◌, ◌*◌, ◌≤◌, ◌<◌, ◌^◌}
use native.Mathlib.Omega.{arith}
use lib.ListN.{length, get_or}
use Rattle.std.specs.Prelude.{Option, Some, None}
use Rattle.spec.specs.Rose.{size, At}
use Rattle.spec.specs.Tree.{Expr, Stmts, no_stmts, more_stmts, if_stmt, rose_e, rose_s, rose_l}
use Rattle.spec.specs.Pass.{optimize_expr}
use Rattle.spec.specs.PassStmts.{is_empty, is_exit, if_stays, expr_stmts, optimize_stmt, optimize}
use Rattle.spec.specs.Foldable.{foldable_stmt, foldable_count}
use Rattle.spec.specs.Weight.{weight_e, row_weight}
use Rattle.spec.proofs.Weights.{expr_weight, optimize_weight}
use Rattle.spec.proofs.Passed.{optimize_valid}
use Rattle.spec.proofs.Places.{agree_first}
use Rattle.spec.proofs.Counts.{expr_places, list_places, row_counts}
use Rattle.spec.specs.declared.Sort.TheVariants as sort
use Rattle.buffer.specs.Copy.{Same, PutDone}
use Rattle.buffer.proofs.Frames.{same_refl, same_trans, same_less, same_at}
use Rattle.expr_forms.specs.Made.{Is}
use Rattle.expr_forms.proofs.Moves.{is_same}
use Rattle.optimize.specs.Passed.{Ask, Done}
use Rattle.optimize.specs.declared.Optimized.{Optimized}
use Rattle.runs.specs.Held.{Holds, SingleDone}
use Rattle.runs.specs.declared.Run.{Run}
use Rattle.stmt.specs.Made.{Stayed}
use Rattle.in_place.specs.InPlace.{PlaceAsk, PlaceDone, SettleAsk, SettleDone}
use Rattle.pass.specs.Pruned.{ExprBelow, StmtRoom, StmtDone, SlottedAsk, Branched, CloseAsk, CloseDone}
use Rattle.pass.specs.Pruned.{ListBelow, BodyAsk, BodyMade, BodyDone}
use Rattle.pass.specs.declared.Pruned.{Pruned}
use Rattle.pass.proofs.Singles.{expr_below, ExprPassed, expr_passed, stmt_every}
use Rattle.pass.proofs.Choices.{list_words}

-- ---- close_if

module _ {w : List ℕ} {at lists end : ℕ} (a : CloseAsk w at lists end) where
  close_is : {c : Expr} {t f : Stmts} → Branched w at lists end c t f → Is w (at + 1) lists c
  close_is b = record { valid = b.valid; here = b.here.1.0; ends = b.parted }

  pub close_place : PlaceAsk w at lists
  close_place = record { tree = a.test; is = close_is a.branched; room = a.room; short = a.short }

  -- two words for both lists: they are empty
  pub close_empty : {v : List ℕ} {r : Run} → end - lists ≡ 2 → PlaceDone w v at lists r → CloseDone w v at lists end r
  unfolding if_stays is_empty
  close_empty {v} {r} is made = record { frame = made.frame; begins = made.begins; right = go }
    where
      go : (c : Expr) (t f : Stmts) → Branched w at lists end c t f → Holds v r (if_stays expr_stmts c t f)
      go c no_stmts no_stmts b = made.right c (close_is b)
      go c no_stmts (more_stmts s ss) b =
          absurd (omega (arith, row_counts (more_stmts s ss), b.parted, b.ends))
      go c (more_stmts s ss) f b =
          absurd (omega (arith, row_counts (more_stmts s ss), b.parted, b.ends))

  pub close_order : lists ≤ end
  close_order = omega (arith, a.branched.parted, a.branched.ends)

  pub close_kept : {r : Run} → (end - lists ≡ 2 → ⊥) → SingleDone at end r → CloseDone w w at lists end r
  unfolding if_stays is_empty is_exit
  close_kept {r} u one = record { frame = same_refl at w; begins = one.begins; right = go }
    where
      go : (c : Expr) (t f : Stmts) → Branched w at lists end c t f → Holds w r (if_stays expr_stmts c t f)
      go c no_stmts no_stmts b = absurd (u (omega (arith, b.parted, b.ends)))
      go c no_stmts (more_stmts s ss) b = one.right w (if_stmt c no_stmts (more_stmts s ss)) b.here b.ends refl
      go c (more_stmts s ss) f b = one.right w (if_stmt c (more_stmts s ss) f) b.here b.ends refl

-- ---- optimize_if

module _ {w : List ℕ} {at top : ℕ} {c : Expr} {t f : Stmts} (asked : StmtRoom w at top (if_stmt c t f)) where
  abbrev first : ℕ
  first = at + 1

  below : at + size (rose_s (if_stmt c t f)) ≤ top
  below = asked.is.below

  room : top + 7 * (2 + (weight_e c + ((2 + row_weight t) + ((2 + row_weight f) + 0)))) ≤ length w
  room = omega (arith, asked.room)

  module _ {v : List ℕ} {body : ℕ} (put : PutDone w v at first top body) (long : length v ≡ length w) where
    body_is : body ≡ top + 1
    body_is = omega (arith, put.ends)

    test_at : ExprBelow v first top c
    test_at = record {
      valid = (asked.is.valid.0.0, asked.is.valid.1.2.0);
      here = same_at (rose_e c) first (omega (arith, below)) put.frame asked.is.here.1.0;
      below = omega (arith, below);
    }

    pub branch_test : Ask v first body
    branch_test = record {
      sort = sort.Expr;
      tree = rose_e c;
      is = expr_below body (omega (arith, body_is)) test_at;
      room = omega (arith, room, body_is);
    }

    module _ {u : List ℕ} {o : Optimized} (done : Done v u first body o) (long' : length u ≡ length v)
      where
        given : ExprPassed u first body o c
        given =
            expr_passed c test_at.valid
            (done.right sort.Expr (rose_e c) (expr_below body (omega (arith, body_is)) test_at))

        begin : o.next ≡ at + 1 + size (rose_e c)
        begin = omega (arith, given.from)

        pub branch_past : at < o.next
        branch_past = omega (arith, begin)

        made : Is u body o.end (optimize_expr c)
        made = record { valid = optimize_valid c test_at.valid; here = given.here; ends = given.ends }

        pub branch_settle : SettleAsk u body o.end
        branch_settle = record {
          tree = optimize_expr c;
          is = made;
          room = omega (arith, given.ends, body_is, expr_weight (optimize_expr c), optimize_weight c, room);
        }

        module _ {x : List ℕ} {r : Option ℕ} (settled : SettleDone u x body o.end r) where
          kept : Same top w x
          kept =
              same_trans put.frame
              (same_trans (same_less top (omega (arith, body_is)) done.frame)
              (same_less top (omega (arith, body_is)) settled.frame))

          pub branch_slotted : {z : List ℕ} {r : Pruned} → StmtDone x z at top r → StmtDone w z at top r
          branch_slotted d = record {
            frame = same_trans kept d.frame;
            begins = d.begins;
            right = λ s b. d.right s (record {
              valid = b.valid;
              here = same_at (rose_s s) at b.below kept b.here;
              below = b.below;
            });
          }

        -- the condition is as it was, and goes to a slot
        pub branch_slot : {x : List ℕ} → SettleDone u x body o.end None → length x ≡ length u → SlottedAsk x at o top
        branch_slot {x} settled long'' = record {
          test = c;
          yes_list = t;
          no_list = f;
          slotted = record {
            asked = record {
              is = record {
                valid = asked.is.valid;
                here = same_at (rose_s (if_stmt c t f)) at below (kept settled) asked.is.here;
                below = below;
              };
              room = omega (arith, asked.room);
              short = omega (arith, asked.short);
            };
            from = begin;
            made = subst (λ (i : ℕ). Is x i o.end (optimize_expr c)) body_is
                (is_same settled.right (omega arith) made);
            met = given.met;
          };
        }

        -- the condition stays, simplified
        module _ {x : List ℕ} {lists : ℕ} (settled : SettleDone u x body o.end (Some lists))
            (long'' : length x ≡ length u) where
          left : Stayed x body lists (optimize_expr c)
          left = settled.right (optimize_expr c) made

          -- the condition is no longer than it is heavy
          fits : lists ≤ top + 1 + weight_e c
          fits = omega (arith, left.is.ends, body_is, expr_weight left.left, left.lighter, optimize_weight c)

          behind : top + 1 ≤ lists
          behind = omega (arith, left.is.ends, body_is)

          yes_at : ListBelow x o.next lists t
          yes_at = record {
            valid = (asked.is.valid.0.1, asked.is.valid.1.2.1.0);
            here = same_at (rose_l t) o.next (omega (arith, begin, below))
                (kept settled)
                (subst (λ (i : ℕ). At w i (rose_l t)) (sym begin) asked.is.here.1.1.0);
            below = omega (arith, begin, below, behind);
          }

          pub branch_yes : BodyAsk x o.next lists
          branch_yes = record {
            tree = t;
            is = yes_at;
            room = omega (arith, room, fits);
            short = omega (arith, asked.short);
          }

          module _ {y : List ℕ} {yes : Optimized} (arm : BodyDone x y o.next lists yes)
              (long''' : length y ≡ length x) where
            yes_made : BodyMade y o.next lists yes t
            yes_made = arm.right t yes_at

            begin' : yes.next ≡ at + 1 + size (rose_e c) + size (rose_l t)
            begin' = omega (arith, yes_made.from, begin)

            pub branch_past_yes : at < yes.next
            branch_past_yes = omega (arith, begin')

            no_at : ListBelow y yes.next yes.end f
            no_at = record {
              valid = (asked.is.valid.0.2, asked.is.valid.1.2.1.1.0);
              here = same_at (rose_l f) yes.next (omega (arith, begin', below))
                  (same_trans (kept settled) (same_less top (omega (arith, behind)) arm.frame))
                  (subst (λ (i : ℕ). At w i (rose_l f)) (sym begin') asked.is.here.1.1.1.0);
              below = omega (arith, begin', below, behind, yes_made.ends);
            }

            pub branch_no : BodyAsk y yes.next yes.end
            branch_no = record {
              tree = f;
              is = no_at;
              room = omega (arith, room, fits, yes_made.ends, list_words t);
              short = omega (arith, asked.short);
            }

            module _ {z : List ℕ} {no : Optimized} (other : BodyDone y z yes.next yes.end no)
                (long'''' : length z ≡ length y) where
              no_made : BodyMade z yes.next yes.end no f
              no_made = other.right f no_at

              branched : Branched z top lists no.end left.left (optimize t) (optimize f)
              branched =
                  let e = left.is.ends in
                  let l = yes_made.ends in
                  let head : get_or z top 0 ≡ 37 =
                  other.frame.word top (omega (arith, behind))
                  ∙ arm.frame.word top (omega (arith, behind))
                  ∙ settled.frame.word top (omega (arith, body_is))
                  ∙ done.frame.word top (omega (arith, body_is))
                  ∙ (agree_first (omega arith) put.moved ∙ asked.is.here.0.0) in
                  record {
                    valid = left.is.valid;
                    here = (
                      (head, tt),
                      (
                        same_at (rose_e left.left) (top + 1) (omega (arith, body_is))
                            (same_trans arm.frame (same_less lists (omega arith) other.frame))
                            (subst (λ (i : ℕ). At x i (rose_e left.left)) body_is left.is.here),
                        (
                          same_at (rose_l (optimize t)) (top + 1 + size (rose_e left.left))
                              (omega (arith, body_is)) other.frame
                              (subst (λ (i : ℕ). At y i (rose_l (optimize t))) (omega (arith, body_is))
                              yes_made.here),
                          (
                            subst (λ (i : ℕ). At z i (rose_l (optimize f))) (omega (arith, body_is))
                                no_made.here,
                            tt,
                          ),
                        ),
                      ),
                    );
                    parted = omega (arith, body_is);
                    ends = omega (arith, body_is, no_made.ends);
                  }

              pub branch_close : CloseAsk z top lists no.end
              branch_close = record {
                test = left.left;
                yes_list = optimize t;
                no_list = optimize f;
                branched = branched;
                room = omega (arith, room, left.lighter, optimize_weight c);
                short = omega (arith, asked.short);
              }

              pub branch_places : (yes.foldable + no.foldable < 2 ^ 32)
                  × (o.foldable + (yes.foldable + no.foldable) < 2 ^ 32)
              branch_places =
                  let q = expr_places c in
                  let r = list_places t in
                  let s = list_places f in
                  let i = given.met in
                  let j = yes_made.met in
                  let l = no_made.met in
                  let h = asked.short in
                  (omega (arith, below, room), omega (arith, below, room))

              pub branch_done : {q : List ℕ} {run : Run} → CloseDone z q top lists no.end run
                  → StmtDone w q at top (record {
                    next = no.next;
                    run = run;
                    foldable = o.foldable + (yes.foldable + no.foldable);
                  })
              unfolding optimize_stmt optimize foldable_stmt foldable_count
              branch_done {q} {run} closed = record {
                frame = same_trans (kept settled)
                    (same_trans (same_less top (omega (arith, behind)) arm.frame)
                    (same_trans (same_less top (omega (arith, behind, yes_made.ends)) other.frame)
                    closed.frame));
                begins = closed.begins;
                right = stmt_every asked (record {
                  from = omega (arith, no_made.from, begin');
                  holds = subst (Holds q run) (sym (left.so (optimize t) (optimize f)))
                      (closed.right left.left (optimize t) (optimize f) branched);
                  met = omega (arith, given.met, yes_made.met, no_made.met);
                });
              }

-- what the check applies in `optimize_if`
pub ruleset branches = (branch_test, branch_settle, branch_slot)
