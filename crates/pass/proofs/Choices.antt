-- If whose condition goes to a slot: the runs of its arms behind it, and what is made of them moved down.
-- Assumes nothing.
use mathlib.Core.List.{List}
use mathlib.Core.Logic.{inl}
use mathlib.Core.Path.{◌≡◌, sym, subst}
use Prim.Native.Nat.{ℕ, ◌+◌, ◌-◌, ◌*◌, ◌≤◌, ◌<◌, ◌^◌}
use native.Mathlib.Omega.{arith}
use lib.ListN.{length}
use Rattle.spec.specs.Rose.{size, At}
use Rattle.spec.specs.Tree.{Expr, Stmts, no_stmts, if_stmt, rose_e, rose_s, rose_l}
use Rattle.spec.specs.Pass.{optimize_expr}
use Rattle.spec.specs.PassStmts.{if_stmts, optimize_stmt, optimize}
use Rattle.spec.specs.Foldable.{foldable_stmt, foldable_count}
use Rattle.spec.specs.Weight.{weight_e, row_weight, row_words}
use Rattle.spec.proofs.Weights.{expr_weight, optimize_weight}
use Rattle.spec.proofs.Rows.{behind_words, if_words}
use Rattle.buffer.specs.Copy.{PutAsk}
use Rattle.buffer.proofs.Frames.{same_trans, same_less, same_at}
use Rattle.runs.specs.Held.{Holds, Within, PlaceDone}
use Rattle.runs.specs.declared.Run.{Run}
use Rattle.stmt.specs.Made.{ArmsHold}
use Rattle.stmt.specs.Made.{IfAsk as MakeAsk, IfDone as MakeDone}
use Rattle.optimize.specs.declared.Optimized.{Optimized}
use Rattle.in_place.specs.InPlace.{LiftAsk, Lifted, LiftDone}
use Rattle.pass.specs.Pruned.{Made, StmtDone, Slotted}
use Rattle.pass.specs.Pruned.{ListBelow, ListAsk, ListDone}
use Rattle.pass.specs.declared.Pruned.{Pruned}
use Rattle.spec.proofs.Counts.{expr_places, expr_nodes, list_places}
use Rattle.runs.proofs.Holding.{holds_same}
use Rattle.pass.proofs.Singles.{stmt_every}

-- an optimized list has at most one and a half times its weight in words
pub list_words : (ss : Stmts) → 2 * row_words (optimize ss) ≤ 3 * row_weight ss
unfolding optimize
list_words ss = omega (arith, behind_words ss no_stmts)

module _ {w : List ℕ} {at : ℕ} {o : Optimized} {top : ℕ} {c : Expr} {t f : Stmts} (a : Slotted w at o top c t f) where
  below : at + size (rose_s (if_stmt c t f)) ≤ top
  below = a.asked.is.below

  room : top + 7 * (2 + (weight_e c + ((2 + row_weight t) + ((2 + row_weight f) + 0)))) ≤ length w
  room = omega (arith, a.asked.room)

  pub if_lift : LiftAsk w top o.end
  if_lift = record {
    tree = optimize_expr c;
    is = a.made;
    room = omega (arith, (expr_weight (optimize_expr c)).0, optimize_weight c, room);
  }

  module _ {v : List ℕ} {high : ℕ} (lifted : LiftDone w v top o.end high) (long : length v ≡ length w) where
    given : Lifted v top o.end high (optimize_expr c)
    given = lifted.right (optimize_expr c) a.made

    slot : (top ≤ high) × (high ≤ top + weight_e c)
    slot = (omega (arith, given.exact), omega (arith, given.exact, optimize_weight c))

    begin : o.next ≡ at + 1 + size (rose_e c)
    begin = a.from

    yes_below : ListBelow v o.next high t
    yes_below = record {
      valid = (a.asked.is.valid.0.1, a.asked.is.valid.1.2.1.0);
      here = same_at (rose_l t) o.next (omega (arith, begin, below)) lifted.frame
          (subst (λ (i : ℕ). At w i (rose_l t)) (sym begin) a.asked.is.here.1.1.0);
      below = omega (arith, begin, below, slot.0, slot.1);
    }

    pub if_yes : ListAsk v o.next high
    if_yes = record {
      tree = t;
      is = yes_below;
      room = omega (arith, room, slot.0, slot.1);
      short = omega (arith, a.asked.short);
    }

    module _ {u : List ℕ} {yes : Pruned} (arm : ListDone v u o.next high yes) (long' : length u ≡ length v) where
      yes_made : Made u o.next yes (size (rose_l t)) (optimize t) (foldable_count t)
      yes_made = arm.right t yes_below

      yes_end : yes.run.end ≡ high + row_words (optimize t)
      yes_end = omega (arith, yes_made.holds.ends, arm.begins)

      begin' : yes.next ≡ at + 1 + size (rose_e c) + size (rose_l t)
      begin' = omega (arith, yes_made.from, begin)

      pub if_past_yes : at < yes.next
      if_past_yes = omega (arith, begin')

      no_below : ListBelow u yes.next yes.run.end f
      no_below = record {
        valid = (a.asked.is.valid.0.2, a.asked.is.valid.1.2.1.1.0);
        here = same_at (rose_l f) yes.next (omega (arith, begin', below))
            (same_trans lifted.frame (same_less top slot.0 arm.frame))
            (subst (λ (i : ℕ). At w i (rose_l f)) (sym begin') a.asked.is.here.1.1.1.0);
        below = omega (arith, begin', below, slot.0, slot.1, yes_end);
      }

      pub if_no : ListAsk u yes.next yes.run.end
      if_no = record {
        tree = f;
        is = no_below;
        room = omega (arith, room, slot.0, slot.1, yes_end, list_words t);
        short = omega (arith, a.asked.short);
      }

      module _ {x : List ℕ} {no : Pruned} (other : ListDone u x yes.next yes.run.end no)
          (long'' : length x ≡ length u) where
        no_made : Made x yes.next no (size (rose_l f)) (optimize f) (foldable_count f)
        no_made = other.right f no_below

        no_end : no.run.end ≡ yes.run.end + row_words (optimize f)
        no_end = omega (arith, no_made.holds.ends, other.begins)

        both_arms : ArmsHold x high (record { yes = yes.run; no = no.run }) no.run.end (optimize t) (optimize f)
        both_arms = record {
          yes_holds = holds_same other.frame (omega arith) yes_made.holds;
          no_holds = no_made.holds;
          yes_above = omega (arith, arm.begins);
          no_above = omega (arith, other.begins, yes_end);
          yes_below = omega (arith, no_end);
          no_below = omega arith;
        }

        within : Within x top (high - (o.end - (top + 1))) high (optimize_expr c)
        within =
            let s = given.slot in
            record {
              stands = record {
                valid = s.is.valid;
                here = same_at (rose_e (optimize_expr c)) (high - (o.end - (top + 1))) (omega (arith, s.is.ends))
                    (same_trans arm.frame (same_less high (omega (arith, yes_end)) other.frame)) s.is.here;
              };
              order = s.order;
              inner = omega (arith, s.is.ends);
              fits = s.fits;
            }

        pub if_ask : MakeAsk x top (high - (o.end - (top + 1))) high (record { yes = yes.run; no = no.run })
            no.run.end (o.end - (top + 1))
        if_ask =
            let s = given.slot in
            record {
              tree = optimize_expr c;
              yes_list = optimize t;
              no_list = optimize f;
              within = within;
              held = both_arms;
              below = omega (arith, yes_end, no_end);
              room = omega (
                arith,
                room,
                slot.0,
                slot.1,
                yes_end,
                no_end,
                optimize_weight c,
                list_words t,
                list_words f,
              );
              few = omega (arith, a.made.ends, expr_nodes (optimize_expr c));
              short = omega (arith, a.asked.short);
            }

        pub if_places : (yes.foldable + no.foldable < 2 ^ 32) × (o.foldable + (yes.foldable + no.foldable) < 2 ^ 32)
        if_places =
            let p = expr_places c in
            let q = list_places t in
            let r = list_places f in
            let i = a.met in
            let j = yes_made.met in
            let k = no_made.met in
            let l = a.asked.short in
            (omega (arith, below, room), omega (arith, below, room))

        module _ {y : List ℕ} {run : Run}
            (made : MakeDone x y top (high - (o.end - (top + 1))) high (record { yes = yes.run; no = no.run })
            no.run.end run)
            (long''' : length y ≡ length x) where
          holds : Holds y run (if_stmts (optimize_expr c) (optimize t) (optimize f))
          holds = made.right (optimize_expr c) (optimize t) (optimize f) within both_arms

          pub if_down : PutAsk (length y) run.at run.end top
          if_down =
              let z = if_words (optimize_expr c) (optimize t) (optimize f) in
              let i = optimize_weight c in
              let j = list_words t in
              let k = list_words f in
              let l = room in
              let e = given.exact in
              let b = made.begins in
              let d = holds.ends in
              let g = yes_end in
              let h = no_end in
              record {
                order = omega arith;
                apart = inl (omega arith);
                within = omega arith;
                room = omega arith;
              }

          pub if_done : {z : List ℕ} {placed : Run} → PlaceDone y z run top placed
              → StmtDone w z at top (record {
                next = no.next;
                run = placed;
                foldable = o.foldable + (yes.foldable + no.foldable);
              })
          unfolding optimize_stmt optimize foldable_stmt foldable_count
          if_done {z} {placed} down = record {
            frame = same_trans lifted.frame
                (same_trans (same_less top slot.0 arm.frame)
                (same_trans (same_less top (omega (arith, slot.0, slot.1, yes_end)) other.frame)
                (same_trans made.kept.frame down.frame)));
            begins = down.begins;
            right = stmt_every a.asked (record {
              from = omega (arith, no_made.from, begin');
              holds = down.right (if_stmts (optimize_expr c) (optimize t) (optimize f)) holds;
              met = omega (arith, a.met, yes_made.met, no_made.met);
            });
          }

-- what the check applies in `slotted_if`
pub ruleset choices = (if_lift, if_yes, if_ask)
