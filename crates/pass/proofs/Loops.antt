-- For: its own word, its target and what it loops over, and its list with a count word behind them.
-- Assumes nothing.
use mathlib.Core.List.{List, [], ◌∷◌}
use mathlib.Core.Path.{◌≡◌, refl, sym, subst, ◌∙◌}
use Prim.Native.Nat.{ℕ, ◌+◌, ◌*◌, ◌≤◌, ◌<◌, ◌^◌}
use native.Mathlib.Omega.{arith}
use lib.ListN.{length, get_or}
use Rattle.spec.specs.Rose.{size, At, Ats}
use Rattle.spec.specs.Tree.{Expr, Target, Stmts, for, rose_e, rose_t, rose_s, roses_s, rose_l}
use Rattle.spec.specs.Pass.{optimize_expr, optimize_target}
use Rattle.spec.specs.PassStmts.{optimize_stmt, optimize}
use Rattle.spec.specs.Foldable.{foldable_stmt, foldable_count}
use Rattle.spec.specs.Weight.{weight_e, weight_t, row_weight, row_words}
use Rattle.spec.proofs.Weights.{expr_weight, optimize_weight, target_weight, optimize_target_weight}
use Rattle.spec.proofs.Passed.{optimize_valid}
use Rattle.spec.proofs.Places.{agree_first, ats_move}
use Rattle.ir.specs.Written.{Written}
use Rattle.buffer.specs.Copy.{PutDone}
use Rattle.buffer.proofs.Frames.{same_trans, same_less, same_at}
use Rattle.runs.specs.Held.{Looped}
use Rattle.runs.specs.Held.{ForAsk as MakeAsk, ForDone as MakeDone}
use Rattle.runs.specs.declared.Run.{Run}
use Rattle.pass.specs.Pruned.{Made, PairBelow, PairAsk, PairMade, PairDone, StmtRoom, StmtDone}
use Rattle.pass.specs.Pruned.{ListBelow, ListDone, BodyAsk, BodyMade, BodyDone}
use Rattle.optimize.specs.declared.Optimized.{Optimized}
use Rattle.pass.specs.declared.Pair.{Pair}
use Rattle.pass.specs.declared.Pruned.{Pruned}
use Rattle.spec.proofs.Counts.{expr_places, target_places, list_places, row_counts}
use Rattle.pass.proofs.Singles.{stmt_every, list_only}
use Rattle.pass.proofs.Choices.{list_words}

-- ---- optimize_body

module _ {w : List ℕ} {at top : ℕ} (a : BodyAsk w at top) where
  list_below : ListBelow w at (top + 1) a.tree
  list_below = record { valid = a.is.valid; here = a.is.here; below = omega (arith, a.is.below) }

  module _ {v : List ℕ} {r : Pruned} (done : ListDone w v at (top + 1) r) (long : length v ≡ length w) where
    made : Made v at r (size (rose_l a.tree)) (optimize a.tree) (foldable_count a.tree)
    made = done.right a.tree list_below

    ends : r.run.end ≡ top + 1 + row_words (optimize a.tree)
    ends = omega (arith, made.holds.ends, done.begins)

    pub body_count : r.run.count < 2 ^ 32
    body_count =
        omega (
          arith,
          made.holds.counts,
          row_counts (optimize a.tree),
          list_words a.tree,
          a.room,
          a.short,
        )

    pub body_done : {u : List ℕ} {last : ℕ} → Written v u top (r.run.count ∷ []) last
        → BodyDone w u at top (record { next = r.next; end = r.run.end; foldable = r.foldable })
    body_done {u} {last} written =
        let ss = optimize a.tree in
        let rows : Ats u (top + 1) (roses_s ss) =
        ats_move (roses_s ss) made.holds.here (record {
          word = λ k h. written.above (top + 1 + k) (omega (arith, written.ends))
              ∙ sym (subst (λ (i : ℕ). get_or v (i + k) 0 ≡ get_or v (top + 1 + k) 0) (sym done.begins) refl);
        }) in
        record {
          frame = record { word = λ k h. written.below k h ∙ done.frame.word k (omega arith) };
          right = λ rs b.
              subst (BodyMade u at top (record { next = r.next; end = r.run.end; foldable = r.foldable }))
              (list_only (omega (arith, a.room)) a.is b)
              (record {
                from = made.from;
                here = ((written.here.0 ∙ made.holds.counts, tt), rows);
                ends = omega (arith, ends);
                met = made.met;
              });
        }

-- ---- optimize_for

module _ {w : List ℕ} {at top : ℕ} {t : Target} {e : Expr} {b : Stmts} (asked : StmtRoom w at top (for t e b)) where
  abbrev first : ℕ
  first = at + 1

  below : at + size (rose_s (for t e b)) ≤ top
  below = asked.is.below

  room : top + 7 * (2 + (weight_t t + (weight_e e + ((2 + row_weight b) + 0)))) ≤ length w
  room = omega (arith, asked.room)

  module _ {v : List ℕ} {body : ℕ} (put : PutDone w v at first top body) (long : length v ≡ length w) where
    body_is : body ≡ top + 1
    body_is = omega (arith, put.ends)

    pair_below : PairBelow v first body t e
    pair_below = record {
      target_valid = (asked.is.valid.0.0, asked.is.valid.1.2.0);
      value_valid = (asked.is.valid.0.1, asked.is.valid.1.2.1.0);
      target_here = same_at (rose_t t) first (omega (arith, below)) put.frame
          asked.is.here.1.0;
      value_here = same_at (rose_e e) (first + size (rose_t t)) (omega (arith, below)) put.frame
          asked.is.here.1.1.0;
      below = omega (arith, below, body_is);
    }

    pub for_pair : PairAsk v first body
    for_pair = record { target = t; value = e; are = pair_below; room = omega (arith, room, body_is) }

    module _ {u : List ℕ} {two : Pair} (pair : PairDone v u first body two)
        (long' : length u ≡ length v) where
      given : PairMade u first body two t e
      given = pair.right t e pair_below

      begin : two.next ≡ at + 1 + size (rose_t t) + size (rose_e e)
      begin = omega (arith, given.from)

      pub for_past : at < two.next
      for_past = omega (arith, begin)

      -- the pair is no longer than it is heavy
      fits : two.end ≤ top + 1 + weight_t t + weight_e e
      fits =
          omega (
            arith,
            given.parted,
            given.ends,
            body_is,
            expr_weight (optimize_expr e),
            optimize_weight e,
            target_weight (optimize_target t),
            optimize_target_weight t,
          )

      behind : top ≤ two.end
      behind = omega (arith, given.parted, given.ends, body_is)

      list_at : ListBelow u two.next two.end b
      list_at = record {
        valid = (asked.is.valid.0.2, asked.is.valid.1.2.1.1.0);
        here = same_at (rose_l b) two.next (omega (arith, begin, below))
            (same_trans put.frame (same_less top (omega (arith, body_is)) pair.frame))
            (subst (λ (i : ℕ). At w i (rose_l b)) (sym begin) asked.is.here.1.1.1.0);
        below = omega (arith, begin, below, behind);
      }

      pub for_body : BodyAsk u two.next two.end
      for_body = record {
        tree = b;
        is = list_at;
        room = omega (arith, room, fits);
        short = omega (arith, asked.short);
      }

      module _ {x : List ℕ} {rest : Optimized} (inner : BodyDone u x two.next two.end rest)
          (long'' : length x ≡ length u) where
        list : BodyMade x two.next two.end rest b
        list = inner.right b list_at

        looped : Looped x top two.over rest.end (optimize_target t) (optimize_expr e) (optimize b)
        looped =
            let kept = same_less two.over (omega (arith, given.ends)) inner.frame in
            let head : get_or x top 0 ≡ 38 =
            inner.frame.word top (omega (arith, given.parted, given.ends, body_is))
            ∙ pair.frame.word top (omega (arith, body_is))
            ∙ (agree_first (omega arith) put.moved ∙ asked.is.here.0.0) in
            record {
              valid = optimize_valid e pair_below.value_valid;
              here = (
                (head, tt),
                (
                  same_at (rose_t (optimize_target t)) (top + 1) (omega (arith, given.parted, body_is)) kept
                      (subst (λ (i : ℕ). At u i (rose_t (optimize_target t))) body_is given.target_here),
                  (
                    same_at (rose_e (optimize_expr e)) (top + 1 + size (rose_t (optimize_target t)))
                        (omega (arith, given.parted, given.ends, body_is)) inner.frame
                        (subst (λ (i : ℕ). At u i (rose_e (optimize_expr e))) (omega (arith, given.parted, body_is))
                        given.value_here),
                    (
                      subst (λ (i : ℕ). At x i (rose_l (optimize b)))
                          (omega (arith, given.parted, given.ends, body_is)) list.here,
                      tt,
                    ),
                  ),
                ),
              );
              over_is = omega (arith, given.parted, body_is);
              ends = omega (arith, list.ends, given.parted, given.ends, body_is);
            }

        pub for_ask : MakeAsk x top two.over rest.end
        for_ask = record {
          target = optimize_target t;
          tree = optimize_expr e;
          body = optimize b;
          looped = looped;
          inside = omega (arith, room, fits, list.ends, list_words b);
        }

        pub for_places : two.foldable + rest.foldable < 2 ^ 32
        for_places =
            omega (
              arith,
              given.met,
              list.met,
              target_places t,
              expr_places e,
              list_places b,
              below,
              room,
              asked.short,
            )

        pub for_done : {run : Run} → MakeDone x top two.over rest.end run
            → StmtDone w x at top (record { next = rest.next; run = run; foldable = two.foldable + rest.foldable })
        unfolding optimize_stmt optimize foldable_stmt foldable_count
        for_done made = record {
          frame = same_trans put.frame
              (same_trans (same_less top (omega (arith, body_is)) pair.frame)
              (same_less top behind inner.frame));
          begins = made.begins;
          right = stmt_every asked (record {
            from = omega (arith, list.from, begin);
            holds = made.right (optimize_target t) (optimize_expr e) (optimize b) looped;
            met = omega (arith, given.met, list.met);
          });
        }
