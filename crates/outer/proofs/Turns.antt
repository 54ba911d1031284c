-- The outer list: the statements that are only read, what stands between two turns of the loop over the others, and
-- that behind its last turn the words are a rule and what was made is the pruned rule.
-- Assumes nothing.
use mathlib.Core.Bool.{true, false}
use mathlib.Core.List.{List, [], ◌∷◌}
use mathlib.Core.Path.{◌≡◌, refl, ap, sym, subst, ◌∙◌}
use Prim.Native.Nat.{ℕ, ◌+◌, ◌-◌, ◌*◌, ◌≤◌, ◌<◌, ◌^◌}
use native.Mathlib.Omega.{arith}
use lib.ListN.{length, get_or}
use Rattle.std.specs.Prelude.{Some}
use Rattle.spec.specs.Rose.{size, At, Ats}
use Rattle.spec.specs.Tree.{Stmts, no_stmts, count_s, roses_s, rose_l}
use Rattle.spec.specs.PassStmts.{one, is_terminal, join_stmts, optimize_behind, optimize}
use Rattle.spec.specs.Foldable.{foldable_behind, foldable_count}
use Rattle.spec.proofs.Places.{ats_move}
use Rattle.spec.proofs.Counts.{behind_places, row_counts}
use Rattle.spec.proofs.Rows.{behind_words}
use Rattle.spec.proofs.Weights.{rule_weight}
use Rattle.spec.proofs.PassedStmts.{list_valid}
use Rattle.buffer.specs.Copy.{Same}
use Rattle.buffer.proofs.Frames.{same_refl, same_trans}
use Rattle.ir.specs.Written.{Written}
use Rattle.runs.specs.Held.{EmptyDone}
use Rattle.runs.specs.declared.Run.{Run}
use Rattle.runs.proofs.Rows.{join_count}
use Rattle.pass.proofs.Rows.{behind_exit, places_exit, none_left}
use Rattle.outer.specs.Outer.{SomeTop, RestMade, OuterAsk, Begun, TopAsk, TopMade, TopDone}
use Rattle.outer.specs.Outer.{OuterMade}
use Rattle.pass.specs.declared.Pruned.{Pruned}
use Rattle.outer.proofs.Joins.{join_from, join_places, one_places, listed_none, listed_one, listed_join}
use Rattle.outer.proofs.Joins.{listed_same}

-- ---- statements that are only read

pub read_start : {w : List ℕ} {n at : ℕ} → RestMade w n at 0 at
read_start {w} {n} {at} = record { rest = no_stmts; listed = listed_none w at; inside = λ l. l; many = refl }

pub read_again : {w : List ℕ} {n at next end i : ℕ} → RestMade w n at i next → SomeTop w next end → end ≤ n
    → RestMade w n at (i + 1) end
unfolding one
read_again r top inside = record {
  rest = join_stmts r.rest (one top.tree);
  listed = listed_join r.listed (listed_one top.stands);
  inside = λ l. inside;
  many = omega (arith, r.many, join_count r.rest (one top.tree));
}

-- ---- statements that are pruned

-- i statements of the rule at the start of w were read, and the run holds what was made of them
pub record Turn (w : List ℕ) (n : ℕ) (v : List ℕ) (next : ℕ) (run : Run) (m i : ℕ) : Type 0 where
  pub asked : OuterAsk w n
  pub frame : Same (n + 1) w v
  pub long : length v ≡ length w
  pub done : Stmts
  pub begun : Begun v n next run done
  pub met : m ≡ foldable_behind done no_stmts
  pub many : i ≡ count_s done

-- and none of them exits
pub record Going (w : List ℕ) (n : ℕ) (v : List ℕ) (next : ℕ) (run : Run) (m i : ℕ) : Type 0 where
  pub turn : Turn w n v next run m i
  pub going : run.last ≡ false

-- so many are left, of which nothing is made
pub record Left (w : List ℕ) (n count : ℕ) (v : List ℕ) (next : ℕ) (run : Run) (m left : ℕ) : Type 0 where
  pub passed : ℕ
  pub turn : Turn w n v next run m passed
  pub all : passed + left ≡ count
  pub none : (rest : Stmts) → left ≡ count_s rest
      → (optimize_behind rest (optimize_behind turn.done no_stmts) ≡ optimize_behind turn.done no_stmts)
      × (foldable_behind rest (optimize_behind turn.done no_stmts) ≡ 0)

pub turn_start : {w : List ℕ} {n top : ℕ} {run : Run} → OuterAsk w n → top ≡ n + 1 → EmptyDone top run
    → Going w n w 1 run 0 0
unfolding optimize_behind foldable_behind is_terminal
turn_start {w} {n} a e empty = record {
  turn = record {
    asked = a;
    frame = same_refl (n + 1) w;
    long = refl;
    done = no_stmts;
    begun = record {
      listed = listed_none w 1;
      inside = a.some;
      begins = empty.begins ∙ e;
      holds = empty.right w;
    };
    met = refl;
    many = refl;
  };
  going = (empty.right w).exits;
}

module _ {w : List ℕ} {n : ℕ} {v : List ℕ} {next : ℕ} {run : Run} {m i : ℕ} (g : Going w n v next run m i) where
  t : Turn w n v next run m i
  t = g.turn

  pub turn_ask : TopAsk v n next run
  turn_ask = record {
    asked = record {
      some = t.asked.some;
      few = t.asked.few;
      exact = t.long ∙ t.asked.exact;
    };
    going = g.going;
    done = t.done;
    begun = t.begun;
  }

  -- all statements are done
  pub turn_left : {count : ℕ} → i ≡ count → Left w n count v next run m 0
  unfolding t optimize_behind foldable_behind
  turn_left stop = record {
    passed = i;
    turn = g.turn;
    all = omega (arith, stop);
    none = λ rest more.
        let empty = none_left rest (omega (arith, more)) in (
          ap (λ (ss : Stmts). optimize_behind ss (optimize_behind g.turn.done no_stmts)) empty,
          ap (λ (ss : Stmts). foldable_behind ss (optimize_behind g.turn.done no_stmts)) empty,
        );
  }

  module _ {u : List ℕ} {r : Pruned} (top : TopDone v u n next run (Some r)) (long : length u ≡ length v)
    where
      made : TopMade u n r t.done
      made = top.told t.done t.begun

      places : m + r.foldable ≡ foldable_behind (join_stmts t.done (one made.tree)) no_stmts
      places =
          omega (
            arith,
            t.met,
            made.met,
            one_places t.done made.tree (sym t.begun.holds.exits ∙ g.going),
          )

      pub turn_places : m + r.foldable ≤ n
      turn_places =
          omega (
            arith,
            places,
            behind_places (join_stmts t.done (one made.tree)) no_stmts,
            made.begun.listed.ends,
            made.begun.inside,
          )

      pub next_turn : Turn w n u r.next r.run (m + r.foldable) (i + 1)
      unfolding one
      next_turn = record {
        asked = t.asked;
        frame = same_trans t.frame top.frame;
        long = long ∙ t.long;
        done = join_stmts t.done (one made.tree);
        begun = made.begun;
        met = places;
        many = omega (arith, t.many, join_count t.done (one made.tree));
      }

      pub turn_again : r.run.last ≡ false → Going w n u r.next r.run (m + r.foldable) (i + 1)
      turn_again going = record { turn = next_turn; going = going }

      -- an exit was met
      pub turn_exits : {count : ℕ} → i < count → r.run.last ≡ true
          → Left w n count u r.next r.run (m + r.foldable) (count - 1 - i)
      turn_exits more exits =
          let last = sym next_turn.begun.holds.exits ∙ exits in record {
            passed = i + 1;
            turn = next_turn;
            all = omega (arith, more);
            none = λ rest k. (behind_exit rest _ last, places_exit rest _ last);
          }

-- for what the loop's variables are then
pub left_move : {w : List ℕ} {n count : ℕ} {v u : List ℕ} {next next' : ℕ} {run run' : Run} {m m' i i' : ℕ}
    → u ≡ v → next' ≡ next → run' ≡ run → m' ≡ m → i' ≡ i → Left w n count v next run m i
    → Left w n count u next' run' m' i'
left_move {w} {n} {count} {v} {u} {next} {next'} {run} {run'} {m} {m'} {i} {i'} a b c d e left =
    subst (λ (x : List ℕ). Left w n count x next' run' m' i') (sym a)
    (subst (λ (x : ℕ). Left w n count v x run' m' i') (sym b)
    (subst (λ (x : Run). Left w n count v next x m' i') (sym c)
    (subst (λ (x : ℕ). Left w n count v next run x i') (sym d)
    (subst (λ (x : ℕ). Left w n count v next run m x) (sym e) left))))

-- ---- behind the loop

-- what was made is few words
module _ {w : List ℕ} {n : ℕ} {v : List ℕ} {next : ℕ} {run : Run} {m i : ℕ} (t : Turn w n v next run m i) where
  fits : run.end + 3 ≤ n + 1 + 3 * next
  fits =
      omega (
        arith,
        t.begun.holds.ends,
        t.begun.begins,
        behind_words t.done no_stmts,
        rule_weight t.done,
        t.begun.listed.ends,
      )

  pub few_made : run.count < 2 ^ 32
  few_made =
      omega (
        arith,
        t.begun.holds.counts,
        t.begun.holds.ends,
        t.begun.begins,
        row_counts (optimize_behind t.done no_stmts),
        fits,
        t.begun.inside,
        t.asked.few,
      )

module _ {w : List ℕ} {n count : ℕ} {v : List ℕ} {next : ℕ} {run : Run} {m left : ℕ}
    (l : Left w n count v next run m left) where
  abbrev done : Stmts
  done = l.turn.done

  abbrev b : Begun v n next run l.turn.done
  b = l.turn.begun

  pub outer_done : {x : List ℕ} {last end : ℕ} → count ≡ get_or w 0 0 → RestMade v n next left last → last ≡ n
      → Written v x n (run.count ∷ []) end → length x ≡ length v
      → OuterMade w x n (record { end = run.end; foldable = m })
  unfolding optimize foldable_count
  outer_done {x} {last} counts rests whole wrote long = made rests
    where
      back : Same (n + 1) v w
      back = record { word = λ k h. sym (l.turn.frame.word k h) }

      moved : Ats x (n + 1) (roses_s (optimize_behind done no_stmts))
      moved =
          ats_move (roses_s (optimize_behind done no_stmts))
          (subst (λ (k : ℕ). Ats v k (roses_s (optimize_behind done no_stmts))) b.begins b.holds.here)
          (record { word = λ k h. wrote.above (n + 1 + k) (omega (arith, wrote.ends)) })

      made : RestMade v n next left last → OuterMade w x n (record { end = run.end; foldable = m })
      made q =
          let rest = q.rest in
          let rule = join_stmts done rest in
          let all = listed_same back (omega (arith, whole)) (listed_join b.listed q.listed) in
          let counted : count_s rule ≡ count = omega (arith, join_count done rest, q.many, l.turn.many, l.all) in
          let (none, no-places) = l.none rest q.many in
          let pruned = join_from done rest no_stmts ∙ none in
          record {
            rule = rule;
            valid = list_valid rule all.proper all.valid;
            here = ((sym counts ∙ sym counted, tt), all.here);
            whole = omega (arith, whole, all.ends);
            deep = omega (arith, all.deep);
            made = subst (λ (ss : Stmts). At x n (rose_l ss)) (sym pruned)
                ((wrote.here.0 ∙ b.holds.counts, tt), moved);
            ends = omega (arith, b.holds.ends, b.begins, ap (λ (ss : Stmts). size (rose_l ss)) pruned);
            met = omega (arith, l.turn.met, join_places done rest no_stmts, no-places);
            inside = omega (arith, fits l.turn, b.inside, long, l.turn.long, l.turn.asked.exact);
          }
