-- One statement of the outer list: how it is read, what is asked of the functions that make something of it, and what
-- stands then.
-- Assumes nothing.
use mathlib.Core.List.{List}
use mathlib.Core.Path.{◌≡◌, refl, ap, sym, subst, ◌∙◌}
use Prim.Native.Nat.{ℕ, ◌+◌, ◌*◌, ◌≤◌}
use native.Mathlib.Omega.{arith}
use lib.Dec.{eqb}
use lib.ListN.{get_or}
use Rattle.std.specs.Prelude.{Option, Some, None}
use Rattle.spec.specs.Rose.{size, At, depth}
use Rattle.spec.specs.Grammar.{Valid}
use Rattle.spec.specs.Reading.{read_at}
use Rattle.spec.specs.Tree.{Stmt, Stmts, no_stmts, rose_s}
use Rattle.spec.specs.Meaning.{stmt_of}
use Rattle.spec.specs.PassStmts.{one, is_terminal, join_stmts, optimize_stmt, optimize_behind}
use Rattle.spec.specs.Foldable.{foldable_stmt}
use Rattle.spec.specs.declared.Sort.TheVariants as sort
use Rattle.spec.proofs.Readings.{sound}
use Rattle.spec.proofs.Rows.{behind_words, optimize_stmt_words}
use Rattle.spec.proofs.Counts.{row_counts}
use Rattle.spec.proofs.Statements.{rose_stmt, proper_stmt}
use Rattle.spec.proofs.Weights.{rule_weight, rose_weight}
use Rattle.buffer.specs.Copy.{Same, PutDone}
use Rattle.buffer.proofs.Frames.{same_less, put_at}
use Rattle.steps.specs.Quick.{Quick}
use Rattle.steps.specs.Steps.{next_of}
use Rattle.steps.proofs.Decompose.{next_given}
use Rattle.runs.specs.Held.{Holds, ExtendAsk, ExtendDone}
use Rattle.runs.specs.declared.Run.{Run}
use Rattle.runs.proofs.Holding.{holds_same, holds_one}
use Rattle.pass.specs.Pruned.{Made, StmtBelow, StmtAsk, StmtDone}
use Rattle.pass.specs.declared.Pruned.{Pruned}
use Rattle.kept.specs.Stated.{StmtStays}
use Rattle.kept.specs.declared.Kept.{Kept}
use Rattle.outer.specs.Outer.{Stands, SomeTop, ReadTop, KeepAsk, KeepDone, Begun, TopAsk, TopDone}
use Rattle.outer.proofs.Joins.{one_more, listed_one, listed_join, listed_same}

-- ---- read_top

pub read_told : (w : List ℕ) (at : ℕ) (r : Option ℕ) → Quick (next_of (read_at 200 w sort.Stmt at)) r → ReadTop w at r
read_told w at None q = tt
read_told w at (Some r) q =
    let (g, e, same) = next_given (read_at 200 w sort.Stmt at) r q in
    let st = sound 200 w sort.Stmt at g e in
    let back = rose_stmt g.what st.valid in record {
      tree = stmt_of g.what;
      stands = record {
        valid = (proper_stmt g.what st.valid, subst (Valid sort.Stmt) (sym back) st.valid);
        here = subst (At w at) (sym back) st.here;
        ends = omega (arith, same, st.ends, ap size back);
        deep = omega (arith, st.deep, ap depth back);
      };
    }

-- ---- keep

pub keep_done : {w v : List ℕ} {at end top last : ℕ} {h : ℕ} → h ≡ get_or w at 0 → PutDone w v at end top last
    → at ≤ end → KeepDone w v at end top (record { at = top; end = last; count = 1; last = eqb h 33 })
unfolding one is_terminal
keep_done {w} {v} {at} {end} {top} {last} {h} is put order = record {
  frame = put.frame;
  begins = refl;
  counts = refl;
  right = λ s here ends exits.
      holds_one s (put_at (rose_s s) ends put here) (omega (arith, put.ends, ends))
      (ap (λ (x : ℕ). eqb x 33) is ∙ sym exits);
}

-- ---- a statement behind those before it

kept_stands : {w : List ℕ} {at : ℕ} {r : Kept} (k : StmtStays w at r) → Stands w at r.next k.tree
kept_stands k = record { valid = k.valid; here = k.here; ends = k.ends; deep = k.deep }

begun_more : {w v : List ℕ} {n at next : ℕ} {run run' : Run} {d : Stmts} {s : Stmt} → Begun w n at run d
    → Stands w at next s → next ≤ n → Same (n + 1) w v → run'.at ≡ n + 1
    → Holds v run' (optimize_behind (join_stmts d (one s)) no_stmts)
    → Begun v n next run' (join_stmts d (one s))
begun_more b st inside f begins holds = record {
  listed = listed_join (listed_same f (omega (arith, b.inside)) b.listed)
      (listed_same f (omega (arith, inside)) (listed_one st));
  inside = inside;
  begins = begins;
  holds = holds;
}

-- where the run ends: behind the rule, by at most three words for each word that was read
record Room (n at : ℕ) (run : Run) : Type 0 where
  low : n + 1 ≤ run.end
  high : run.end + 3 ≤ n + 1 + 3 * at
  few : run.count ≤ 3 * at
  order : 1 ≤ at

module _ {w : List ℕ} {n at : ℕ} {run : Run} where
  room : (d : Stmts) → Begun w n at run d → Room n at run
  room d b =
      let made = optimize_behind d no_stmts in
      let words = behind_words d no_stmts in
      let weight = rule_weight d in record {
        low = omega (arith, b.holds.ends, b.begins);
        high = omega (arith, b.holds.ends, b.begins, words, weight, b.listed.ends);
        few = omega (arith, b.holds.counts, row_counts made, words, weight, b.listed.ends);
        order = omega (arith, b.listed.ends);
      }

  module _ (a : TopAsk w n at run) where
    r : Room n at run
    r = room a.done a.begun

    pub keep_ask : {k : Kept} → StmtStays w at k → k.next ≤ n → KeepAsk w at k.next run.end
    keep_ask kept inside = record {
      order = omega (arith, kept.ends);
      below = omega (arith, inside, r.low);
      room = omega (arith, kept.ends, inside, r.high, r.order, a.asked.exact);
    }

    pub keep_few : {v : List ℕ} {end : ℕ} {more : Run} → KeepDone w v at end run.end more → ExtendAsk run more
    keep_few k = record { few = omega (arith, k.counts, r.few, a.begun.inside, a.asked.few) }

    -- the statement was made behind the run and joined to it
    joined : {v : List ℕ} {next m : ℕ} {more x : Run} (s : Stmt) → Stands w at next s → next ≤ n
        → Same run.end w v → more.at ≡ run.end → Holds v more (optimize_stmt s) → m ≡ foldable_stmt s
        → ExtendDone run more x → TopDone w v n at run (Some (record { next = next; run = x; foldable = m }))
    joined {v} {next} {m} {more} {x} s st inside f begins holds met ext =
        let frame = same_less (n + 1) r.low f in record {
          frame = frame;
          told = λ d b.
              let made = optimize_behind d no_stmts in record {
                tree = s;
                begun = begun_more b st inside frame (ext.begins ∙ b.begins)
                    (subst (Holds v x) (sym (one_more d s (sym b.holds.exits ∙ a.going)))
                    (ext.right v made (optimize_stmt s) (holds_same f (omega arith) b.holds) holds begins));
                met = met;
              };
        }

    -- kept as it is
    pub kept_done : {v : List ℕ} {r : Kept} {more x : Run} → StmtStays w at r → r.next ≤ n
        → KeepDone w v at r.next run.end more → ExtendDone run more x
        → TopDone w v n at run (Some (record { next = r.next; run = x; foldable = r.foldable }))
    kept_done {v} {more = more} k inside keep ext =
        joined k.tree (kept_stands k) inside keep.frame keep.begins
        (subst (Holds v more) (sym k.stays) (keep.right k.tree k.here k.ends k.exits)) k.met ext

    -- by the pass
    module _ {next : ℕ} (t : SomeTop w at next) (inside : next ≤ n) where
      abbrev s : Stmt
      s = t.tree

      stands : Stands w at next s
      stands = t.stands

      below : StmtBelow w at run.end s
      below = record {
        valid = stands.valid;
        here = stands.here;
        below = omega (arith, stands.ends, inside, r.low);
      }

      pub stmt_ask : StmtAsk w at run.end
      stmt_ask = record {
        tree = s;
        asked = record {
          is = below;
          room = omega (
            arith,
            r.high,
            r.order,
            (rose_weight (rose_s s)).1,
            stands.ends,
            inside,
            a.asked.exact,
          );
          short = omega (arith, a.asked.exact, a.asked.few);
        };
      }

      module _ {v : List ℕ} {p : Pruned} (done : StmtDone w v at run.end p) where
        made : Made v at p (size (rose_s s)) (optimize_stmt s) (foldable_stmt s)
        made = done.right s below

        pub pass_few : ExtendAsk run p.run
        pass_few = record {
          few = omega (
            arith,
            made.holds.counts,
            row_counts (optimize_stmt s),
            optimize_stmt_words s,
            (rose_weight (rose_s s)).1,
            stands.ends,
            inside,
            r.few,
            a.begun.inside,
            a.asked.few,
          );
        }

        pub pass_done : {x : Run} → ExtendDone run p.run x
            → TopDone w v n at run (Some (record { next = next; run = x; foldable = p.foldable }))
        pass_done ext = joined s stands inside done.frame done.begins made.holds made.met ext
