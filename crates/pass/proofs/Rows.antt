-- Lists of statements: statement by statement up to an exit, each behind what is made already, and where a list ends.
-- Assumes nothing.
use mathlib.Core.Bool.{Bool, true, false, cond}
use mathlib.Core.List.{List}
use mathlib.Core.Path.{◌≡◌, refl, ap, sym, subst, ◌∙◌}
use Prim.Native.Nat.{ℕ, ◌+◌, ◌*◌, ◌≤◌, ◌<◌, ◌^◌}
use native.Mathlib.Omega.{arith}
use lib.ListN.{length}
use Rattle.spec.specs.Rose.{size, Ats}
use Rattle.spec.specs.Tree.{Stmt, Stmts, no_stmts, more_stmts, count_s, rose_s, roses_s, rose_l}
use Rattle.spec.specs.Proper.{ValidRule}
use Rattle.spec.specs.PassStmts.{is_terminal, extend, optimize_stmt, optimize_behind, optimize}
use Rattle.spec.specs.Foldable.{foldable_stmt, foldable_behind, foldable_count}
use Rattle.spec.specs.Weight.{row_weight, row_words}
use Rattle.spec.proofs.Rows.{extend_words, optimize_stmt_words}
use Rattle.spec.proofs.PassedStmts.{first_valid}
use Rattle.buffer.specs.Copy.{Same}
use Rattle.buffer.proofs.Frames.{same_refl, same_trans, same_less, same_at, same_ats}
use Rattle.runs.specs.Held.{Holds, EmptyDone, ExtendAsk, ExtendDone}
use Rattle.runs.specs.declared.Run.{Run}
use Rattle.walk.specs.Walked.{SomeList, Counted, ListEnds}
use Rattle.pass.specs.Pruned.{Made, StmtBelow, StmtAsk, StmtDone, ListBelow, ListAsk, ListDone}
use Rattle.pass.specs.declared.Pruned.{Pruned}
use Rattle.spec.proofs.Counts.{row_counts, list_places}
use Rattle.runs.proofs.Holding.{holds_same}
use Rattle.pass.proofs.Singles.{list_only}

-- ---- the rest of a list, behind what is made already (the crate `outer` cites these)

pub behind_exit : (ss before : Stmts) → is_terminal before ≡ true → optimize_behind ss before ≡ before
unfolding optimize_behind
behind_exit no_stmts before q = refl
behind_exit (more_stmts s ss) before q =
    ap (λ (b : Bool). cond b before (optimize_behind ss (extend before (optimize_stmt s)))) q

pub places_exit : (ss before : Stmts) → is_terminal before ≡ true → foldable_behind ss before ≡ 0
unfolding foldable_behind
places_exit no_stmts before q = refl
places_exit (more_stmts s ss) before q =
    ap (λ (b : Bool). cond b 0 (foldable_stmt s + foldable_behind ss (extend before (optimize_stmt s)))) q

pub behind_more : (s : Stmt) (ss before : Stmts) → is_terminal before ≡ false
    → optimize_behind (more_stmts s ss) before ≡ optimize_behind ss (extend before (optimize_stmt s))
unfolding optimize_behind
behind_more s ss before q =
    ap (λ (b : Bool). cond b before (optimize_behind ss (extend before (optimize_stmt s)))) q

pub places_more : (s : Stmt) (ss before : Stmts) → is_terminal before ≡ false
    → foldable_behind (more_stmts s ss) before ≡ foldable_stmt s + foldable_behind ss (extend before (optimize_stmt s))
unfolding foldable_behind
places_more s ss before q =
    ap (λ (b : Bool). cond b 0 (foldable_stmt s + foldable_behind ss (extend before (optimize_stmt s)))) q

-- none is left
pub none_left : (ss : Stmts) → count_s ss ≡ 0 → ss ≡ no_stmts
none_left no_stmts e = refl
none_left (more_stmts s ss) e = absurd (omega (arith, e))

-- ---- the loop

-- of the list at `at`, `left` stands from `next` on, and the run holds what was made of all before; i of count
-- statements are done
pub record Stand (w : List ℕ) (at top count : ℕ) (v : List ℕ) (next : ℕ) (run : Run) (n i : ℕ) (left before : Stmts)
    : Type 0 where
  pub ask : ListAsk w at top
  pub frame : Same top w v
  pub long : length v ≡ length w
  pub begins : run.at ≡ top
  pub valid : ValidRule left
  pub here : Ats v next (roses_s left)
  pub ends : next + row_words left ≡ at + size (rose_l ask.tree)
  pub past : at < next
  pub many : count ≡ i + count_s left
  pub holds : Holds v run before
  pub light : 2 * row_words before + 3 * row_weight left ≤ 3 * row_weight ask.tree
  pub so : optimize ask.tree ≡ optimize_behind left before
  pub met : n + foldable_behind left before ≡ foldable_count ask.tree

-- some of it is left
pub record Inv (w : List ℕ) (at top count : ℕ) (v : List ℕ) (next : ℕ) (run : Run) (n i : ℕ) : Type 0 where
  pub left : Stmts
  pub before : Stmts
  pub stand : Stand w at top count v next run n i left before

-- the loop was left
pub record Out (w : List ℕ) (at top count : ℕ) (v : List ℕ) (next : ℕ) (run : Run) (n i : ℕ) : Type 0 where
  pub ask : ListAsk w at top
  pub frame : Same top w v
  pub long : length v ≡ length w
  pub begins : run.at ≡ top
  pub holds : Holds v run (optimize ask.tree)
  pub met : n ≡ foldable_count ask.tree
  pub whole : count ≤ i → next ≡ at + size (rose_l ask.tree)

list_some : {w : List ℕ} {at top : ℕ} {ss : Stmts} → top ≤ length w → length w < 2 ^ 32 → ListBelow w at top ss
    → SomeList w at
list_some {ss = ss} l m b = record {
  tree = rose_l ss;
  valid = b.valid.1;
  here = b.here;
  inside = omega (arith, b.below);
  short = m;
}

module _ {w : List ℕ} {at top : ℕ} (a : ListAsk w at top) where
  pub some_list : SomeList w at
  some_list = list_some (omega (arith, a.room)) a.short a.is

  pub loop_start : {count first : ℕ} {run : Run} → Counted w at count first → EmptyDone top run
      → Inv w at top count w first run 0 0
  unfolding optimize is_terminal foldable_count
  loop_start counted empty =
      let told = counted.of (rose_l a.tree) a.is.valid.1 a.is.here in
      record {
        left = a.tree;
        before = no_stmts;
        stand = record {
          ask = a;
          frame = same_refl top w;
          long = refl;
          begins = empty.begins;
          valid = a.is.valid;
          here = subst (λ (i : ℕ). Ats w i (roses_s a.tree)) (sym told.1) a.is.here.1;
          ends = omega (arith, told.1);
          past = omega (arith, told.1);
          many = omega (arith, told.0, a.is.valid.1.1.many);
          holds = empty.right w;
          light = omega arith;
          so = refl;
          met = omega arith;
        };
      }

module _ {w : List ℕ} {at top count : ℕ} {v : List ℕ} {next : ℕ} {run : Run} {n i : ℕ} where
  -- nothing more is made
  leaves : (left before : Stmts) → Stand w at top count v next run n i left before → optimize_behind left before
      ≡ before
      → foldable_behind left before ≡ 0 → Out w at top count v next run n i
  leaves left before st e f = record {
    ask = st.ask;
    frame = st.frame;
    long = st.long;
    begins = st.begins;
    holds = subst (Holds v run) (sym (st.so ∙ e)) st.holds;
    met = omega (arith, st.met, f);
    whole = λ l.
        let none = none_left left (omega (arith, st.many)) in
        let zero : row_words left ≡ 0 = ap row_words none in
        omega (arith, st.ends);
  }

  exit_out : (left before : Stmts) → Stand w at top count v next run n i left before → run.last ≡ true
      → Out w at top count v next run n i
  exit_out left before st q =
      let exits = sym st.holds.exits ∙ q in
      leaves left before st (behind_exit left before exits) (places_exit left before exits)

module _ {w : List ℕ} {at top count : ℕ} {v : List ℕ} {next : ℕ} {run : Run} {n i : ℕ} where
  -- ---- one turn

  module _ (s : Stmt) (ss before : Stmts) (st : Stand w at top count v next run n i (more_stmts s ss) before) where
    behind : run.end ≡ top + row_words before
    behind = omega (arith, st.holds.ends, st.begins)

    stmt_below : StmtBelow v next run.end s
    stmt_below = record {
      valid = (first_valid s ss st.valid).0;
      here = st.here.0;
      below = omega (arith, st.ends, st.ask.is.below, behind);
    }

    asks : StmtAsk v next run.end
    asks = record {
      tree = s;
      asked = record {
        is = stmt_below;
        room = omega (arith, behind, st.light, st.ask.room, st.long);
        short = omega (arith, st.ask.short, st.long);
      };
    }

    module _ {u : List ℕ} {r : Pruned} (done : StmtDone v u next run.end r) (long : length u ≡ length v) where
      made : Made u next r (size (rose_s s)) (optimize_stmt s) (foldable_stmt s)
      made = done.right s stmt_below

      few : run.count + r.run.count < 2 ^ 32
      few =
          omega (
            arith,
            st.holds.counts,
            made.holds.counts,
            row_counts before,
            row_counts (optimize_stmt s),
            optimize_stmt_words s,
            st.light,
            st.ask.room,
            st.ask.short,
          )

      module _ (going : is_terminal before ≡ false) where
        places : n + r.foldable ≤ length w
        places =
            omega (
              arith,
              st.met,
              made.met,
              places_more s ss before going,
              list_places st.ask.tree,
              st.ask.is.below,
              st.ask.room,
            )

        on : {x : Run} → ExtendDone run r.run x
            → Stand w at top count u r.next x (n + r.foldable) (i + 1) ss (extend before (optimize_stmt s))
        on ext = record {
          ask = st.ask;
          frame = same_trans st.frame (same_less top (omega (arith, behind)) done.frame);
          long = omega (arith, st.long, long);
          begins = ext.begins ∙ st.begins;
          valid = (first_valid s ss st.valid).1;
          here = same_ats (roses_s ss) r.next
              (omega (arith, made.from, st.ends, st.ask.is.below, behind)) done.frame
              (subst (λ (i : ℕ). Ats v i (roses_s ss)) (sym made.from) st.here.1);
          ends = omega (arith, made.from, st.ends);
          past = omega (arith, made.from, st.past);
          many = omega (arith, st.many);
          holds = ext.right u before (optimize_stmt s) (holds_same done.frame (omega arith) st.holds)
              made.holds done.begins;
          light = omega (arith, st.light, extend_words before (optimize_stmt s), optimize_stmt_words s);
          so = st.so ∙ behind_more s ss before going;
          met = omega (arith, st.met, made.met, places_more s ss before going);
        }

  module _ (inv : Inv w at top count v next run n i) where
    pub loop_out : count ≤ i → Out w at top count v next run n i
    unfolding optimize_behind foldable_behind
    loop_out l =
        let st = inv.stand in
        let none = none_left inv.left (omega (arith, st.many)) in
        leaves inv.left inv.before st (ap (λ (ss : Stmts). optimize_behind ss inv.before) none)
        (ap (λ (ss : Stmts). foldable_behind ss inv.before) none)

    -- an exit was met
    pub loop_exits : run.last ≡ true → Out w at top count v next run n i
    loop_exits q = exit_out inv.left inv.before inv.stand q

    module _ (more : i < count) (goes : run.last ≡ false) where
      pub going : is_terminal inv.before ≡ false
      going = sym inv.stand.holds.exits ∙ goes

      split : (s : Stmt) × (ss : Stmts) × Stand w at top count v next run n i (more_stmts s ss) inv.before
      split = go inv.left inv.stand
        where
          go : (left : Stmts) → Stand w at top count v next run n i left inv.before
              → (s : Stmt) × (ss : Stmts) × Stand w at top count v next run n i (more_stmts s ss) inv.before
          go no_stmts st = absurd (omega (arith, st.many))
          go (more_stmts s ss) st = (s, ss, st)

      pub loop_asks : StmtAsk v next run.end
      loop_asks = let (s, ss, st) = split in asks s ss inv.before st

      module _ {u : List ℕ} {r : Pruned} (done : StmtDone v u next run.end r) (long : length u ≡ length v) where
        pub loop_few : ExtendAsk run r.run
        loop_few = let (s, ss, st) = split in record { few = omega (arith, few s ss inv.before st done long) }

        pub loop_places : n + r.foldable ≤ length w
        loop_places = let (s, ss, st) = split in places s ss inv.before st done long going

        pub loop_again : {x : Run} → ExtendDone run r.run x → Inv w at top count u r.next x (n + r.foldable) (i + 1)
        loop_again ext =
            let (s, ss, st) = split in
            record {
              left = ss;
              before = extend inv.before (optimize_stmt s);
              stand = on s ss inv.before st done long going ext;
            }

  -- ---- behind the loop

  module _ (out : Out w at top count v next run n i) where
    below : ListBelow v at top out.ask.tree
    below = record {
      valid = out.ask.is.valid;
      here = same_at (rose_l out.ask.tree) at out.ask.is.below out.frame out.ask.is.here;
      below = out.ask.is.below;
    }

    pub out_list : SomeList v at
    out_list =
        list_some (omega (arith, out.long, out.ask.room)) (omega (arith, out.long, out.ask.short)) below

    out_made : {r : ℕ} → r ≡ at + size (rose_l out.ask.tree)
        → ListDone w v at top (record { next = r; run = run; foldable = n })
    out_made {r} ends = record {
      frame = out.frame;
      begins = out.begins;
      right = λ ss b.
          subst (λ (x : Stmts). Made v at (record { next = r; run = run; foldable = n }) (size (rose_l x)) (optimize x)
          (foldable_count x))
          (list_only (omega (arith, out.ask.room)) out.ask.is b)
          (record { from = ends; holds = out.holds; met = out.met });
    }

    -- the whole list was gone over
    pub out_whole : count ≤ i → ListDone w v at top (record { next = next; run = run; foldable = n })
    out_whole l = out_made (out.whole l)

    -- some of it was left
    pub out_early : {r : ℕ} → ListEnds v at r → ListDone w v at top (record { next = r; run = run; foldable = n })
    out_early e =
        out_made
        (e.of (rose_l out.ask.tree) out.ask.is.valid.1 below.here
        (omega (arith, out.ask.is.below, out.ask.room, out.long)))
