-- The loop of `optimize_parts`: of the trees that stood there, those that are passed stand from top up to `end`, and
-- the others from `next` on, as they were.
-- Assumes nothing.
use mathlib.Core.List.{List}
use mathlib.Core.Path.{◌≡◌, sym, subst}
use Prim.Native.Nat.{ℕ, suc, ◌+◌, ◌-◌, ◌≤◌, ◌<◌}
use native.Mathlib.Omega.{arith}
use lib.ListN.{length}
use Rattle.spec.specs.Rose.{Rose, Roses, nil, cons, sizes, Ats}
use Rattle.spec.specs.Rose.{count as countR}
use Rattle.spec.specs.Grammar.{Valids}
use Rattle.spec.specs.Weight.{weights, expr_room}
use Rattle.spec.specs.declared.Sort.{Sort}
use Rattle.spec.proofs.Passed.{valids_from}
use Rattle.buffer.specs.Copy.{Same}
use Rattle.buffer.proofs.Frames.{same_refl, same_trans, same_less, same_at, same_ats}
use Rattle.optimize.specs.Passed.{passed, passed_all, places_all, Below, Ask, Done, AllBelow, PartsAsk, AllPassed}
use Rattle.optimize.specs.Passed.{PartsDone}
use Rattle.optimize.specs.declared.Optimized.{Optimized}
use Rattle.optimize.proofs.Sorts.{passed_size, places_sizes}

-- of the trees ps, which stood from `at` on, the trees qs are left and stand where the next is; if they stand passed
-- from the end on, all of ps stand passed from top on
pub record Rest (at top : ℕ) (s : Sort) (ps : Roses) (v : List ℕ) (o : Optimized) (qs : Roses) : Type 0 where
  pub valid : Valids (λ (i : ℕ). s) 0 qs
  pub here : Ats v o.next qs
  pub from : o.next + sizes qs ≡ at + sizes ps
  pub ends : o.end + sizes (passed_all s qs) ≡ top + sizes (passed_all s ps)
  pub met : o.foldable + places_all s qs ≡ places_all s ps
  pub room : o.end + expr_room (weights qs) ≤ top + expr_room (weights ps)
  pub whole : (u : List ℕ) → Same o.end v u → Ats u o.end (passed_all s qs) → Ats u top (passed_all s ps)

-- so many are left
pub record Left (at top : ℕ) (s : Sort) (ps : Roses) (v : List ℕ) (o : Optimized) (left : ℕ) : Type 0 where
  pub trees : Roses
  pub many : countR trees ≡ left
  pub rest : Rest at top s ps v o trees

-- with one more passed, which ends where p says
abbrev pub counted : Optimized → Optimized → Optimized
counted o p = record { next = p.next; end = p.end; foldable = o.foldable + p.foldable }

-- the loop's invariant, for all trees that stood there
pub record Inv (w : List ℕ) (at count top : ℕ) (v : List ℕ) (o : Optimized) (i : ℕ) : Type 0 where
  pub within : i ≤ count
  pub frame : Same top w v
  pub long : length v ≡ length w
  pub past : at ≤ o.next
  pub above : top ≤ o.end
  pub each : (s : Sort) (ps : Roses) → AllBelow w at count top s ps → Left at top s ps v o (count - i)

-- what is passed from a place on is passed from whatever the place is proved to be
pub done_from : {w v : List ℕ} {at top top₂ : ℕ} {o : Optimized} → top₂ ≡ top → Done w v at top₂ o → Done w v at top o
done_from {w} {v} {at} {o = o} same = subst (λ (j : ℕ). Done w v at j o) same

-- the first of those that are left
more : {at top : ℕ} {s : Sort} {ps : Roses} {v : List ℕ} {o : Optimized} {left : ℕ} (P : Type 0)
    → Left at top s ps v o left → 0 < left
    → ((q : Rose) (qs : Roses) → suc (countR qs) ≡ left → Rest at top s ps v o (cons q qs) → P)
    → P
more {at} {top} {s} {ps} {v} {o} {left} P l h f = go l.trees l.many l.rest
  where
    go : (qs : Roses) → countR qs ≡ left → Rest at top s ps v o qs → P
    go nil m r = absurd (omega arith)
    go (cons q qs) m r = f q qs m r

module _ {w : List ℕ} {at count top : ℕ} {v : List ℕ} {o : Optimized} {i : ℕ} (inv : Inv w at count top v o i) where
  -- the next tree can be asked for at each place from top to the end
  pub inv_asks : {place : ℕ} → top ≤ place → place ≤ o.end → PartsAsk w at count top → i < count → Ask v o.next place
  inv_asks {place} above upto a h =
      more (Ask v o.next place) (inv.each a.sort a.trees a.are) (omega arith)
      (λ q qs m r. record {
        sort = a.sort;
        tree = q;
        is = record {
          part = a.are.part;
          valid = r.valid.0;
          here = r.here.0;
          below = omega (arith, r.from, a.are.below);
        };
        room = omega (arith, r.room, a.room, inv.long);
      })

  -- the places counted are no more than the words
  pub inv_count : PartsAsk w at count top → o.foldable ≤ length w
  inv_count a =
      let l = (inv.each a.sort a.trees a.are).rest in
      omega (
        arith,
        l.met,
        places_sizes a.sort a.are.part a.trees 0 a.are.valid,
        a.are.below,
        a.room,
      )

  -- the places counted with those of the next tree are no more than the words, wherever it was passed to
  pub inv_counted : {place : ℕ} {u : List ℕ} {p : Optimized} → top ≤ place → Done v u o.next place p
      → PartsAsk w at count top → i < count → o.foldable + p.foldable ≤ length w
  inv_counted {place} {u} {p} above d a h =
      more (o.foldable + p.foldable ≤ length w) (inv.each a.sort a.trees a.are) (omega arith)
      (λ q qs m r.
      let is : Below v o.next place a.sort q = record {
        part = a.are.part;
        valid = r.valid.0;
        here = r.here.0;
        below = omega (arith, r.from, a.are.below);
      } in
      omega (
        arith,
        (d.right a.sort q is).met,
        r.met,
        places_sizes a.sort a.are.part a.trees 0 a.are.valid,
        a.are.below,
        a.room,
      ))

  module _ (h : i < count) {u : List ℕ} {p : Optimized} (d : Done v u o.next o.end p)
      (e : length u ≡ length v) where
    step : (s : Sort) (ps : Roses) → AllBelow w at count top s ps
        → Left at top s ps u (counted o p) (count - (i + 1))
    step s ps b =
        more (Left at top s ps u (counted o p) (count - (i + 1))) (inv.each s ps b) (omega arith)
        (λ q qs many r.
        let is : Below v o.next o.end s q = record {
          part = b.part;
          valid = r.valid.0;
          here = r.here.0;
          below = omega (arith, r.from, b.below, inv.above);
        } in
        let x = d.right s q is in
        let light = passed_size s q b.part r.valid.0 in record {
          trees = qs;
          many = omega arith;
          rest = record {
            valid = valids_from s qs 1 0 r.valid.1;
            here = same_ats qs p.next (omega (arith, x.from, r.from, b.below, inv.above)) d.frame
                (subst (λ (j : ℕ). Ats v j qs) (sym x.from) r.here.1);
            from = omega (arith, x.from, r.from);
            ends = omega (arith, x.ends, r.ends);
            met = omega (arith, x.met, r.met);
            room = omega (arith, x.ends, r.room, light);
            whole = λ z f t. r.whole z (same_trans d.frame (same_less o.end (omega (arith, x.ends)) f)) (
              same_at (passed s q) o.end (omega (arith, x.ends)) f x.here,
              subst (λ (j : ℕ). Ats z j (passed_all s qs)) x.ends t,
            );
          };
        })

    -- one tree on
    pub inv_step : PartsAsk w at count top → Inv w at count top u (counted o p) (i + 1)
    inv_step a =
        let next = inv_asks {place = o.end} inv.above (omega arith) a h in
        let x = d.right next.sort next.tree next.is in
        record {
          within = omega arith;
          frame = same_trans inv.frame (same_less top inv.above d.frame);
          long = omega (arith, e, inv.long);
          past = omega (arith, x.from, inv.past);
          above = omega (arith, x.ends, inv.above);
          each = step;
        }

  -- no tree is left
  pub inv_stop : count ≤ i → PartsDone w v at count top o
  inv_stop h = record {
    frame = inv.frame;
    right = λ s ps b. let l = inv.each s ps b in go s ps l.trees l.many l.rest;
  }
    where
      go : (s : Sort) (ps qs : Roses) → countR qs ≡ count - i → Rest at top s ps v o qs
          → AllPassed v at top o s ps
      go s ps (cons q qs) m r = absurd (omega arith)
      go s ps nil m r = record {
        from = omega (arith, r.from);
        here = r.whole v (same_refl o.end v) tt;
        ends = omega (arith, r.ends);
        met = omega (arith, r.met);
      }

-- ---- where the ways of a turn meet

-- the next tree is passed, and there are as many words
pub record Made (v : List ℕ) (next end : ℕ) (u : List ℕ) (part : Optimized) : Type 0 where
  pub done : Done v u next end part
  pub long : length u ≡ length v

-- for what the words and the part are then
pub made : {v u z : List ℕ} {next end : ℕ} {part p : Optimized} → u ≡ z → part ≡ p → Done v z next end p
    → length z ≡ length v → Made v next end u part
made {v} {u} {z} {next} {end} {part} {p} e f d l =
    subst (λ (x : List ℕ). Made v next end x part) (sym e)
    (subst (λ (x : Optimized). Made v next end z x) (sym f) (record { done = d; long = l }))
