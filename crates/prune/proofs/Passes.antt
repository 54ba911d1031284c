-- The pass over a rule that stands at the start of the work words: the work words are enough for it, and with its count
-- word in front the run that it makes is the pruned rule.
-- Assumes nothing.
use mathlib.Core.List.{List, [], ◌∷◌}
use mathlib.Core.Path.{◌≡◌, subst, ◌∙◌}
use Prim.Native.Nat.{ℕ, ◌+◌, ◌≤◌, ◌<◌, ◌^◌}
use native.Mathlib.Omega.{arith}
use lib.ListN.{length}
use Rattle.spec.specs.Rose.{size, At, Ats}
use Rattle.spec.specs.Tree.{Stmts, roses_s, rose_l}
use Rattle.spec.proofs.Counts.{row_counts}
use Rattle.spec.specs.Proper.{ValidRule}
use Rattle.spec.specs.PassStmts.{optimize}
use Rattle.spec.specs.Foldable.{foldable_count}
use Rattle.spec.proofs.Places.{ats_move}
use Rattle.spec.proofs.Budget.{budget_met, pruned_fits}
use Rattle.buffer.proofs.Frames.{same_at}
use Rattle.ir.specs.Written.{Written}
use Rattle.pass.specs.Pruned.{ListBelow, ListAsk, ListDone, Made}
use Rattle.pass.specs.declared.Pruned.{Pruned}
use Rattle.prune.specs.Answers.{PassAsk, PassDone}

module _ {w v : List ℕ} {n top : ℕ} (wrote : Written w v n (0 ∷ []) top) where
  -- a rule below the word for the count
  below : (ss : Stmts) → ValidRule ss → At w 0 (rose_l ss) → n ≡ size (rose_l ss) → ListBelow v 0 top ss
  below ss valid here ends = record {
    valid = valid;
    here = same_at {top = n} (rose_l ss) 0 (omega arith) (record { word = wrote.below }) here;
    below = omega (arith, wrote.ends);
  }

  module _ (ask : PassAsk w n) (long : length v ≡ length w) where
    pub list_ask : ListAsk v 0 top
    list_ask = record {
      tree = ask.rule;
      is = below ask.rule ask.valid ask.here ask.ends;
      room = omega (arith, wrote.ends, ask.exact, ask.ends, budget_met ask.rule);
      short = omega (arith, ask.exact, ask.few);
    }

    module _ {u : List ℕ} {r : Pruned} (done : ListDone v u 0 top r) where
      made : (ss : Stmts) → ValidRule ss → At w 0 (rose_l ss) → n ≡ size (rose_l ss)
          → Made u 0 r (size (rose_l ss)) (optimize ss) (foldable_count ss)
      made ss valid here ends = done.right ss (below ss valid here ends)

      -- of the rule that is asked for
      pub end_inside : (r.run.end ≤ length w) × (r.run.count < 2 ^ 32) × (n ≤ r.run.end)
      end_inside =
          let m = (made ask.rule ask.valid ask.here ask.ends).holds in
          let fits = pruned_fits ask.rule in
          let counts = row_counts (optimize ask.rule) in (
            omega (arith, wrote.ends, done.begins, m.ends, ask.exact, ask.ends, fits),
            omega (arith, m.counts, ask.ends, ask.few, fits, counts),
            omega (arith, wrote.ends, done.begins, m.ends),
          )

      pub pass_done : {x : List ℕ} {r' : ℕ} → Written u x n (r.run.count ∷ []) r' → length x ≡ length w
          → PassDone w x n (record { end = r.run.end; foldable = r.foldable })
      pass_done {x} last same = record {
        right = λ ss valid here ends.
            let m = made ss valid here ends in
            let at : r.run.at ≡ n + 1 = omega (arith, done.begins, wrote.ends) in
            let h : Ats u (n + 1) (roses_s (optimize ss)) =
            subst (λ (k : ℕ). Ats u k (roses_s (optimize ss))) at m.holds.here in (
              (
                (last.here.0 ∙ m.holds.counts, tt),
                ats_move (roses_s (optimize ss)) h
                    (record { word = λ k l. last.above (n + 1 + k) (omega (arith, last.ends)) }),
              ),
              omega (arith, at, m.holds.ends),
              m.met,
            );
        order = end_inside.2;
        inside = omega (arith, end_inside.0, same);
      }
