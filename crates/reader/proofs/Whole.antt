-- The answer to a whole list of words: 5, then the reading, then 10.
-- Assumes nothing.
use mathlib.Core.Bool.{true, false}
use mathlib.Core.List.{List}
use mathlib.Core.Path.{◌≡◌, ◌∙◌}
use Prim.Native.Nat.{ℕ, ◌≤◌, ◌<◌}
use native.Mathlib.Omega.{arith}
use borrow.Author.Tests.{lt-ltb, le-ltb}
use lib.ListN.{length}
use Rattle.spec.specs.Outcome.{Outcome, given, refused}
use Rattle.spec.specs.Rose.{Rose}
use Rattle.spec.specs.Blocks.{count_right}
use Rattle.spec.specs.Reading.{Got, read_at, read_words, whole}
use Rattle.spec.proofs.Heads.{within_low}
use Rattle.spec.proofs.Outcomes.{not_given}
use Rattle.spec.specs.declared.Sort.{Sort}
use Rattle.steps.specs.Steps.{next_of}
use Rattle.steps.proofs.Nodes.{read_to}
use Rattle.reader.specs.Answers.{passed}

module _ (s : Sort) (ws : List ℕ) where
  pub wrong_count : count_right (length ws) ≡ false → passed (read_words s ws) ≡ refused 5 (length ws)
  wrong_count e = simp e

  module _ (right : count_right (length ws) ≡ true) where
    past : passed (read_words s ws) ≡ passed (whole ws (read_at 200 ws s 0))
    past = simp right

    -- by what the reading of the one tree gives
    pub whole_refused : {number place : ℕ} → next_of (read_at 200 ws s 0) ≡ refused number place
        → passed (read_words s ws) ≡ refused number place
    whole_refused {number} {place} e = past ∙ go (read_at 200 ws s 0) e
      where
        go : (o : Outcome (Got Rose)) → next_of o ≡ refused number place → passed (whole ws o) ≡ refused number place
        go (given g) q = let z : ◌≡◌ {A = ℕ} 0 1 = cc in absurd (omega arith)
        go (refused n p) q = cc

    pub whole_remain : (end : ℕ) → next_of (read_at 200 ws s 0) ≡ given end → end < length ws
        → passed (read_words s ws) ≡ refused 10 end
    whole_remain end e l = past ∙ go (read_at 200 ws s 0) e
      where
        go : (o : Outcome (Got Rose)) → next_of o ≡ given end → passed (whole ws o) ≡ refused 10 end
        go (given g) q = let n : g.next ≡ end = cc in simp (n, lt-ltb end (length ws) l)
        go (refused n p) q = absurd (not_given q)

    pub whole_given : (end : ℕ) → next_of (read_at 200 ws s 0) ≡ given end → length ws ≤ end
        → passed (read_words s ws) ≡ given tt
    whole_given end e l = past ∙ go (read_at 200 ws s 0) e
      where
        go : (o : Outcome (Got Rose)) → next_of o ≡ given end → passed (whole ws o) ≡ given tt
        go (given g) q = let n : g.next ≡ end = cc in simp (n, le-ltb end (length ws) l)
        go (refused n p) q = absurd (not_given q)

-- what the check applies in `read_words`
pub ruleset whole_words = (wrong_count, whole_refused, whole_remain, whole_given, within_low, read_to)
