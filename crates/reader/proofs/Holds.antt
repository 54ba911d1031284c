-- Words that the reader accepts hold a tree; words that it refuses are refused by the reading.
-- Assumes nothing.
use mathlib.Core.Bool.{Bool, true, cond}
use mathlib.Core.List.{List}
use mathlib.Core.Path.{◌≡◌, refl, ap, sym, ◌∙◌}
use Prim.Native.Nat.{ℕ, ◌+◌, ◌≤◌}
use native.Mathlib.Omega.{arith}
use lib.Dec.{ltb}
use lib.ListN.{length}
use Rattle.spec.specs.Outcome.{Outcome, given, refused}
use Rattle.spec.specs.Blocks.{count_right}
use Rattle.spec.specs.Rose.{Rose, size, At}
use Rattle.spec.specs.Grammar.{Valid}
use Rattle.spec.specs.Reading.{Got, read_at, read_words, whole}
use Rattle.spec.proofs.Outcomes.{not_given, by_test}
use Rattle.spec.proofs.Heads.{within_high}
use Rattle.spec.proofs.Readings.{sound}
use Rattle.spec.specs.declared.Sort.{Sort}
use Rattle.reader.specs.Answers.{passed}

pub record Holds (s : Sort) (ws : List ℕ) : Type 0 where
  pub tree : Rose
  pub read : read_words s ws ≡ given tree
  pub valid : Valid s tree
  pub here : At ws 0 tree
  pub inside : 0 + size tree ≤ length ws
  pub few : length ws ≤ 16128

module _ (s : Sort) (ws : List ℕ) where
  pub holds : passed (read_words s ws) ≡ given tt → Holds s ws
  holds e =
      by_test _ (count_right (length ws))
      (λ c. go c (read_at 200 ws s 0) refl
      (ap (λ (b : Bool). cond b (whole ws (read_at 200 ws s 0)) (refused 5 (length ws))) c))
      (λ c. absurd (not_given
      (sym (ap passed (ap (λ (b : Bool). cond b (whole ws (read_at 200 ws s 0)) (refused 5 (length ws))) c))
      ∙ e)))
    where
      go : count_right (length ws) ≡ true → (o : Outcome (Got Rose)) → read_at 200 ws s 0 ≡ o
          → read_words s ws ≡ whole ws (read_at 200 ws s 0)
          → Holds s ws
      go c (given g) q w =
          let t = sound 200 ws s 0 g q in
          by_test _ (ltb g.next (length ws))
          (λ b.
          let r : read_words s ws ≡ refused 10 g.next = w ∙ ap (whole ws) q ∙ simp b in
          absurd (not_given (sym (ap passed r) ∙ e)))
          (λ b. record {
            tree = g.what;
            read = w ∙ ap (whole ws) q ∙ simp b;
            valid = t.valid;
            here = t.here;
            inside = omega (arith, t.ends, t.inside);
            few = within_high 1 16128 (length ws) c;
          })
      go c (refused number place) q w = absurd (not_given (sym (ap passed (w ∙ ap (whole ws) q)) ∙ e))
