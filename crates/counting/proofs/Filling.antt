-- The counts that the code fills in, each from those before it.
-- Assumes nothing.
use Rattle.std.proofs.Common.{◌≡◌, ℕ, suc, ◌+◌, ◌-◌, ◌^◌, ◌≤◌, ◌<◌, eqb, List, [], ◌∷◌, ◌++◌, length, take}
use Rattle.std.proofs.Common.{slice_index_or, slice_set, length-append, take-suc-set, sym, ap, ap₂, subst, ◌∙◌, arith}
use mathlib.Core.Logic.{⊎_elim}
use Rattle.std.proofs.lemmas.Bool.{cases_Bool, cond-true, cond-false, eqb-true, eqb-false}
use Rattle.counting.specs.declared.entry.TruthCounts.{TruthCounts}
use Rattle.counting.specs.Formulas.{formulas}
use Rattle.counting.specs.Counts.{counts, most_nodes}
use Rattle.counting.specs.Sums.{none, ones, all, plus, both, Filled}
use Rattle.counting.proofs.Table.{small, snoc_at, counts_0, counts_1}
use Rattle.counting.proofs.Partial.{partial, split, partial_none, partial_more, partial_all, room}

-- ---- those of no node and of one

pub none_counted : (n : ℕ) → n ≡ 0 → none ≡ counts (formulas n)
none_counted n e = sym (ap (λ (k : ℕ). counts (formulas k)) e ∙ counts_0)

pub leaves_counted : (n : ℕ) → n ≡ 1 → ones ≡ counts (formulas n)
leaves_counted n e = sym (ap (λ (k : ℕ). counts (formulas k)) e ∙ counts_1)

-- ---- one more

filled_snoc : (cs : List TruthCounts) (c : TruthCounts) → Filled cs → c ≡ counts (formulas (length cs))
    → Filled (cs ++ c ∷ [])
filled_snoc cs c filled e = record {
  each = λ n low.
      let at = snoc_at cs c n in
      ⊎_elim
      (λ last. at ∙ cond-true (eqb n (length cs)) c (slice_index_or cs n none) last ∙ e
      ∙ ap (λ (k : ℕ). counts (formulas k)) (sym (eqb-true n (length cs) last)))
      (λ before. let other = eqb-false n (length cs) before in
      at ∙ cond-false (eqb n (length cs)) c (slice_index_or cs n none) before
      ∙ filled.each n (omega (arith, length-append cs (c ∷ []))))
      (cases_Bool (eqb n (length cs)));
}

pub filled_more : (cs : List TruthCounts) (n : ℕ) (c : TruthCounts) → n < length cs
    → c ≡ counts (formulas (length (take n cs))) → Filled (take n cs) → Filled (take (n + 1) (slice_set cs n c))
filled_more cs n c low e filled =
    let more : suc n ≡ n + 1 = omega arith in
    subst (λ (m : ℕ). Filled (take m (slice_set cs n c))) more
    (subst Filled (sym (take-suc-set cs n c low)) (filled_snoc (take n cs) c filled e))

-- ---- those on both sides of a split

module _ (fewer : List TruthCounts) (filled : Filled fewer) (most : length fewer ≤ most_nodes) where
  at : (n : ℕ) → n < length fewer → slice_index_or fewer n none ≡ counts (formulas n)
  at = filled.each

  pub right_small : (left : ℕ) → left < length fewer - 1
      → all (slice_index_or fewer (length fewer - 1 - left) none) < 2 ^ 64
  right_small left inside =
      let n = length fewer - 1 - left in
      omega (arith, ap all (at n (omega arith)), small n (omega arith))

  both_is : (left : ℕ) → left < length fewer - 1
      → both (slice_index_or fewer left none) (slice_index_or fewer (length fewer - 1 - left) none)
      ≡ split (length fewer - 1) left
  both_is left inside = ap₂ both (at left (omega arith)) (at (length fewer - 1 - left) (omega arith))

  pub both_small : (left : ℕ) → left < length fewer - 1
      → all (both (slice_index_or fewer left none) (slice_index_or fewer (length fewer - 1 - left) none)) < 2 ^ 64
  both_small left inside =
      omega (arith, ap all (both_is left inside), room (length fewer - 1) left inside (omega arith))

  pub sum_small : (left : ℕ) → left < length fewer - 1
      → all (counts (partial (length fewer - 1) left))
      + all (both (slice_index_or fewer left none) (slice_index_or fewer (length fewer - 1 - left) none)) < 2 ^ 64
  sum_small left inside =
      omega (arith, ap all (both_is left inside), room (length fewer - 1) left inside (omega arith))

  pub sum_more : (left : ℕ) → left < length fewer - 1
      → plus (counts (partial (length fewer - 1) left))
      (both (slice_index_or fewer left none) (slice_index_or fewer (length fewer - 1 - left) none))
      ≡ counts (partial (length fewer - 1) (left + 1))
  sum_more left inside =
      ap (plus (counts (partial (length fewer - 1) left))) (both_is left inside)
      ∙ partial_more (length fewer - 1) left

-- what the check applies in `compound_counts`
pub ruleset sums = (partial_none, right_small, both_small, sum_small, sum_more, partial_all)
