-- The list as it is made, split by split: the counts so far, and that they stay small.
-- Assumes nothing.
use Rattle.std.proofs.Common.{◌≡◌, ℕ, zero, suc, ◌+◌, ◌-◌, ◌^◌, ◌≤◌, ◌<◌, add-zero}
use Rattle.std.proofs.Common.{List, [], ◌++◌, map, refl, sym, ap, ap₂, ◌∙◌, arith}
use Rattle.spec.specs.Tree
use Rattle.spec.specs.Tree.{Expr}
use Rattle.counting.specs.declared.entry.TruthCounts.{TruthCounts}
use Rattle.counting.specs.Formulas.{joins, splits, next, formulas}
use Rattle.counting.specs.Counts.{counts, most_nodes}
use Rattle.counting.specs.Sums.{all, plus, opposites, both}
use Rattle.counting.proofs.Recurrence.{formulas_next}
use Rattle.counting.proofs.Counted.{counts_none, plus_none, counts_append, counts_not, counts_joins, plus_assoc}
use Rattle.counting.proofs.Table.{small}

-- with Not on top, and with And or Or on top and fewer than `lefts` nodes on the left
abbrev pub partial : ℕ → ℕ → List Expr
partial rest lefts = map Tree.not (formulas rest) ++ splits formulas rest lefts

-- And and Or of the split with so many nodes on the left
abbrev pub split : ℕ → ℕ → TruthCounts
split rest left = both (counts (formulas left)) (counts (formulas (rest - left)))

pub partial_none : (rest : ℕ) → opposites (counts (formulas rest)) ≡ counts (partial rest 0)
unfolding splits
partial_none rest =
    sym
    (counts_append (map Tree.not (formulas rest)) [] ∙ ap₂ plus (counts_not (formulas rest)) counts_none
    ∙ plus_none (opposites (counts (formulas rest))))

pub partial_more : (rest left : ℕ)
    → plus (counts (partial rest left)) (split rest left) ≡ counts (partial rest (left + 1))
unfolding splits
partial_more rest left =
    let made = map Tree.not (formulas rest) in
    let so_far = splits formulas rest left in
    let more : suc left ≡ left + 1 = omega arith in
    ap (λ (c : TruthCounts). plus c (split rest left)) (counts_append made so_far) ∙ plus_assoc _ _ _
    ∙ ap (plus (counts made))
    (ap (plus (counts so_far)) (sym (counts_joins (formulas left) (formulas (rest - left))))
    ∙ sym (counts_append so_far (joins (formulas left) (formulas (rest - left)))))
    ∙ sym (counts_append made (splits formulas rest (suc left)))
    ∙ ap (λ (k : ℕ). counts (partial rest k)) more

pub partial_all : (n left : ℕ) → 2 ≤ n → left ≡ n - 1 → counts (partial (n - 1) left) ≡ counts (formulas n)
unfolding next
partial_all zero left h e = absurd (omega arith)
partial_all (suc zero) left h e = absurd (omega arith)
partial_all (suc (suc n)) left h e =
    let rest : suc (suc n) - 1 ≡ suc n = omega arith in
    ap₂ (λ (j k : ℕ). counts (partial j k)) rest (e ∙ rest) ∙ ap counts (sym (formulas_next (suc (suc n))))

-- ---- no count overflows: a list that is a part of another is no longer

all_more : (rest left : ℕ)
    → all (counts (partial rest (left + 1))) ≡ all (counts (partial rest left)) + all (split rest left)
all_more rest left = ap all (sym (partial_more rest left)) ∙ omega arith

grows : (rest left more : ℕ) → all (counts (partial rest left)) ≤ all (counts (partial rest (left + more)))
grows rest left zero = omega (arith, ap (λ (k : ℕ). all (counts (partial rest k))) (add-zero left))
grows rest left (suc more) =
    let e : left + 1 + more ≡ left + suc more = omega arith in
    omega (arith, all_more rest left, grows rest (left + 1) more, ap (λ (k : ℕ). all (counts (partial rest k))) e)

pub room : (rest left : ℕ) → left < rest → rest < most_nodes
    → all (counts (partial rest left)) + all (split rest left) ≤ 2 ^ 62
room rest left inside h =
    let e : left + 1 + (rest - (left + 1)) ≡ rest + 1 - 1 = omega arith in
    let behind : rest + 1 - 1 ≡ rest = omega arith in
    let whole = partial_all (rest + 1) (rest + 1 - 1) (omega arith) refl in
    omega (
      arith,
      all_more rest left,
      grows rest (left + 1) (rest - (left + 1)),
      ap (λ (k : ℕ). all (counts (partial rest k))) e,
      ap (λ (k : ℕ). all (counts (partial k (rest + 1 - 1)))) behind,
      ap all whole,
      small (rest + 1) (omega arith),
    )
