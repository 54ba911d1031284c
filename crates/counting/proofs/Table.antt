-- The counts as numbers, by the recurrence alone: the table that they fill is computed, and the lists are not.
-- Assumes nothing.
use Rattle.std.proofs.Common.{◌≡◌, ℕ, zero, suc, ◌-◌, ◌^◌, ◌≤◌, ◌<◌, Bool, true, false, cond}
use Rattle.std.proofs.Common.{List, [], ◌∷◌, ◌++◌, map, length, get_or, length-append, refl, sym, ap, ap₂, ◌∙◌, arith}
use lib.Dec.{eqb, leb, eqb-zero-suc, eqb-suc-zero, eqb-suc-suc}
use Rattle.std.proofs.lemmas.Bool.{cond-false, leb-true}
use Rattle.std.proofs.lemmas.List.Elements.{All-get_or}
use Rattle.std.proofs.lemmas.List.Sums.{AllPass-from_list_all}
use Rattle.std.specs.List.{list_all}
use Rattle.spec.specs.Outcome.{given, refused}
use Rattle.spec.specs.Tree
use Rattle.spec.specs.Verdict.{truth_of}
use Rattle.spec.specs.Tree.{Expr, and, or}
use Rattle.counting.specs.declared.entry.TruthCounts.{TruthCounts}
use Rattle.counting.specs.Formulas.{joins, splits, next, below, formulas}
use Rattle.counting.specs.Counts.{counts, most_nodes, truth_counts_on}
use Rattle.counting.specs.Sums.{none, ones, all, plus, opposites, both}
use Rattle.counting.proofs.Recurrence.{below_formulas}
use Rattle.counting.proofs.Counted.{counts_none, counts_append, counts_not, counts_joins}

-- ---- the recurrence

split_counts : (ℕ → TruthCounts) → ℕ → ℕ → TruthCounts
split_counts f rest zero = none
split_counts f rest (suc left) =
    plus (split_counts f rest left) (both (f left) (f (rest - left)))

next_count : (ℕ → TruthCounts) → ℕ → TruthCounts
next_count f zero = none
next_count f (suc zero) = ones
next_count f (suc (suc n)) = plus (opposites (f (suc n))) (split_counts f (suc n) (suc n))

counts_splits : (fs : ℕ → List Expr) (rest lefts : ℕ)
    → counts (splits fs rest lefts) ≡ split_counts (λ k. counts (fs k)) rest lefts
unfolding splits split_counts
counts_splits fs rest zero = counts_none
counts_splits fs rest (suc left) =
    counts_append (splits fs rest left) (joins (fs left) (fs (rest - left)))
    ∙ ap₂ plus (counts_splits fs rest left) (counts_joins (fs left) (fs (rest - left)))

counts_next : (fs : ℕ → List Expr) (n : ℕ) → counts (next fs n) ≡ next_count (λ k. counts (fs k)) n
unfolding next next_count counts truth_of
counts_next fs zero = refl
counts_next fs (suc zero) = refl
counts_next fs (suc (suc n)) =
    counts_append (map Tree.not (fs (suc n))) (splits fs (suc n) (suc n))
    ∙ ap₂ plus (counts_not (fs (suc n))) (counts_splits fs (suc n) (suc n))

-- ---- the table

grow : List TruthCounts → List TruthCounts
grow cs = cs ++ next_count (λ k. get_or cs k none) (length cs) ∷ []

table : ℕ → List TruthCounts
table zero = []
table (suc n) = grow (table n)

pub snoc_at : (xs : List TruthCounts) (y : TruthCounts) (k : ℕ)
    → get_or (xs ++ y ∷ []) k none ≡ cond (eqb k (length xs)) y (get_or xs k none)
snoc_at [] y zero = refl
snoc_at [] y (suc k) = sym (cond-false (eqb (suc k) 0) y none (eqb-suc-zero k))
snoc_at (x ∷ xs) y zero = sym (cond-false (eqb 0 (suc (length xs))) y x (eqb-zero-suc (length xs)))
snoc_at (x ∷ xs) y (suc k) =
    snoc_at xs y k ∙ ap (λ (b : Bool). cond b y (get_or xs k none)) (sym (eqb-suc-suc k (length xs)))

length_table : (n : ℕ) → length (table n) ≡ n
unfolding table grow
length_table zero = refl
length_table (suc n) = simp length-append (omega (arith, length_table n))

cond_counts : (b : Bool) (xs ys : List Expr) → cond b (counts xs) (counts ys) ≡ counts (cond b xs ys)
cond_counts true xs ys = refl
cond_counts false xs ys = refl

table_at : (n k : ℕ) → get_or (table n) k none ≡ counts (below n k)
unfolding table grow below
table_at zero k = sym counts_none
table_at (suc n) k =
    snoc_at (table n) _ k
    ∙ ap (λ (m : ℕ). cond (eqb k m) (next_count (λ j. get_or (table n) j none) m) (get_or (table n) k none))
    (length_table n)
    ∙ ap (λ (f : ℕ → TruthCounts). cond (eqb k n) (next_count f n) (f k)) (λ i j. table_at n j i)
    ∙ ap (λ (c : TruthCounts). cond (eqb k n) c (counts (below n k))) (sym (counts_next (below n) n))
    ∙ cond_counts (eqb k n) (next (below n) n) (below n k)

-- the table for all that are counted
abbrev whole : List TruthCounts
whole = table (suc most_nodes)

counted : (n : ℕ) → n ≤ most_nodes → counts (formulas n) ≡ get_or whole n none
counted n h = sym (table_at (suc most_nodes) n ∙ ap counts (below_formulas (suc most_nodes) n (omega arith)))

largest : list_all (λ c. leb (all c) (2 ^ 62)) whole ≡ true
unfolding table grow next_count split_counts
largest = refl

pub small : (n : ℕ) → n ≤ most_nodes → all (counts (formulas n)) ≤ 2 ^ 62
small n h =
    let low : n < length whole = omega (arith, length_table (suc most_nodes)) in
    let passes : leb (all (get_or whole n none)) (2 ^ 62) ≡ true =
    All-get_or (λ c. leb (all c) (2 ^ 62) ≡ true) whole n none low (AllPass-from_list_all _ whole largest) in
    omega (arith, ap all (counted n h), leb-true _ _ passes)

-- ---- the first counts

pub counts_0 : counts (formulas 0) ≡ none
unfolding table grow next_count
counts_0 = counted 0 (omega arith)

pub counts_1 : counts (formulas 1) ≡ ones
unfolding table grow next_count split_counts
counts_1 = counted 1 (omega arith)

-- ---- "For n = 3 it is 6, 6, 9"; both ends

answer_3 : truth_counts_on 3 ≡ given (record { yes = 6; no = 6; unknown = 9 })
unfolding table grow next_count split_counts
answer_3 = ap given (counted 3 (omega arith))

answer_1 : truth_counts_on 1 ≡ given ones
answer_1 = ap given counts_1

answer_20 : truth_counts_on 20
    ≡ given (record { yes = 2724859587026; no = 2724859587026; unknown = 9540311818085 })
unfolding table grow next_count split_counts
answer_20 = ap given (counted 20 (omega arith))

refused_0 : truth_counts_on 0 ≡ refused 19 0
refused_0 = refl

refused_21 : truth_counts_on 21 ≡ refused 19 21
refused_21 = refl
