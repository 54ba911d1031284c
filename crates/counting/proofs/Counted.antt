-- The counts of a list from those of its parts: Not of each, and And and Or of each with each.
-- Assumes nothing.
use Rattle.std.proofs.Common.{◌≡◌, List, [], ◌∷◌, ◌++◌, map, cond, refl, sym, ap, ap₂, ◌∙◌, arith}
use Rattle.std.proofs.lemmas.List.Sums.{sum_by-append, sum_by-cons}
use Rattle.spec.specs.Tree
use Rattle.spec.specs.Tree.{Expr, Logic, and, or, logic}
use Rattle.spec.specs.Verdict.{truth_of, opposite, joined}
use Rattle.spec.specs.Same.{same_truth}
use Rattle.spec.specs.declared.Truth.{Truth}
use Rattle.spec.specs.declared.Truth.TheVariants as truth
use Rattle.counting.specs.declared.entry.TruthCounts.{TruthCounts}
use Rattle.counting.specs.Formulas.{pairs, joins}
use Rattle.counting.specs.Counts.{counts}
use Rattle.counting.specs.Sums.{none, plus, opposites, joined_counts, both}

-- ---- counts as numbers

same_counts : (c d : TruthCounts) → c.yes ≡ d.yes → c.no ≡ d.no → c.unknown ≡ d.unknown → c ≡ d
same_counts c d y n u = λ i. record { yes = y i; no = n i; unknown = u i }

pub plus_assoc : (c d e : TruthCounts) → plus (plus c d) e ≡ plus c (plus d e)
plus_assoc c d e = same_counts _ _ (omega arith) (omega arith) (omega arith)

pub plus_none : (c : TruthCounts) → plus c none ≡ c
plus_none c = same_counts _ _ (omega arith) (omega arith) (omega arith)

-- each side's counts may be taken apart
left_plus : (l : Logic) (c d e : TruthCounts)
    → joined_counts l (plus c d) e ≡ plus (joined_counts l c e) (joined_counts l d e)
left_plus and c d e = same_counts _ _ (omega arith) (omega arith) (omega arith)
left_plus or c d e = same_counts _ _ (omega arith) (omega arith) (omega arith)

right_plus : (l : Logic) (c d e : TruthCounts)
    → joined_counts l c (plus d e) ≡ plus (joined_counts l c d) (joined_counts l c e)
right_plus and c d e = same_counts _ _ (omega arith) (omega arith) (omega arith)
right_plus or c d e = same_counts _ _ (omega arith) (omega arith) (omega arith)

left_none : (l : Logic) (c : TruthCounts) → joined_counts l none c ≡ none
left_none and c = same_counts _ _ (omega arith) (omega arith) (omega arith)
left_none or c = same_counts _ _ (omega arith) (omega arith) (omega arith)

right_none : (l : Logic) (c : TruthCounts) → joined_counts l c none ≡ none
right_none and c = same_counts _ _ (omega arith) (omega arith) (omega arith)
right_none or c = same_counts _ _ (omega arith) (omega arith) (omega arith)

-- ---- one expression

abbrev one : Truth → TruthCounts
one t = record {
  yes = cond (same_truth t truth.Yes) 1 0;
  no = cond (same_truth t truth.No) 1 0;
  unknown = cond (same_truth t truth.Unknown) 1 0;
}

each_truth : (P : Truth → Type 0) → P truth.Yes → P truth.No → P truth.Unknown → (t : Truth) → P t
each_truth P y n u truth.Yes = y
each_truth P y n u truth.No = n
each_truth P y n u truth.Unknown = u

one_opposite : (t : Truth) → one (opposite t) ≡ opposites (one t)
one_opposite = each_truth _ refl refl refl

one_joined : (l : Logic) (a b : Truth) → joined_counts l (one a) (one b) ≡ one (joined l a b)
one_joined and =
    each_truth _ (each_truth _ refl refl refl) (each_truth _ refl refl refl) (each_truth _ refl refl refl)
one_joined or =
    each_truth _ (each_truth _ refl refl refl) (each_truth _ refl refl refl) (each_truth _ refl refl refl)

counts_more : (e : Expr) (es : List Expr) → counts (e ∷ es) ≡ plus (one (truth_of e)) (counts es)
unfolding counts
counts_more e es = same_counts _ _ (sum_by-cons _ e es) (sum_by-cons _ e es) (sum_by-cons _ e es)

pub counts_none : counts [] ≡ none
unfolding counts
counts_none = refl

-- ---- lists

pub counts_append : (xs ys : List Expr) → counts (xs ++ ys) ≡ plus (counts xs) (counts ys)
unfolding counts
counts_append xs ys = same_counts _ _ (sum_by-append _ xs ys) (sum_by-append _ xs ys) (sum_by-append _ xs ys)

pub counts_not : (es : List Expr) → counts (map Tree.not es) ≡ opposites (counts es)
unfolding truth_of
counts_not [] = counts_none ∙ sym (ap opposites counts_none)
counts_not (e ∷ es) =
    counts_more (Tree.not e) (map Tree.not es) ∙ ap₂ plus (one_opposite (truth_of e)) (counts_not es)
    ∙ sym (ap opposites (counts_more e es))

counts_joined : (l : Logic) (x : Expr) (ys : List Expr)
    → counts (map (logic l x) ys) ≡ joined_counts l (one (truth_of x)) (counts ys)
unfolding truth_of
counts_joined l x [] = counts_none ∙ sym (ap (joined_counts l (one (truth_of x))) counts_none ∙ right_none l _)
counts_joined l x (y ∷ ys) =
    counts_more (logic l x y) (map (logic l x) ys)
    ∙ ap₂ plus (sym (one_joined l (truth_of x) (truth_of y))) (counts_joined l x ys)
    ∙ sym (ap (joined_counts l (one (truth_of x))) (counts_more y ys) ∙ right_plus l _ _ _)

counts_pairs : (l : Logic) (xs ys : List Expr) → counts (pairs l xs ys) ≡ joined_counts l (counts xs) (counts ys)
counts_pairs l [] ys =
    counts_none ∙ sym (ap (λ (c : TruthCounts). joined_counts l c (counts ys)) counts_none ∙ left_none l _)
counts_pairs l (x ∷ xs) ys =
    counts_append (map (logic l x) ys) (pairs l xs ys)
    ∙ ap₂ plus (counts_joined l x ys) (counts_pairs l xs ys)
    ∙ sym (ap (λ (c : TruthCounts). joined_counts l c (counts ys)) (counts_more x xs) ∙ left_plus l _ _ _)

pub counts_joins : (xs ys : List Expr) → counts (joins xs ys) ≡ both (counts xs) (counts ys)
counts_joins xs ys =
    counts_append (pairs and xs ys) (pairs or xs ys) ∙ ap₂ plus (counts_pairs and xs ys) (counts_pairs or xs ys)
