-- How many of a list of expressions have each truth, and what the entry point answers: document 02, 2.13.
use Rattle.std.specs.Prelude.{cond, List, ◌≡◌, ℕ}
use Rattle.std.specs.List.{count_by}
use Rattle.spec.specs.Outcome.{Outcome, given, refused}
use Rattle.spec.specs.Grammar.{within}
use Rattle.spec.specs.Tree.{Expr}
use Rattle.spec.specs.Verdict.{truth_of}
use Rattle.spec.specs.Same.{same_truth}
use Rattle.spec.specs.declared.Truth.{Truth}
use Rattle.spec.specs.declared.Truth.TheVariants as truth
use Rattle.counting.specs.declared.entry.TruthCounts.{TruthCounts}
use Rattle.counting.specs.Formulas.{Listed, formulas}

-- "how many have" this truth, by the verdict's definition (document 01, 'Verdicts on one expression')
abbrev pub having : Truth → List Expr → ℕ
having t es = count_by (λ e. same_truth (truth_of e) t) es

-- "how many have truth yes, no and unknown"
unfoldable pub counts : List Expr → TruthCounts
counts es = record { yes = having truth.Yes es; no = having truth.No es; unknown = having truth.Unknown es }

-- "n from 1 to 20"
abbrev pub most_nodes : ℕ
most_nodes = 20

-- "19, n outside 1 to 20 (n)"
abbrev pub truth_counts_on : ℕ → Outcome TruthCounts
truth_counts_on n = cond (within 1 most_nodes n) (given (counts (formulas n))) (refused 19 n)

-- "proved to count every such expression once": counts that are those of whatever list has each once and nothing else,
-- and there is such a list
pub record EachOnce (n : ℕ) (c : TruthCounts) : Type 0 where
  pub list : List Expr
  pub listed : Listed n list
  pub counted : (es : List Expr) → Listed n es → c ≡ counts es
