-- The values of each answer, as a caller of the C functions is told them.
use Rattle.std.specs.Prelude.{Option, Some, None, Bool, cond, List, [], ◌∷◌, ℕ, length}
use Rattle.spec.specs.Blocks.{Known, not_yet, counted}
use Rattle.spec.specs.Inlining.{Safety, safe_nodes, unsafe_after, Inline, neither, none_value, type_test, safe_at}
use Rattle.spec.specs.Pruning.{Pruned}
use Rattle.def_inline.specs.Told.{safety_of, inline_of}
use Rattle.def_inline.specs.declared.expr.Safety as code
use Rattle.def_inline.specs.declared.body.InlineDefBody.{InlineDefBody}
use Rattle.prune.specs.declared.entry.Counts.{Counts}
use Rattle.counting.specs.declared.entry.TruthCounts.{TruthCounts}
use Rattle.spec.specs.declared.Truth.{Truth}
use Rattle.spec.specs.declared.Truth.TheVariants as truth

-- how many elements were put into the result
abbrev pub size_value : List ℕ → List ℕ
size_value xs = length xs ∷ []

-- 0 and 0 where there is no answer yet; 1 and the count of rule words
abbrev pub known_values : Known → List ℕ
known_values not_yet = 0 ∷ 0 ∷ []
known_values (counted count) = 1 ∷ count ∷ []

-- 0 no, 1 yes
abbrev pub bool_value : Bool → List ℕ
bool_value b = cond b 1 0 ∷ []

-- 0 no, 1 yes, 2 unknown
abbrev pub truth_value : Truth → List ℕ
truth_value truth.No = 0 ∷ []
truth_value truth.Yes = 1 ∷ []
truth_value truth.Unknown = 2 ∷ []

-- 0 neither, 1 type test with its text, 2 safe with the word where the expression begins, 3 None
abbrev pub inline_values : Inline → List ℕ
inline_values neither = 0 ∷ 0 ∷ []
inline_values (type_test text) = 1 ∷ text ∷ []
inline_values (safe_at at) = 2 ∷ at ∷ []
inline_values none_value = 3 ∷ 0 ∷ []

-- 0 no, 1 yes; and the nodes entered
abbrev pub safe_values : Safety → List ℕ
safe_values (safe_nodes nodes) = 1 ∷ nodes ∷ []
safe_values (unsafe_after nodes) = 0 ∷ nodes ∷ []

-- how many words were put into the result, and the foldable count
abbrev pub pruned_values : Pruned → List ℕ
pruned_values p = length p.words ∷ p.foldable ∷ []

-- how many have truth yes, no and unknown
abbrev pub truth_counts_values : TruthCounts → List ℕ
truth_counts_values c = c.yes ∷ c.no ∷ c.unknown ∷ []

-- ---- the same of the code's answers

abbrev pub shown_known : Option ℕ → List ℕ
shown_known None = known_values not_yet
shown_known (Some count) = known_values (counted count)

abbrev pub shown_safety : code.Safety → List ℕ
shown_safety s = safe_values (safety_of s)

abbrev pub shown_inline : InlineDefBody → List ℕ
shown_inline i = inline_values (inline_of i)

abbrev pub shown_counts : Counts → List ℕ
shown_counts c = c.size ∷ c.foldable ∷ []
