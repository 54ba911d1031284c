-- Pruning a rule: document 01, 'Turned back', refusals 5 to 11 in their order, and what becomes of the lent words.
use Rattle.std.specs.Prelude.{cond, List, ◌++◌, ℕ, ◌+◌, ◌*◌, leb, ltb, length, drop, replicate}
use Rattle.spec.specs.Outcome.{Outcome, given, refused, fitted}
use Rattle.spec.specs.Blocks.{count_right}
use Rattle.spec.specs.Rose.{enc}
use Rattle.spec.specs.Reading.{bind}
use Rattle.spec.specs.Tree.{Stmts, rose_l}
use Rattle.spec.specs.Meaning.{read_rule}
use Rattle.spec.specs.PassStmts.{optimize}
use Rattle.spec.specs.Foldable.{foldable_count}

-- what is given: the words of the pruned rule, and the foldable count
pub record Pruned : Type 0 where
  pub words : List ℕ
  pub foldable : ℕ

-- refusal 11: "The result buffer is short (size needed, in that buffer's elements)"
abbrev pub pruned : ℕ → Stmts → Outcome Pruned
pruned room ss =
    bind (fitted room (enc (rose_l (optimize ss)))) (λ ws. given (record { words = ws; foldable = foldable_count ss }))

-- refusal 6: "Work words are under 16 × words + 64 (that number)"
abbrev pub work_words : ℕ → ℕ
work_words n = 16 * n + 64

-- what pruning gives for words, so many work words and so many result words: refusals 5, 6, 7 to 10, and 11
abbrev pub prune_on : List ℕ → ℕ → ℕ → Outcome Pruned
prune_on ws work room =
    cond (count_right (length ws))
    (cond (ltb work (work_words (length ws))) (refused 6 (work_words (length ws))) (bind (read_rule ws) (pruned room)))
    (refused 5 (length ws))

-- what a caller is told: the size and the foldable count
abbrev pub told : Outcome Pruned → Outcome (ℕ × ℕ)
told (given p) = given (length p.words, p.foldable)
told (refused number place) = refused number place

-- "Result space past the answer keeps its contents"; a refusal alters nothing
abbrev pub result_after : Outcome Pruned → List ℕ → List ℕ
result_after (given p) old = p.words ++ drop (length p.words) old
result_after (refused number place) old = old

-- "work is untouched by 1 to 6 and zero after the rest"
abbrev pub work_after : Outcome Pruned → List ℕ → List ℕ
work_after (given p) old = replicate (length old) 0
work_after (refused number place) old = cond (leb number 6) old (replicate (length old) 0)
