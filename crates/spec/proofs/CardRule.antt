-- The card rule of docs/EXAMPLE.md, examples/release.words, computed from its words: which of its lines have something
-- dead in them by document 02, 2.7, what pruning gives for the rule, and that nothing is dead in that.
-- Assumes nothing.
use mathlib.Core.Bool.{Bool, true, false}
use mathlib.Core.List.{List, [], ◌∷◌, ◌++◌}
use mathlib.Core.Path.{◌≡◌, refl}
use Prim.Native.Nat.{ℕ}
use lib.ListN.{length}
use Rattle.spec.specs.Outcome.{Outcome, given}
use Rattle.spec.specs.Reading.{bind}
use Rattle.spec.specs.Meaning.{read_rule}
use Rattle.spec.specs.NothingDead.{nothing_dead}
use Rattle.spec.specs.Pruning.{prune_on, work_words}
use Rattle.spec.proofs.Computing.{computing_words}

-- ---- the words of its statements, by line

abbrev line_2 : List ℕ
line_2 = 34 ∷ 769 ∷ 12 ∷ []

-- `if not not ..`, then what is under it: the inner If with its first arm, and its second arm, which is line 7
abbrev line_3 : List ℕ
line_3 = 37 ∷ 779 ∷ 779 ∷ 14 ∷ 1803 ∷ 9 ∷ 2 ∷ 0 ∷ 1803 ∷ 10 ∷ 2 ∷ 1 ∷ []

abbrev lines_4_5 : List ℕ
lines_4_5 = 37 ∷ 12 ∷ 1803 ∷ 11 ∷ 2 ∷ 1 ∷ 257 ∷ 1 ∷ 1 ∷ 34 ∷ 272 ∷ 0 ∷ 4 ∷ 0 ∷ 2 ∷ 0 ∷ []

abbrev line_7 : List ℕ
line_7 = 34 ∷ 6 ∷ []

abbrev lines_3_to_7 : List ℕ
lines_3_to_7 = line_3 ++ (1 ∷ lines_4_5) ++ (1 ∷ line_7) ++ (0 ∷ [])

abbrev lines_8_9 : List ℕ
lines_8_9 = 37 ∷ 257 ∷ 0 ∷ 1 ∷ 34 ∷ 272 ∷ 0 ∷ 4 ∷ 1 ∷ 2 ∷ 0 ∷ 0 ∷ []

abbrev lines_10_11 : List ℕ
lines_10_11 = 38 ∷ 67 ∷ 3 ∷ 7 ∷ 1 ∷ 34 ∷ 272 ∷ 0 ∷ 4 ∷ 1 ∷ 2 ∷ 3 ∷ []

abbrev line_12 : List ℕ
line_12 = 33 ∷ 9 ∷ 14 ∷ 272 ∷ 0 ∷ 1025 ∷ 0 ∷ 2 ∷ 2 ∷ 769 ∷ 3 ∷ 2 ∷ 2 ∷ 272 ∷ 0 ∷ 4 ∷ 2 ∷ 2 ∷ 2 ∷ []

abbrev line_13 : List ℕ
line_13 = 34 ∷ 272 ∷ 0 ∷ 4 ∷ 1 ∷ 769 ∷ 13 ∷ []

abbrev card_rule : List ℕ
card_rule = 6 ∷ line_2 ++ lines_3_to_7 ++ lines_8_9 ++ lines_10_11 ++ line_12 ++ line_13

-- the words that `cardtidy` prints
abbrev card_pruned : List ℕ
card_pruned =
    2 ∷ 37 ∷ 14 ∷ 1803 ∷ 9 ∷ 2 ∷ 0 ∷ 1803 ∷ 10 ∷ 2 ∷ 1 ∷ 1 ∷ 37 ∷ 1803 ∷ 11 ∷ 2 ∷ 1 ∷ 1 ∷ 34 ∷ 272 ∷ 0 ∷ 4 ∷ 0 ∷ 2 ∷
    0 ∷ 0 ∷ 0 ∷ 33 ∷ 9 ∷ 14 ∷ 272 ∷ 0 ∷ 1025 ∷ 0 ∷ 2 ∷ 2 ∷ 769 ∷ 3 ∷ 2 ∷ 2 ∷ 272 ∷ 0 ∷ 4 ∷ 2 ∷ 2 ∷ 2 ∷ []

-- ---- what is dead

-- what is found of the words of a rule
abbrev judged : List ℕ → Outcome Bool
judged ws = bind (read_rule ws) (λ ss. given (nothing_dead ss))

-- as rules: a string as a statement; an If over Not, without line 7; an empty tuple as a statement; a loop over an
-- empty list; a call behind a Return
dead_lines : (judged (1 ∷ line_2) ≡ given false)
    × (judged (1 ∷ line_3 ++ (1 ∷ lines_4_5) ++ (0 ∷ 0 ∷ [])) ≡ given false) × (judged (1 ∷ line_7) ≡ given false)
    × (judged (1 ∷ lines_10_11) ≡ given false) × (judged (2 ∷ line_12 ++ line_13) ≡ given false)
unfolding computing_words
dead_lines = (refl, refl, refl, refl, refl)

-- the inner If without line 7; `if False:`, of which 2.7 says nothing, though pruning takes it away; and line 12 and
-- line 13, each alone
other_lines : (judged (1 ∷ lines_4_5 ++ (0 ∷ [])) ≡ given true) × (judged (1 ∷ lines_8_9) ≡ given true)
    × (judged (1 ∷ line_12) ≡ given true) × (judged (1 ∷ line_13) ≡ given true)
unfolding computing_words
other_lines = (refl, refl, refl, refl)

-- the whole rule, and what becomes of it
dead_rule : judged card_rule ≡ given false
unfolding computing_words
dead_rule = refl

pruned_rule : prune_on card_rule (work_words (length card_rule)) (length card_pruned)
    ≡ given (record { words = card_pruned; foldable = 2 })
unfolding computing_words
pruned_rule = refl

nothing_left : judged card_pruned ≡ given true
unfolding computing_words
nothing_left = refl
