-- The state of a last block whose words come one by one (document 02, 2.2: "A step that keeps at most eight numbers
-- takes these words in order"), for every state, also for one that no words lead to. What a state says of the words
-- that led to it is `AsLoader` of Answers.antt.
use Rattle.std.specs.Prelude.{ℕ, ◌+◌, ◌*◌, ◌%◌, ◌^◌, true, cond, List, [], ◌∷◌, ◌==◌, nat_le, nat_lt}
use Rattle.spec.specs.Outcome.{Outcome, given, refused, ◌then◌}
use Rattle.spec.specs.Blocks.{Known, not_yet, counted, count_in, judged}
use Rattle.last_block.specs.declared.entry.LastBlock.{LastBlock}

-- before any word
abbrev pub begun : ℕ → LastBlock
begun number = record { number = number; seen = 0; head = 0; sum = 0; filled = 0; latest = 0 }

-- with one word more. Only now is it known that the word before is not the block's last one, which is no part of the
-- sum and no rule word: it joins the sum and, unless it is zero, all words up to it are filled
abbrev pub advanced : LastBlock → ℕ → LastBlock
advanced s word = record {
  number = s.number;
  seen = s.seen + 1;
  head = cond (s.seen == 0) word s.head;
  sum = (s.sum + s.latest) % 2 ^ 32;
  filled = cond (s.latest == 0) s.filled s.seen;
  latest = word;
}

-- a block has 128 words
abbrev pub stepped : LastBlock → ℕ → LastBlock
stepped s word = cond (nat_lt s.seen 128) (advanced s word) s

-- all words in order
unfoldable pub fed : LastBlock → List ℕ → LastBlock
fed s [] = s
fed s (w ∷ ws) = fed (stepped s w) ws

-- refusal 4, "An unused rule word is not zero", where more words are filled than word 0 and the rule words, or the
-- count
abbrev pub count_judged : ℕ → ℕ → ℕ → Outcome Known
count_judged number used filled = cond (nat_le filled (1 + used)) (given (counted used)) (refused 4 (512 * number))

-- 2 and 3, and then 4 or the count
abbrev pub found_in : LastBlock → Outcome Known
found_in s = judged true s.number s.head s.sum s.latest then count_judged s.number (count_in s.head) s.filled

-- "from the 128th on gives the loader's answer for that block. Answer 3 still comes before 4"
abbrev pub answer_in : LastBlock → Outcome Known
answer_in s = cond (nat_lt s.seen 128) (given not_yet) (found_in s)
