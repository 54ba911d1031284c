-- The stored form of a rule: document 01, the end of 'Words', and of 'Turned back' refusals 1 to 5 and 11.
use Rattle.std.specs.Prelude.{Bool, true, false, cond, ◌&&◌, List, [], ◌∷◌, ◌++◌, ℕ, zero, suc, ◌+◌, ◌-◌, ◌*◌, ◌/◌, ◌%◌}
use Rattle.std.specs.Prelude.{◌^◌, eqb, leb, length, get_or, take, drop, replicate}
use Rattle.spec.specs.Outcome.{Outcome, given, refused, ◌then◌, fitted}

-- "128 little-endian words": a word's four bytes, the lowest first
abbrev pub word_of : ℕ → ℕ → ℕ → ℕ → ℕ
word_of a b c d = a + 256 * b + 65536 * c + 16777216 * d

abbrev pub bytes_of_word : ℕ → List ℕ
bytes_of_word w = (w % 256) ∷ (w / 256 % 256) ∷ (w / 65536 % 256) ∷ (w / 16777216 % 256) ∷ []

-- the words of a run of bytes; fewer than four bytes at its end make none
unfoldable pub words_of : List ℕ → List ℕ
words_of [] = []
words_of (a ∷ []) = []
words_of (a ∷ b ∷ []) = []
words_of (a ∷ b ∷ c ∷ []) = []
words_of (a ∷ b ∷ c ∷ d ∷ rest) = word_of a b c d ∷ words_of rest

unfoldable pub bytes_of : List ℕ → List ℕ
bytes_of [] = []
bytes_of (w ∷ ws) = bytes_of_word w ++ bytes_of ws

-- "the sum of the others modulo 2^32"
unfoldable pub total : List ℕ → ℕ
total [] = 0
total (w ∷ ws) = w + total ws

abbrev pub checksum : List ℕ → ℕ
checksum ws = total ws % 2 ^ 32

-- ---- writing

-- "word 0 holds the block's number from 0 (bits 0 to 15) and its count of rule words (16 to 31); then 126 rule words":
-- the 127 words that are summed, for at most 126 rule words; those not used are zero
abbrev pub body : ℕ → List ℕ → List ℕ
body number ws = (number + 65536 * length ws) ∷ (ws ++ replicate (126 - length ws) 0)

-- "word 127 is the sum of the others"
abbrev pub block : ℕ → List ℕ → List ℕ
block number ws = body number ws ++ (checksum (body number ws) ∷ [])

-- "Every block but the last is full": so many blocks, numbered on from `number`
unfoldable pub blocks : ℕ → ℕ → List ℕ → List ℕ
blocks zero number ws = []
blocks (suc left) number ws = block number (take 126 ws) ++ blocks left (suc number) (drop 126 ws)

abbrev pub block_count : ℕ → ℕ
block_count n = (n + 125) / 126

abbrev pub stored : List ℕ → List ℕ
stored ws = bytes_of (blocks (block_count (length ws)) 0 ws)

-- refusal 5: "There are 0 or over 16,128 words (count)"
abbrev pub count_right : ℕ → Bool
count_right n = leb 1 n && leb n 16128

-- what the block writer gives for words and room in bytes: 5, then 11
abbrev pub write_blocks : List ℕ → ℕ → Outcome (List ℕ)
write_blocks ws room = cond (count_right (length ws)) (fitted room (stored ws)) (refused 5 (length ws))

-- ---- reading. Below `ws` is a block's words and whatever follows the block.

-- refusal 1: "The file is empty, over 65,536 bytes or no multiple of 512 (length)"
abbrev pub length_right : ℕ → Bool
length_right n = leb 1 n && (leb n 65536 && eqb (n % 512) 0)

-- bits 0 to 15 and bits 16 to 31 of word 0
abbrev pub number_in : ℕ → ℕ
number_in head = head % 65536

abbrev pub count_in : ℕ → ℕ
count_in head = head / 65536

abbrev pub used_in : List ℕ → ℕ
used_in ws = count_in (get_or ws 0 0)

-- refusal 2: "A block's number or count is wrong, the last one's being 1 to 126"
abbrev pub used_right : Bool → ℕ → Bool
used_right true used = leb 1 used && leb used 126
used_right false used = eqb used 126

abbrev pub head_right : Bool → ℕ → ℕ → Bool
head_right last number head = eqb (number_in head) number && used_right last (count_in head)

-- refusals 2 and 3 of one block, by its number, its word 0, its sum and its word 127
-- ("the byte where the block begins"; "That block's sum is wrong (the same byte)")
abbrev pub judged : Bool → ℕ → ℕ → ℕ → ℕ → Outcome (Unit {0})
judged last number head sum kept =
    cond (head_right last number head) (cond (eqb sum kept) (given tt) (refused 3 (512 * number)))
    (refused 2 (512 * number))

abbrev pub block_judged : Bool → ℕ → List ℕ → Outcome (Unit {0})
block_judged last number ws = judged last number (get_or ws 0 0) (checksum (take 127 ws)) (get_or ws 127 0)

-- "Blocks go one by one through 2 and 3"
unfoldable pub judged_all : ℕ → ℕ → List ℕ → Outcome (Unit {0})
judged_all zero number ws = given tt
judged_all (suc left) number ws = block_judged (eqb left 0) number ws then judged_all left (suc number) (drop 128 ws)

-- refusal 4: "An unused rule word is not zero (the byte where its block begins)"; only the last block has any
unfoldable pub all_zero : List ℕ → Bool
all_zero [] = true
all_zero (w ∷ ws) = eqb w 0 && all_zero ws

abbrev pub unused : List ℕ → List ℕ
unused ws = take (126 - used_in ws) (drop (1 + used_in ws) ws)

abbrev pub unused_judged : ℕ → List ℕ → Outcome (Unit {0})
unused_judged number ws = cond (all_zero (unused ws)) (given tt) (refused 4 (512 * number))

-- the rule words of so many blocks
unfoldable pub rule_words : ℕ → List ℕ → List ℕ
rule_words zero ws = []
rule_words (suc left) ws = take (used_in ws) (drop 1 ws) ++ rule_words left (drop 128 ws)

-- refusals 2 to 4 of a file that has `suc before` blocks
abbrev pub file_judged : ℕ → List ℕ → Outcome (Unit {0})
file_judged count ws = judged_all count 0 ws then unused_judged (count - 1) (drop (128 * (count - 1)) ws)

-- what the block reader gives for a file and room in words: 1, then 2 and 3 block by block, then 4, then 11
abbrev pub read_blocks : List ℕ → ℕ → Outcome (List ℕ)
read_blocks file room =
    cond (length_right (length file))
    (file_judged (length file / 512) (words_of file) then fitted room (rule_words (length file / 512) (words_of file)))
    (refused 1 (length file))

-- ---- the last block, word by word: document 02, 2.2

-- what is known of a block whose words come one by one: nothing yet, or how many rule words it has
pub data Known : Type 0 where
  not_yet : Known
  counted : ℕ → Known

-- "the loader's answer for that block": 2, 3 and then 4, or its count of rule words
abbrev pub last_block : ℕ → List ℕ → Outcome Known
last_block number ws = block_judged true number ws then unused_judged number ws then given (counted (used_in ws))

-- "takes these words in order, and from the 128th on gives the loader's answer": nothing before, and no word behind
-- the 128th is one of the block's
abbrev pub last_block_on : ℕ → List ℕ → Outcome Known
last_block_on number ws = cond (leb 128 (length ws)) (last_block number (take 128 ws)) (given not_yet)

-- that it is the loader's: `read_blocks` of a file with so many blocks before the last judges these, one by one through
-- 2 and 3, then answers for the last, and then asks for room (`read_last` of proofs/LastBlocks.antt)
unfoldable pub judged_before : ℕ → ℕ → List ℕ → Outcome (Unit {0})
judged_before zero number ws = given tt
judged_before (suc left) number ws = block_judged false number ws then judged_before left (suc number) (drop 128 ws)

abbrev pub last_reached : ℕ → List ℕ → Outcome Known
last_reached before ws = judged_before before 0 ws then last_block before (drop (128 * before) ws)
