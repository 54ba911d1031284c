-- Worked examples of the stored form, computed.
-- Assumes nothing.
use mathlib.Core.List.{List, [], ◌∷◌, ◌++◌}
use mathlib.Core.Path.{◌≡◌, refl}
use Prim.Native.Nat.{ℕ, ◌+◌, ◌*◌}
use lib.ListN.{length, get_or, take, replicate, set}
use Rattle.spec.specs.Outcome.{given, refused, size}
use Rattle.spec.specs.Blocks.{words_of, bytes_of, total, block, blocks, stored, write_blocks}
use Rattle.spec.specs.Blocks.{judged_all, all_zero, rule_words, read_blocks, not_yet, counted, last_block_on}

-- document 01, 'Cases': rule words 1 37 257 1 1 33 2 0 1 39, "word 0 is 655360, sum 655732"
abbrev example : List ℕ
example = 1 ∷ 37 ∷ 257 ∷ 1 ∷ 1 ∷ 33 ∷ 2 ∷ 0 ∷ 1 ∷ 39 ∷ []

example_head : get_or (words_of (stored example)) 0 0 ≡ 655360
unfolding words_of bytes_of blocks total
example_head = refl

example_sum : get_or (words_of (stored example)) 127 0 ≡ 655732
unfolding words_of bytes_of blocks total
example_sum = refl

example_bytes : length (stored example) ≡ 512
unfolding bytes_of blocks total
example_bytes = refl

example_read : read_blocks (stored example) 10 ≡ given example
unfolding words_of bytes_of blocks total judged_all all_zero rule_words
example_read = refl

-- refusals: an empty file, one byte too many, a wrong count, number, sum and unused word, room for nine words only
refused_1 : (read_blocks [] 10 ≡ refused 1 0) × (read_blocks (stored example ++ (0 ∷ [])) 10 ≡ refused 1 513)
unfolding words_of bytes_of blocks total judged_all all_zero rule_words
refused_1 = (refl, refl)

refused_2_count : read_blocks (set (stored example) 2 127) 10 ≡ refused 2 0
unfolding words_of bytes_of blocks total judged_all all_zero rule_words
refused_2_count = refl

refused_2_number : read_blocks (set (stored example) 0 1) 10 ≡ refused 2 0
unfolding words_of bytes_of blocks total judged_all all_zero rule_words
refused_2_number = refl

refused_3 : read_blocks (set (stored example) 508 0) 10 ≡ refused 3 0
unfolding words_of bytes_of blocks total judged_all all_zero rule_words
refused_3 = refl

-- an unused word of 1 with the sum that it makes: 3 no longer holds, 4 does; without that sum 3 comes first
refused_4 : read_blocks (set (set (stored example) 44 1) 508 117) 10 ≡ refused 4 0
unfolding words_of bytes_of blocks total judged_all all_zero rule_words
refused_4 = refl

refused_3_before_4 : read_blocks (set (stored example) 44 1) 10 ≡ refused 3 0
unfolding words_of bytes_of blocks total judged_all all_zero rule_words
refused_3_before_4 = refl

refused_11 : read_blocks (stored example) 9 ≡ refused 11 10
unfolding words_of bytes_of blocks total judged_all all_zero rule_words
refused_11 = refl

-- 127 words take two blocks, of 126 words and 1; writing them in 1,023 bytes is refused, and so is writing no words
two_blocks : words_of (stored (replicate 127 9)) ≡ block 0 (replicate 126 9) ++ block 1 (9 ∷ [])
unfolding words_of bytes_of blocks total
two_blocks = refl

written_11 : size (write_blocks (replicate 127 9) 1023) ≡ refused 11 1024
unfolding bytes_of blocks total
written_11 = refl

written_5 : (write_blocks [] 512 ≡ refused 5 0) × (write_blocks (replicate 16129 0) 0 ≡ refused 5 16129)
unfolding bytes_of blocks total
written_5 = (refl, refl)

-- ---- document 02, 2.2: the last block, word by word

-- a last block with number 3, of the words above
abbrev third : List ℕ
third = block 3 example

-- nothing before the 128th word; then the count; and words behind it change nothing
last_words : (last_block_on 3 [] ≡ given not_yet) × (last_block_on 3 (take 127 third) ≡ given not_yet)
    × (last_block_on 3 third ≡ given (counted 10)) × (last_block_on 3 (third ++ (7 ∷ 7 ∷ [])) ≡ given (counted 10))
unfolding total all_zero
last_words = (refl, refl, refl, refl)

-- 1 and 126 rule words are right, 0 and 127 are not; where the count leaves out the last rule word, that is unused
last_counts : (last_block_on 3 (block 3 (9 ∷ [])) ≡ given (counted 1))
    × (last_block_on 3 (block 3 (replicate 126 9)) ≡ given (counted 126))
    × (last_block_on 3 (block 3 []) ≡ refused 2 1536)
    × (last_block_on 3 (set third 0 (3 + 65536 * 127)) ≡ refused 2 1536)
    × (last_block_on 3 (set (set third 0 (3 + 65536 * 9)) 127 590199) ≡ refused 4 1536)
unfolding total all_zero
last_counts = (refl, refl, refl, refl, refl)

-- another number than the block has, the highest there is among them; a number is asked before the sum
last_numbers : (last_block_on 2 third ≡ refused 2 1024) × (last_block_on 65535 third ≡ refused 2 33553920)
    × (last_block_on 65535 (block 65535 example) ≡ given (counted 10))
    × (last_block_on 2 (set third 127 0) ≡ refused 2 1024)
unfolding total all_zero
last_numbers = (refl, refl, refl, refl)

-- "Answer 3 still comes before 4": the first and the last unused word, with a sum that leaves them out and with their
-- own; two that cancel each other in the sum
last_unused : (last_block_on 3 (set third 11 1) ≡ refused 3 1536) × (last_block_on 3 (set third 126 1) ≡ refused 3 1536)
    × (last_block_on 3 (set (set third 11 1) 127 655736) ≡ refused 4 1536)
    × (last_block_on 3 (set (set third 126 1) 127 655736) ≡ refused 4 1536)
    × (last_block_on 3 (set (set third 11 5) 12 4294967291) ≡ refused 4 1536)
unfolding total all_zero
last_unused = (refl, refl, refl, refl, refl)
