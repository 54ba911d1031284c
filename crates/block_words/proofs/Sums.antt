-- The sum of a block's words with one word more.
-- Assumes nothing.
use Rattle.std.proofs.Common.{◌≡◌, ℕ, ◌+◌, ◌%◌, ◌^◌, ◌≤◌, ◌<◌, List, length, get_or, take, sym, ap, ap₂, ◌∙◌}
use Rattle.std.proofs.Common.{add-one, arith}
use Rattle.spec.specs.Blocks.{checksum, words_of}
use Rattle.spec.proofs.Bytes.{checksum_more, length_words_of}

pub sum_more : (bytes : List ℕ) (i sum word : ℕ) → 508 ≤ length bytes → i < 127
    → sum ≡ checksum (take i (words_of bytes)) → word ≡ get_or (words_of bytes) i 0
    → (sum + word) % 2 ^ 32 ≡ checksum (take (i + 1) (words_of bytes))
sum_more bytes i sum word room more so_far read =
    let ws = words_of bytes in
    let long : i < length ws = omega (arith, length_words_of bytes) in
    ap₂ (λ (m n : ℕ). (m + n) % 2 ^ 32) so_far read
    ∙ checksum_more ws i long
    ∙ ap (λ (n : ℕ). checksum (take n ws)) (sym (add-one i))
