-- The chunks of a list, and words read from those of four bytes.
-- Assumes nothing.
use Rattle.std.proofs.Common.{◌≡◌, ℕ, zero, suc, ◌+◌, ◌*◌, ◌/◌, ◌≤◌, ◌<◌, List, length, get_or, take, drop}
use Rattle.std.proofs.Common.{sym, ap, ◌∙◌, add-zero, arith, w32, get_or-drop, get_or-take, drop-drop}
use native.Mathlib.Nat.{mul-zero, mul-suc, add_comm}
use Rattle.std.specs.Int.{from_le_bytes}
use Rattle.std.specs.Simd.{first_chunks}
use Rattle.spec.specs.Blocks.{word_of, words_of}
use Rattle.spec.proofs.Bytes.{get_or_words_of}

-- chunk k, of n elements each
pub chunk_at : (n count : ℕ) (xs : List ℕ) (k : ℕ) (d : List ℕ) → k < count
    → get_or (first_chunks n count xs) k d ≡ take n (drop (n * k) xs)
chunk_at n zero xs k d h = absurd (omega arith)
chunk_at n (suc count) xs zero d h = ap (λ (m : ℕ). take n (drop m xs)) (sym (mul-zero n))
chunk_at n (suc count) xs (suc k) d h =
    let e : n + n * k ≡ n * suc k = sym (mul-suc n k ∙ add_comm (n * k) n) in
    chunk_at n count (drop n xs) k d (omega arith)
    ∙ ap (take n) (drop-drop (n * k) n xs ∙ ap (λ (m : ℕ). drop m xs) e)

-- its bytes, and the number that they make
byte_at : (xs : List ℕ) (at i : ℕ) → i < 4 → get_or (take 4 (drop at xs)) i 0 ≡ get_or xs (at + i) 0
byte_at xs at i h = get_or-take 4 (drop at xs) i 0 h ∙ get_or-drop at xs i 0

le_word : (xs : List ℕ) (at : ℕ)
    → from_le_bytes w32 (take 4 (drop at xs))
    ≡ word_of (get_or xs at 0) (get_or xs (at + 1) 0) (get_or xs (at + 2) 0) (get_or xs (at + 3) 0)
le_word xs at =
    let first = byte_at xs at 0 (omega arith) ∙ ap (λ (n : ℕ). get_or xs n 0) (add-zero at) in
    omega (arith, first, byte_at xs at 1 (omega arith), byte_at xs at 2 (omega arith), byte_at xs at 3 (omega arith))

pub word_read : (bytes : List ℕ) (k : ℕ) (d : List ℕ) → 4 * k + 4 ≤ length bytes
    → from_le_bytes w32 (get_or (first_chunks 4 (length bytes / 4) bytes) k d) ≡ get_or (words_of bytes) k 0
word_read bytes k d h =
    ap (from_le_bytes w32) (chunk_at 4 (length bytes / 4) bytes k d (omega arith))
    ∙ le_word bytes (4 * k) ∙ sym (get_or_words_of bytes k h)

-- among the first n
pub front_read : (bytes : List ℕ) (n i : ℕ) (d : List ℕ) → 4 * n ≤ length bytes → i < n
    → from_le_bytes w32 (get_or (take n (first_chunks 4 (length bytes / 4) bytes)) i d) ≡ get_or (words_of bytes) i 0
front_read bytes n i d h low =
    ap (from_le_bytes w32) (get_or-take n (first_chunks 4 (length bytes / 4) bytes) i d low)
    ∙ word_read bytes i d (omega arith)
