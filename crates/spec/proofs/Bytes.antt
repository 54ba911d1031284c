-- Laws on little-endian words: words of bytes, bytes of words, and sums.
-- Assumes nothing.
use mathlib.Core.List.{List, [], ◌∷◌, ◌++◌, append_assoc}
use mathlib.Core.Path.{◌≡◌, refl, ap, ap₂, sym, ◌∙◌}
use Prim.Native.Nat.{ℕ, zero, suc, ◌+◌, ◌*◌, ◌/◌, ◌%◌, ◌^◌, ◌≤◌, ◌<◌}
use native.Mathlib.Nat.{zero-add}
use native.Mathlib.Omega.{arith}
use lib.ListN.{length, get_or, take, drop}
use lib.Seq.{take-suc}
use Rattle.std.proofs.lemmas.Grind.{common_steps}
use Rattle.spec.specs.Blocks.{word_of, bytes_of_word, words_of, bytes_of, total, checksum}

-- every element is below a bound, also what `get_or` gives past the end
pub record Below (bound : ℕ) (xs : List ℕ) : Type 0 where
  pub each : (k : ℕ) → get_or xs k 0 < bound

pub below_tail : {bound x : ℕ} {xs : List ℕ} → Below bound (x ∷ xs) → Below bound xs
below_tail b = record { each = λ k. b.each (suc k) }

four_more : (k : ℕ) → 4 * suc k ≡ suc (suc (suc (suc (4 * k))))
four_more k = omega arith

pub length_bytes_of : (ws : List ℕ) → length (bytes_of ws) ≡ 4 * length ws
unfolding bytes_of
length_bytes_of [] = refl
length_bytes_of (w ∷ ws) = omega (arith, length_bytes_of ws)

pub length_words_of : (f : List ℕ) → length (words_of f) ≡ length f / 4
unfolding words_of
length_words_of (a ∷ b ∷ c ∷ d ∷ rest) = omega (arith, length_words_of rest)
length_words_of _ = refl

-- word k of a run of bytes
pub get_or_words_of : (f : List ℕ) (k : ℕ) → 4 * k + 4 ≤ length f
    → get_or (words_of f) k 0
    ≡ word_of (get_or f (4 * k) 0) (get_or f (4 * k + 1) 0) (get_or f (4 * k + 2) 0) (get_or f (4 * k + 3) 0)
unfolding words_of
get_or_words_of (a ∷ b ∷ c ∷ d ∷ rest) zero h = refl
get_or_words_of (a ∷ b ∷ c ∷ d ∷ rest) (suc k) h =
    let f : List ℕ = a ∷ b ∷ c ∷ d ∷ rest in
    let e0 : 4 * suc k ≡ suc (suc (suc (suc (4 * k)))) = omega arith in
    let e1 : 4 * suc k + 1 ≡ suc (suc (suc (suc (4 * k + 1)))) = omega arith in
    let e2 : 4 * suc k + 2 ≡ suc (suc (suc (suc (4 * k + 2)))) = omega arith in
    let e3 : 4 * suc k + 3 ≡ suc (suc (suc (suc (4 * k + 3)))) = omega arith in
    rw (e1, e2, e3, e0) (get_or_words_of rest k (omega arith))
get_or_words_of _ k h = absurd (omega arith)

pub drop_words_of : (k : ℕ) (f : List ℕ) → drop k (words_of f) ≡ words_of (drop (4 * k) f)
unfolding words_of
drop_words_of zero f = refl
drop_words_of (suc k) [] = rw (four_more k)
drop_words_of (suc k) (a ∷ []) = rw (four_more k)
drop_words_of (suc k) (a ∷ b ∷ []) = rw (four_more k)
drop_words_of (suc k) (a ∷ b ∷ c ∷ []) = rw (four_more k)
drop_words_of (suc k) (a ∷ b ∷ c ∷ d ∷ rest) = rw (four_more k) (drop_words_of k rest)

-- a number is its four digits in base 256, if it has no more
pub word_of_bytes : (w : ℕ) → w < 2 ^ 32 → word_of (w % 256) (w / 256 % 256) (w / 65536 % 256) (w / 16777216 % 256) ≡ w
word_of_bytes w h = grind (arith, common_steps)

pub words_of_bytes_of : (ws rest : List ℕ) → Below (2 ^ 32) ws → words_of (bytes_of ws ++ rest) ≡ ws ++ words_of rest
unfolding words_of bytes_of
words_of_bytes_of [] rest b = refl
words_of_bytes_of (w ∷ ws) rest b = ap₂ ◌∷◌ (word_of_bytes w (b.each 0)) (words_of_bytes_of ws rest (below_tail b))

-- four bytes are their word
module _ (a b c d : ℕ) (ha : a < 256) (hb : b < 256) (hc : c < 256) (hd : d < 256) where
  byte_0 : word_of a b c d % 256 ≡ a
  byte_0 = omega arith

  byte_1 : word_of a b c d / 256 % 256 ≡ b
  byte_1 = omega arith

  byte_2 : word_of a b c d / 65536 % 256 ≡ c
  byte_2 = omega arith

  byte_3 : word_of a b c d / 16777216 % 256 ≡ d
  byte_3 = omega arith

pub bytes_of_words_of : (f : List ℕ) → Below 256 f → length f % 4 ≡ 0 → bytes_of (words_of f) ≡ f
unfolding words_of bytes_of
bytes_of_words_of [] h e = refl
bytes_of_words_of (a ∷ []) h e = absurd (omega arith)
bytes_of_words_of (a ∷ b ∷ []) h e = absurd (omega arith)
bytes_of_words_of (a ∷ b ∷ c ∷ []) h e = absurd (omega arith)
bytes_of_words_of (a ∷ b ∷ c ∷ d ∷ rest) h e =
    let ha : a < 256 = h.each 0 in
    let hb : b < 256 = h.each 1 in
    let hc : c < 256 = h.each 2 in
    let hd : d < 256 = h.each 3 in
    rw (byte_0 a b c d ha hb hc hd, byte_1 a b c d ha hb hc hd, byte_2 a b c d ha hb hc hd, byte_3 a b c d ha hb hc hd)
    (ap (λ (l : List ℕ). a ∷ b ∷ c ∷ d ∷ l)
    (bytes_of_words_of rest (below_tail (below_tail (below_tail (below_tail h)))) (omega arith)))

pub bytes_of_append : (p q : List ℕ) → bytes_of (p ++ q) ≡ bytes_of p ++ bytes_of q
unfolding bytes_of
bytes_of_append [] q = refl
bytes_of_append (w ∷ ws) q =
    ap (λ (l : List ℕ). bytes_of_word w ++ l) (bytes_of_append ws q)
    ∙ sym (append_assoc (bytes_of_word w) (bytes_of ws) (bytes_of q))

-- ---- sums

pub total_append : (p q : List ℕ) → total (p ++ q) ≡ total p + total q
unfolding total
total_append [] q = sym (zero-add (total q))
total_append (w ∷ ws) q = omega (arith, total_append ws q)

-- a running sum, one word further
pub checksum_more : (ws : List ℕ) (i : ℕ) → i < length ws
    → (checksum (take i ws) + get_or ws i 0) % 2 ^ 32 ≡ checksum (take (suc i) ws)
unfolding total
checksum_more ws i h = rw (take-suc ws i 0 h) (omega (arith, total_append (take i ws) (get_or ws i 0 ∷ [])))
