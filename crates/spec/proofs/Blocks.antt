-- Laws on the stored form, block by block: what a written block holds, and what a block that is not refused holds.
-- Assumes nothing.
use mathlib.Core.Bool.{Bool, true, false, cond, ◌&&◌}
use mathlib.Core.List.{List, [], ◌∷◌, ◌++◌, append_assoc}
use mathlib.Core.Path.{◌≡◌, refl, ap, ap₂, sym, ◌∙◌}
use Prim.Native.Nat.{ℕ, zero, suc, ◌+◌, ◌-◌, ◌*◌, ◌≤◌, ◌<◌}
use native.Mathlib.Nat.{add_comm}
use native.Mathlib.Numerals.{add-one}
use native.Mathlib.Omega.{arith}
use borrow.Author.Tests.{eq-eqb, eqb-true}
use lib.Dec.{eqb}
use lib.ListN.{length, get_or, take, drop, replicate, length-append, length-drop, length-replicate, take-append-drop}
use lib.Seq.{take_at, drop_at, take-add, drop-drop, drop-cons, length-take-le}
use Rattle.std.proofs.lemmas.Grind.{common_steps}
use Rattle.spec.specs.Outcome.{given, refused}
use Rattle.spec.specs.Blocks.{checksum, body, block, number_in, used_in, used_right, head_right}
use Rattle.spec.specs.Blocks.{block_judged, all_zero, unused}
use Rattle.spec.proofs.Outcomes.{both}

-- ---- a block that was written, with whatever follows it

pub zeros : (n : ℕ) → all_zero (replicate n 0) ≡ true
unfolding all_zero
zeros zero = refl
zeros (suc n) = zeros n

module _ (number : ℕ) (xs rest : List ℕ) (few : length xs ≤ 126) where
  pub length_body : length (body number xs) ≡ 127
  length_body = simp (length-append, length-replicate) (omega arith)

  pub length_block : length (block number xs) ≡ 128
  length_block = simp (length-append, length-replicate) (omega arith)

  -- its first 127 words, its last one, and what follows
  pub block_body : take 127 (block number xs ++ rest) ≡ body number xs
  block_body =
      ap (take 127) (append_assoc (body number xs) (checksum (body number xs) ∷ []) rest)
      ∙ take_at (body number xs) (checksum (body number xs) ∷ rest) 127 length_body

  pub block_sum : get_or (block number xs ++ rest) 127 0 ≡ checksum (body number xs)
  block_sum = grind (arith, common_steps)

  pub block_rest : drop 128 (block number xs ++ rest) ≡ rest
  block_rest = drop_at (block number xs) rest 128 length_block

  module _ (low : number < 65536) where
    pub block_used : used_in (block number xs ++ rest) ≡ length xs
    block_used = omega arith

    -- the words behind word 0
    behind : drop 1 (block number xs ++ rest)
        ≡ xs ++ (replicate (126 - length xs) 0 ++ (checksum (body number xs) ∷ rest))
    behind = simp append_assoc

    pub block_rule : take (used_in (block number xs ++ rest)) (drop 1 (block number xs ++ rest)) ≡ xs
    block_rule = rw (block_used, behind) (take_at xs _ (length xs) refl)

    pub block_unused : all_zero (unused (block number xs ++ rest)) ≡ true
    block_unused =
        let e : drop (1 + length xs) (block number xs ++ rest)
        ≡ replicate (126 - length xs) 0 ++ (checksum (body number xs) ∷ rest) =
        ap (λ (n : ℕ). drop n (block number xs ++ rest)) (add_comm 1 (length xs) ∙ add-one (length xs))
        ∙ ap (drop (length xs)) behind ∙ drop_at xs _ (length xs) refl in
        rw (block_used, e)
        (rw (take_at (replicate (126 - length xs) 0) (checksum (body number xs) ∷ rest) (126 - length xs)
        (length-replicate (126 - length xs) 0))
        (zeros (126 - length xs)))

    pub block_right : (last : Bool) → used_right last (length xs) ≡ true
        → block_judged last number (block number xs ++ rest) ≡ given tt
    block_right last r =
        let h : head_right last number (get_or (block number xs ++ rest) 0 0) ≡ true =
        ap₂ ◌&&◌ (eq-eqb _ number (omega arith)) (ap (used_right last) block_used ∙ r) in
        let s : eqb (checksum (take 127 (block number xs ++ rest))) (get_or (block number xs ++ rest) 127 0) ≡ true =
        eq-eqb _ _ (ap checksum block_body ∙ sym block_sum) in
        ap₂ (λ (a b : Bool). cond a (cond b (given tt) (refused 3 (512 * number))) (refused 2 (512 * number))) h s

-- ---- a block that is not refused

-- unused words that are all zero
pub all_zero_lem : (xs : List ℕ) → all_zero xs ≡ true → xs ≡ replicate (length xs) 0
unfolding all_zero
all_zero_lem [] e = refl
all_zero_lem (x ∷ xs) e =
    let h = both (eqb x 0) (all_zero xs) e in
    ap₂ ◌∷◌ (eqb-true x 0 h.0) (all_zero_lem xs h.1)

-- what passing 2 and 3 says of a block's numbers
pub record Sound (last : Bool) (number : ℕ) (ws : List ℕ) : Type 0 where
  pub numbered : number_in (get_or ws 0 0) ≡ number
  pub counted : used_right last (used_in ws) ≡ true
  pub summed : checksum (take 127 ws) ≡ get_or ws 127 0

pub sound : (last : Bool) (number : ℕ) (ws : List ℕ) → block_judged last number ws ≡ given tt → Sound last number ws
sound last number ws e = grind (arith, common_steps)

-- a full block's count, and the last one's
pub counted_full : (used : ℕ) → used_right false used ≡ true → used ≡ 126
counted_full used e = eqb-true used 126 e

pub counted_last : (used : ℕ) → used_right true used ≡ true → (1 ≤ used) × (used ≤ 126)
counted_last used e = grind (arith, common_steps)

pub counted_some : (last : Bool) (used : ℕ) → used_right last used ≡ true → (1 ≤ used) × (used ≤ 126)
counted_some true used e = counted_last used e
counted_some false used e = let h = counted_full used e in (omega arith, omega arith)

-- the words of such a block are those that writing its rule words makes
module _ (last : Bool) (number : ℕ) (ws : List ℕ) (long : 128 ≤ length ws) (s : Sound last number ws)
    (clean : all_zero (unused ws) ≡ true) where
  most : used_in ws ≤ 126
  most = (counted_some last (used_in ws) s.counted).1

  length_rule : length (take (used_in ws) (drop 1 ws)) ≡ used_in ws
  length_rule = length-take-le (used_in ws) (drop 1 ws) (simp length-drop (omega (arith, most)))

  length_unused : length (unused ws) ≡ 126 - used_in ws
  length_unused = length-take-le (126 - used_in ws) (drop (1 + used_in ws) ws) (simp length-drop (omega (arith, most)))

  -- the 126 words behind word 0
  kept_words : take 126 (drop 1 ws) ≡ take (used_in ws) (drop 1 ws) ++ replicate (126 - used_in ws) 0
  kept_words =
      let e : used_in ws + (126 - used_in ws) ≡ 126 = omega (arith, most) in
      ap (λ (n : ℕ). take n (drop 1 ws)) (sym e)
      ∙ take-add (used_in ws) (126 - used_in ws) (drop 1 ws)
      ∙ ap (λ (l : List ℕ). take (used_in ws) (drop 1 ws) ++ take (126 - used_in ws) l) (drop-drop (used_in ws) 1 ws)
      ∙ ap (λ (l : List ℕ). take (used_in ws) (drop 1 ws) ++ l)
      (all_zero_lem (unused ws) clean ∙ ap (λ (n : ℕ). replicate n 0) length_unused)

  kept_body : take 127 ws ≡ body number (take (used_in ws) (drop 1 ws))
  kept_body =
      let h : get_or ws 0 0 ≡ number + 65536 * used_in ws = omega (arith, s.numbered) in
      ap (take 127) (drop-cons ws 0 0 (omega arith))
      ∙ ap₂ ◌∷◌ (h ∙ ap (λ (n : ℕ). number + 65536 * n) (sym length_rule))
      (kept_words ∙ ap (λ (n : ℕ). take (used_in ws) (drop 1 ws) ++ replicate (126 - n) 0) (sym length_rule))

  pub block_again : block number (take (used_in ws) (drop 1 ws)) ++ drop 128 ws ≡ ws
  block_again =
      append_assoc (body number (take (used_in ws) (drop 1 ws)))
      (checksum (body number (take (used_in ws) (drop 1 ws))) ∷ []) (drop 128 ws)
      ∙ ap₂ (λ (p : List ℕ) (x : ℕ). p ++ (x ∷ drop 128 ws)) (sym kept_body) (ap checksum (sym kept_body) ∙ s.summed)
      ∙ ap (λ (l : List ℕ). take 127 ws ++ l) (sym (drop-cons ws 127 0 (omega arith)))
      ∙ take-append-drop 127 ws
