-- One turn of each loop: the blocks before the last, and the last one word by word.
-- Assumes nothing.
use Rattle.std.proofs.Common.{◌≡◌, ℕ, zero, suc, ◌+◌, ◌-◌, ◌*◌, ◌/◌, ◌≤◌, ◌<◌, List, [], ◌∷◌, Some, Result, Ok, Err}
use Rattle.std.proofs.Common.{length, get_or, take, drop, drop-drop, get_or-take, length-take, take-take, take_all}
use Rattle.std.proofs.Common.{false, le-leb, lt-ltb, refl, ap, ap₂, sym, ◌∙◌, add-one, arith}
use native.Mathlib.Decide.{dec_lt}
use Rattle.std.specs.Simd.{first_chunks}
use Rattle.spec.specs.Outcome.{Outcome, given, refused, ◌then◌}
use Rattle.spec.specs.Blocks.{word_of, words_of, block_judged, judged_before}
use Rattle.spec.specs.Blocks.{not_yet, counted, last_block, last_block_on}
use Rattle.spec.proofs.Bytes.{length_words_of, drop_words_of}
use Rattle.spec.proofs.LastBlocks.{block_first, last_first}
use Rattle.block_words.proofs.Chunks.{chunk_at}
use Rattle.refusal.specs.declared.Refusal.{Refusal}
use Rattle.refusal.specs.Answers.{outcome_by}
use Rattle.last_block.specs.declared.entry.LastBlock.{LastBlock}
use Rattle.last_block.specs.States.{begun, stepped, fed, answer_in}
use Rattle.last_block.specs.Answers.{known_of, AsLoader}
use Rattle.last_block.proofs.Fed.{answer_none, not_yet_lem, fed_more}

-- ---- a block's words, by the chunk of bytes that they stand in

four_more : (k : ℕ) → 4 * suc k ≡ suc (suc (suc (suc (4 * k))))
four_more k = omega arith

words_take : (k : ℕ) (f : List ℕ) → words_of (take (4 * k) f) ≡ take k (words_of f)
unfolding words_of
words_take zero f = refl
words_take (suc k) [] = rw (four_more k) refl
words_take (suc k) (a ∷ []) = rw (four_more k) refl
words_take (suc k) (a ∷ b ∷ []) = rw (four_more k) refl
words_take (suc k) (a ∷ b ∷ c ∷ []) = rw (four_more k) refl
words_take (suc k) (a ∷ b ∷ c ∷ d ∷ rest) =
    rw (four_more k) (ap (λ (ws : List ℕ). word_of a b c d ∷ ws) (words_take k rest))

pub chunk_words : (bytes : List ℕ) (blocks : List (List ℕ)) (k : ℕ) (d : List ℕ)
    → blocks ≡ first_chunks 512 (length bytes / 512) bytes → k < length bytes / 512
    → words_of (get_or blocks k d) ≡ take 128 (drop (128 * k) (words_of bytes))
chunk_words bytes blocks k d cut h =
    let e : 512 * k ≡ 4 * (128 * k) = omega arith in
    ap (λ (cs : List (List ℕ)). words_of (get_or cs k d)) cut
    ∙ ap words_of (chunk_at 512 (length bytes / 512) bytes k d h)
    ∙ words_take 128 (drop (512 * k) bytes)
    ∙ ap (λ (n : ℕ). take 128 (words_of (drop n bytes))) e
    ∙ ap (take 128) (sym (drop_words_of (128 * k) bytes))

-- ---- block by block

-- the blocks before the last, of which the first `number` are judged, and the answer for the next
module _ (bytes : List ℕ) (number : ℕ) (blocks : List (List ℕ)) (d : List ℕ)
    (h : number < length (take (length blocks - 1) blocks))
    (cut : blocks ≡ first_chunks 512 (length bytes / 512) bytes) (count : length blocks ≡ length bytes / 512)
    (o : Outcome (Unit {0}))
    (e : o ≡ block_judged false number (words_of (get_or (take (length blocks - 1) blocks) number d)))
  where
    inside : number < length blocks - 1
    inside = omega (arith, length-take (length blocks - 1) blocks)

    told : block_judged false number (drop (128 * number) (words_of bytes)) ≡ o
    told =
        sym (block_first false number (drop (128 * number) (words_of bytes)))
        ∙ ap (block_judged false number) (sym (chunk_words bytes blocks number d cut (omega (arith, inside, count))))
        ∙ ap (λ (b : List ℕ). block_judged false number (words_of b))
        (sym (get_or-take (length blocks - 1) blocks number d inside))
        ∙ sym e

    left : length bytes / 512 - 1 - number ≡ suc (length bytes / 512 - 1 - (number + 1))
    left = omega (arith, inside, count)

    behind : drop 128 (drop (128 * number) (words_of bytes)) ≡ drop (128 * (number + 1)) (words_of bytes)
    behind =
        let e : 128 * number + 128 ≡ 128 * (number + 1) = omega arith in
        drop-drop 128 (128 * number) (words_of bytes) ∙ ap (λ (n : ℕ). drop n (words_of bytes)) e

    next : judged_before (length bytes / 512 - 1 - number) number (drop (128 * number) (words_of bytes))
        ≡ (o then judged_before (length bytes / 512 - 1 - (number + 1)) (number + 1)
        (drop (128 * (number + 1)) (words_of bytes)))
    unfolding judged_before
    next =
        ap (λ (n : ℕ). judged_before n number (drop (128 * number) (words_of bytes))) left
        ∙ ap₂ (λ (p : Outcome (Unit {0})) (l : List ℕ). p then judged_before (length bytes / 512 - 1 - (number + 1))
        (suc number) l) told behind
        ∙ ap (λ (n : ℕ). o then judged_before (length bytes / 512 - 1 - (number + 1)) n
        (drop (128 * (number + 1)) (words_of bytes))) (sym (add-one number))

    later : {p : Outcome (Unit {0})} → o ≡ p
        → (o then judged_before (length bytes / 512 - 1 - (number + 1)) (number + 1)
        (drop (128 * (number + 1)) (words_of bytes)))
        ≡ (p then judged_before (length bytes / 512 - 1 - (number + 1)) (number + 1)
        (drop (128 * (number + 1)) (words_of bytes)))
    later r =
        ap (λ (p : Outcome (Unit {0})). p then judged_before (length bytes / 512 - 1 - (number + 1)) (number + 1)
        (drop (128 * (number + 1)) (words_of bytes))) r

    pub block_stops : {refusal place : ℕ} → o ≡ refused refusal place
        → judged_before (length bytes / 512 - 1 - number) number (drop (128 * number) (words_of bytes))
        ≡ refused refusal place
    block_stops r = next ∙ later r

    pub block_goes : o ≡ given tt
        → judged_before (length bytes / 512 - 1 - number) number (drop (128 * number) (words_of bytes))
        ≡ judged_before (length bytes / 512 - 1 - (number + 1)) (number + 1)
        (drop (128 * (number + 1)) (words_of bytes))
    block_goes r = next ∙ later r

-- ---- the last block, word by word

-- an answer is there from the 128th word on
answered_all : (s : LastBlock) (x : Result ℕ Refusal) → known_of (Some x) ≡ answer_in s → 128 ≤ s.seen
answered_all s x e = elim (dec_lt s.seen 128) [ yes few ↦ absurd (go x (e ∙ answer_none s few)) | no all ↦ omega arith ]
  where
    go : (y : Result ℕ Refusal) → outcome_by counted y ≡ given not_yet → ⊥
    go (Ok n) q = let z : ◌≡◌ {A = ℕ} 0 1 = cc in omega arith
    go (Err r) q = let z : ◌≡◌ {A = ℕ} 0 1 = cc in omega arith

module _ (number : ℕ) (block : List ℕ) (size : length block ≡ 512) where
  words_size : length (words_of block) ≡ 128
  words_size = omega (arith, length_words_of block)

  module _ (s : LastBlock) (led : s ≡ fed (begun number) (take s.seen (words_of block))) where
    -- one word more
    pub next_seen : s.seen < 128 → (stepped s (get_or (words_of block) s.seen 0)).seen ≡ s.seen + 1
    next_seen h = simp (lt-ltb s.seen 128 h)

    pub next_fed : s.seen < 128
        → stepped s (get_or (words_of block) s.seen 0) ≡ fed (begun number) (take (s.seen + 1) (words_of block))
    next_fed h =
        ap (λ (t : LastBlock). stepped t (get_or (words_of block) s.seen 0)) led
        ∙ sym (fed_more (begun number) (words_of block) s.seen (omega (arith, words_size, h)))
        ∙ ap (λ (n : ℕ). fed (begun number) (take n (words_of block))) (sym (add-one s.seen))

    -- where there is one, it is the loader's
    pub judged_right : (x : Result ℕ Refusal) → known_of (Some x) ≡ answer_in s → AsLoader s (Some x)
        → outcome_by counted x ≡ last_block number (words_of block)
    judged_right x told loader =
        let whole : last_block_on number (words_of block) ≡ last_block number (take 128 (words_of block)) =
        simp (le-leb 128 (length (words_of block)) (omega (arith, words_size))) in
        let all : take s.seen (words_of block) ≡ words_of block =
        take_all s.seen (words_of block) (omega (arith, words_size, answered_all s x told)) in
        loader.loader number (words_of block) (led ∙ ap (fed (begun number)) all)
        ∙ whole ∙ last_first number (words_of block)

-- what the check applies in `judge_last`
pub ruleset steps = (next_seen, next_fed, judged_right, not_yet_lem, length_words_of)

-- the words of the last block, as they are cut from the file
pub last_same : (bytes : List ℕ) (blocks : List (List ℕ)) (k : ℕ) (d : List ℕ)
    → blocks ≡ first_chunks 512 (length bytes / 512) bytes → k < length bytes / 512
    → last_block k (words_of (get_or blocks k d)) ≡ last_block k (drop (128 * k) (words_of bytes))
last_same bytes blocks k d cut h =
    ap (last_block k) (chunk_words bytes blocks k d cut h) ∙ last_first k (drop (128 * k) (words_of bytes))
