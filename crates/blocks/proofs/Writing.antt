-- One turn of each loop that writes: the rule words of a block, and the blocks.
-- Assumes nothing.
use mathlib.Core.Bool.{Bool, true, cond, ◌&&◌}
use mathlib.Core.List.{List, [], ◌∷◌, ◌++◌, append_assoc, append-nil}
use mathlib.Core.Path.{◌≡◌, refl, ap, ap₂, sym, ◌∙◌}
use Prim.Native.Nat.{ℕ, zero, suc, ◌+◌, ◌-◌, ◌*◌, ◌/◌, ◌^◌, ◌≤◌, ◌<◌, min}
use native.Mathlib.Nat.{add-zero, zero-add}
use native.Mathlib.Numerals.{add-one}
use native.Mathlib.Omega.{arith}
use native.Mathlib.Decide.{dec_lt}
use borrow.Author.Tests.{lt-ltb, le-leb, leb-true}
use lib.Dec.{leb, ltb}
use lib.ListN.{length, get_or, take, drop, replicate, length-append, length-take, length-drop, length-replicate}
use borrow.Rule.Slice.PartMut.{put_mid, same_len_mid}
use lib.Seq.{take_at, drop_at, length-take-le, take_all, take-suc, drop-drop}
use Rattle.std.proofs.lemmas.List.{drop_all, drop-append-le, drop-replicate}
use Rattle.spec.specs.Outcome.{given, refused, fitted}
use Rattle.spec.specs.Blocks.{bytes_of_word, bytes_of, words_of, checksum, body, block, blocks, block_count, stored}
use Rattle.spec.specs.Blocks.{count_right, write_blocks}
use Rattle.spec.proofs.Bytes.{Below, length_bytes_of, bytes_of_append}
use Rattle.spec.proofs.Blocks.{length_body, length_block}
use Rattle.spec.proofs.Files.{length_blocks}
use Rattle.spec.proofs.RoundTrip.{below_body}
use Rattle.spec.proofs.Outcomes.{both, fitted_enough}
use Rattle.blocks.specs.Answers.{Met}
use Rattle.block_words.specs.Placed.{placed}
use Rattle.blocks.specs.Padded.{padded}
use Rattle.refusal.specs.declared.Refusal.TheVariants as refusal
use Rattle.std.specs.Prelude.{Ok, Err}
use Rattle.block_words.proofs.Placed.{placed_none, placed_more, placed_front, placed_words}

pub length_few : (ws : List ℕ) → length (take 126 ws) ≤ 126
length_few ws = simp length-take (omega arith)

-- one word's bytes
pub bytes_one : (w : ℕ) → bytes_of (w ∷ []) ≡ bytes_of_word w
unfolding bytes_of
bytes_one w = refl

-- the words of a block, one further
rule_more : (old : List ℕ) (to : ℕ) (P : List ℕ) (i w : ℕ) (new : List ℕ) → i < length P
    → 4 * to + 4 * length P ≤ length old → w ≡ get_or P i 0 → new ≡ placed old (4 * to) (bytes_of (take i P))
    → placed new (4 * (to + i)) (bytes_of_word w) ≡ placed old (4 * to) (bytes_of (take (i + 1) P))
rule_more old to P i w new h room q e =
    let lt : length (take i P) ≡ i = length-take i P ∙ omega arith in
    let lb = length_bytes_of (take i P) in
    let at : 4 * (to + i) ≡ 4 * to + length (bytes_of (take i P)) = omega arith in
    let joined : bytes_of (take i P) ++ bytes_of_word w ≡ bytes_of (take (i + 1) P) =
    ap (λ (l : List ℕ). bytes_of (take i P) ++ l) (sym (bytes_one w))
    ∙ sym (bytes_of_append (take i P) (w ∷ []))
    ∙ ap bytes_of (ap (λ (x : ℕ). take i P ++ (x ∷ [])) q ∙ sym (take-suc P i 0 (omega arith))
    ∙ ap (λ (n : ℕ). take n P) (sym (add-one i))) in
    ap₂ (λ (l : List ℕ) (n : ℕ). placed l n (bytes_of_word w)) e at
    ∙ placed_more old (4 * to) (bytes_of (take i P)) (omega arith) (bytes_of_word w)
    ∙ ap (placed old (4 * to)) joined

-- before the first word, and before the first block
pub no_words : (l : List ℕ) (at : ℕ) → placed l at (bytes_of []) ≡ l
unfolding bytes_of
no_words l at = placed_none l at

pub no_blocks : (l ws : List ℕ) → placed l 0 (bytes_of (blocks 0 0 ws)) ≡ l
unfolding blocks bytes_of
no_blocks l ws = placed_none l 0

-- the same behind word 0
pub rule_next : (old rule : List ℕ) (i : ℕ) (new : List ℕ) → i < length rule → length rule ≤ 126 → length old ≡ 512
    → new ≡ placed old 4 (bytes_of (take i rule))
    → placed new (4 * (1 + i)) (bytes_of_word (get_or rule i 0)) ≡ placed old 4 (bytes_of (take (i + 1) rule))
rule_next old rule i new h few size e = rule_more old 1 rule i (get_or rule i 0) new h (omega arith) refl e

four_more : (k : ℕ) → 4 * suc k ≡ suc (suc (suc (suc (4 * k))))
four_more k = omega arith

bytes_of_zeros : (n : ℕ) → bytes_of (replicate n 0) ≡ replicate (4 * n) 0
unfolding bytes_of
bytes_of_zeros zero = refl
bytes_of_zeros (suc n) = rw (four_more n) (ap (λ (l : List ℕ). 0 ∷ 0 ∷ 0 ∷ 0 ∷ l) (bytes_of_zeros n))

bytes_of_padded : (rule : List ℕ) → length rule ≤ 126
    → bytes_of (padded rule) ≡ bytes_of rule ++ replicate (504 - 4 * length rule) 0
bytes_of_padded rule few =
    let e : 4 * (126 - length rule) ≡ 504 - 4 * length rule = omega arith in
    ap (λ (l : List ℕ). bytes_of (l ++ replicate (126 - length l) 0)) (take_all 126 rule few)
    ∙ bytes_of_append rule (replicate (126 - length rule) 0)
    ∙ ap (λ (l : List ℕ). bytes_of rule ++ l) (bytes_of_zeros (126 - length rule) ∙ ap (λ (n : ℕ). replicate n 0) e)

-- words laid over zeros
placed_over : (l zs xs : List ℕ) (at : ℕ) → at + length zs ≤ length l → length xs ≤ length zs
    → placed (placed l at zs) at xs ≡ placed l at (xs ++ drop (length xs) zs)
placed_over l zs xs at room short =
    let rest = drop (at + length zs) l in
    let n = length xs in
    let whole : length (xs ++ drop n zs) ≡ length zs =
    length-append xs (drop n zs) ∙ omega (arith, length-drop n zs) in
    let head : take at (placed l at zs) ≡ take at l =
    take_at (take at l) (zs ++ rest) at (length-take-le at l (omega arith)) in
    let behind : drop (at + n) (placed l at zs) ≡ drop n zs ++ rest =
    sym (drop-drop n at (placed l at zs))
    ∙ ap (drop n) (drop_at (take at l) (zs ++ rest) at (length-take-le at l (omega arith)))
    ∙ drop-append-le n zs rest short in
    ap₂ (λ (p q : List ℕ). p ++ (xs ++ q)) head behind
    ∙ ap (λ (q : List ℕ). take at l ++ q) (sym (append_assoc xs (drop n zs) rest))
    ∙ ap (λ (m : ℕ). take at l ++ ((xs ++ drop n zs) ++ drop (at + m) l)) (sym whole)

-- a block but its first word and its last one, once filled with zeros
pub filled_zeros : (old new : List ℕ) → length old ≡ 512 → new ≡ replicate (length (take 504 (drop 4 old))) 0
    → (put_mid 4 504 old new ≡ placed old 4 (replicate 504 0)) × (length (put_mid 4 504 old new) ≡ 512)
filled_zeros old new size e =
    let part : length (take 504 (drop 4 old)) ≡ 504 =
    length-take 504 (drop 4 old) ∙ omega (arith, length-drop 4 old) in
    let z : new ≡ replicate 504 0 = e ∙ ap (λ (n : ℕ). replicate n 0) part in
    let n : 4 + 504 ≡ 4 + length {A = ℕ} (replicate 504 0) = omega (arith, length-replicate {A = ℕ} 504 0) in (
      ap₂ (λ (x y : List ℕ). take 4 old ++ (x ++ y)) z (drop-drop 504 4 old ∙ ap (λ (k : ℕ). drop k old) n),
      same_len_mid 4 504 old new (ap length e ∙ length-replicate (length (take 504 (drop 4 old))) 0) ∙ size,
    )

pub rule_done : (old filled rule new : List ℕ) (i : ℕ) → length old ≡ 512 → length rule ≤ 126 → length rule ≤ i
    → filled ≡ placed old 4 (replicate 504 0) → new ≡ placed filled 4 (bytes_of (take i rule))
    → new ≡ placed old 4 (bytes_of (padded rule))
rule_done old filled rule new i size few all f e =
    let lz = length-replicate {A = ℕ} 504 0 in
    let lb = length_bytes_of rule in
    e
    ∙ ap₂ (λ (l xs : List ℕ). placed l 4 (bytes_of xs)) f (take_all i rule all)
    ∙ placed_over old (replicate 504 0) (bytes_of rule) 4 (omega arith) (omega arith)
    ∙ ap (λ (l : List ℕ). placed old 4 (bytes_of rule ++ l))
    (drop-replicate (length (bytes_of rule)) 504 0 ∙ ap (λ (n : ℕ). replicate (504 - n) 0) lb)
    ∙ ap (placed old 4) (sym (bytes_of_padded rule few))

-- blocks, one further
pub blocks_more : (count number : ℕ) (ws : List ℕ)
    → blocks (suc count) number ws ≡ blocks count number ws ++ block (number + count) (take 126 (drop (126 * count) ws))
unfolding blocks
blocks_more zero number ws =
    append-nil (block number (take 126 ws)) ∙ ap (λ (n : ℕ). block n (take 126 ws)) (sym (add-zero number))
blocks_more (suc count) number ws =
    let e : 126 + 126 * count ≡ 126 * suc count = omega arith in
    let n : suc number + count ≡ number + suc count = omega arith in
    ap (λ (l : List ℕ). block number (take 126 ws) ++ l)
    (blocks_more count (suc number) (drop 126 ws)
    ∙ ap₂ (λ (k : ℕ) (l : List ℕ). blocks count (suc number) (drop 126 ws) ++ block k (take 126 l)) n
    (drop-drop (126 * count) 126 ws ∙ ap (λ (k : ℕ). drop k ws) e))
    ∙ sym (append_assoc (block number (take 126 ws)) (blocks count (suc number) (drop 126 ws))
    (block (number + suc count) (take 126 (drop (126 * suc count) ws))))

written_more : (old new : List ℕ) (number : ℕ) (ws : List ℕ) → 512 * number + 512 ≤ length old
    → new ≡ placed old 0 (bytes_of (blocks number 0 ws))
    → placed new (512 * number) (bytes_of (block number (take 126 (drop (126 * number) ws))))
    ≡ placed old 0 (bytes_of (blocks (number + 1) 0 ws))
written_more old new number ws room e =
    let lb = length_bytes_of (blocks number 0 ws) in
    let ln = length_blocks number 0 ws in
    let at : 512 * number ≡ 0 + length (bytes_of (blocks number 0 ws)) = omega arith in
    let b = block number (take 126 (drop (126 * number) ws)) in
    ap₂ (λ (l : List ℕ) (n : ℕ). placed l n (bytes_of b)) e at
    ∙ placed_more old 0 (bytes_of (blocks number 0 ws)) (omega arith) (bytes_of b)
    ∙ ap (placed old 0)
    (sym (bytes_of_append (blocks number 0 ws) b)
    ∙ ap bytes_of (ap (λ (n : ℕ). blocks number 0 ws ++ block n (take 126 (drop (126 * number) ws)))
    (sym (zero-add number))
    ∙ sym (blocks_more number 0 ws) ∙ ap (λ (n : ℕ). blocks n 0 ws) (sym (add-one number))))

-- ---- one block, from its word 0 to its sum

module _ (old rule : List ℕ) (number : ℕ) (low : number < 128) (few : length rule ≤ 126) (size : length old ≡ 512)
    (b : Below (2 ^ 32) rule) where
  long : length (body number rule) ≡ 127
  long = length_body number rule [] few

  -- word 0 and the rule words
  body_placed : placed (placed old 0 (bytes_of_word (number + 65536 * length rule))) 4 (bytes_of (padded rule))
      ≡ placed old 0 (bytes_of (body number rule))
  unfolding bytes_of
  body_placed =
      placed_more old 0 (bytes_of_word (number + 65536 * length rule)) (omega arith) (bytes_of (padded rule))
      ∙ ap (λ (l : List ℕ). placed old 0
      (bytes_of ((number + 65536 * length rule) ∷ (l ++ replicate (126 - length l) 0))))
      (take_all 126 rule few)

  -- the sum read back from the bytes
  sum_placed : checksum (take 127 (words_of (placed old 0 (bytes_of (body number rule))))) ≡ checksum (body number rule)
  sum_placed =
      ap checksum (placed_words old 0 127 (body number rule) long (omega (arith, long))
      (below_body number rule (omega arith) few b))

  -- and laid down behind them
  block_placed : placed (placed old 0 (bytes_of (body number rule))) 508 (bytes_of_word (checksum (body number rule)))
      ≡ bytes_of (block number rule)
  block_placed =
      let ys = body number rule in
      let lb = length_bytes_of ys in
      let at : 508 ≡ 0 + length (bytes_of ys) = omega (arith, long, lb) in
      let l : length (bytes_of (block number rule)) ≡ length old =
      length_bytes_of (block number rule) ∙ omega (arith, length_block number rule [] few) in
      ap (λ (n : ℕ). placed (placed old 0 (bytes_of ys)) n (bytes_of_word (checksum ys))) at
      ∙ placed_more old 0 (bytes_of ys) (omega (arith, long, lb)) (bytes_of_word (checksum ys))
      ∙ ap (placed old 0)
      (ap (λ (k : List ℕ). bytes_of ys ++ k) (sym (bytes_one (checksum ys)))
      ∙ sym (bytes_of_append ys (checksum ys ∷ [])))
      ∙ placed_front old (bytes_of (block number rule))
      ∙ ap (λ (n : ℕ). bytes_of (block number rule) ++ drop n old) l
      ∙ ap (λ (k : List ℕ). bytes_of (block number rule) ++ k) (drop_all (length old) old (omega arith))
      ∙ append-nil (bytes_of (block number rule))

  -- the three stores of a block, one after the other
  pub block_done : (head sum : ℕ) (r₁ r₂ r₃ : List ℕ) → head ≡ number + 65536 * length rule
      → r₁ ≡ placed old 0 (bytes_of_word head)
      → r₂ ≡ placed r₁ 4 (bytes_of (padded rule))
      → sum ≡ checksum (take 127 (words_of r₂))
      → r₃ ≡ placed r₂ 508 (bytes_of_word sum)
      → r₃ ≡ bytes_of (block number rule)
  block_done head sum r₁ r₂ r₃ h e₁ e₂ s e₃ =
      let ys = body number rule in
      let two : r₂ ≡ placed old 0 (bytes_of ys) =
      e₂ ∙ ap (λ (l : List ℕ). placed l 4 (bytes_of (padded rule)))
      (e₁ ∙ ap (λ (k : ℕ). placed old 0 (bytes_of_word k)) h) ∙ body_placed in
      let sums : sum ≡ checksum ys =
      s ∙ ap (λ (l : List ℕ). checksum (take 127 (words_of l))) two ∙ sum_placed in
      e₃ ∙ ap₂ (λ (l : List ℕ) (k : ℕ). placed l 508 (bytes_of_word k)) two sums ∙ block_placed

-- ---- the blocks, one further

-- the words that a block is handed
rule_cut : (ws : List ℕ) (from : ℕ)
    → take (min (length ws) (from + 126) - from) (drop from ws) ≡ take 126 (drop from ws)
rule_cut ws from = elim (dec_lt (length ws) (from + 126)) [ yes less ↦ short less | no more ↦ full (omega arith) ]
  where
    short : length ws < from + 126
        → take (min (length ws) (from + 126) - from) (drop from ws) ≡ take 126 (drop from ws)
    short less =
        take_all (min (length ws) (from + 126) - from) (drop from ws) (omega (arith, length-drop from ws))
        ∙ sym (take_all 126 (drop from ws) (omega (arith, length-drop from ws)))

    full : from + 126 ≤ length ws
        → take (min (length ws) (from + 126) - from) (drop from ws) ≡ take 126 (drop from ws)
    full more =
        let n : min (length ws) (from + 126) - from ≡ 126 = omega arith in
        ap (λ (k : ℕ). take k (drop from ws)) n

pub block_next : (old new bytes : List ℕ) (end number : ℕ) (ws : List ℕ) → 512 * number + 512 ≤ length old
    → new ≡ placed old 0 (bytes_of (blocks number 0 ws)) → end ≡ min (length ws) (126 * number + 126)
    → bytes ≡ bytes_of (block number (take (end - 126 * number) (drop (126 * number) ws)))
    → put_mid (512 * number) (512 * number + 512 - 512 * number) new bytes
    ≡ placed old 0 (bytes_of (blocks (number + 1) 0 ws))
block_next old new bytes end number ws room e m is =
    let rule = take 126 (drop (126 * number) ws) in
    let xs = bytes_of (block number rule) in
    let whole : bytes ≡ xs =
    is
    ∙ ap (λ (l : List ℕ). bytes_of (block number l))
    (ap (λ (k : ℕ). take (k - 126 * number) (drop (126 * number) ws)) m ∙ rule_cut ws (126 * number)) in
    let len : length xs ≡ 512 =
    length_bytes_of (block number rule)
    ∙ omega (arith, length_block number rule [] (length_few (drop (126 * number) ws))) in
    let behind : 512 * number + (512 * number + 512 - 512 * number) ≡ 512 * number + length xs = omega (arith, len) in
    ap₂ (λ (x y : List ℕ). take (512 * number) new ++ (x ++ y)) whole
    (drop-drop (512 * number + 512 - 512 * number) (512 * number) new ∙ ap (λ (k : ℕ). drop k new) behind)
    ∙ written_more old new number ws room e

-- what the count's test says
pub count_some : (n : ℕ) → count_right n ≡ true → (1 ≤ n) × (n ≤ 16128)
count_some n e =
    let h = both (leb 1 n) (leb n 16128) e in
    (leb-true 1 n h.0, leb-true n 16128 h.1)

-- ---- all blocks

module _ (ws old : List ℕ) (some : 1 ≤ length ws) (most : length ws ≤ 16128) where
  -- past refusal 5, for so many bytes
  counted : write_blocks ws (length old) ≡ fitted (length old) (stored ws)
  counted =
      let count : count_right (length ws) ≡ true =
      ap₂ ◌&&◌ (le-leb 1 (length ws) some) (le-leb (length ws) 16128 most) in
      ap (λ (t : Bool). cond t (fitted (length old) (stored ws)) (refused 5 (length ws))) count

  length_stored : length (stored ws) ≡ 512 * block_count (length ws)
  length_stored =
      let bytes = length_bytes_of (blocks (block_count (length ws)) 0 ws) in
      omega (arith, length_blocks (block_count (length ws)) 0 ws)

  pub written : (new : List ℕ) (number : ℕ) → 512 * block_count (length ws) ≤ length old
      → number ≡ block_count (length ws) → new ≡ placed old 0 (bytes_of (blocks number 0 ws))
      → Met (write_blocks ws (length old)) old (Ok (512 * block_count (length ws))) new
  written new number room n e =
      let o : write_blocks ws (length old) ≡ given (stored ws) =
      counted ∙ fitted_enough (length old) (stored ws) (omega (arith, length_stored)) in
      record {
        answered = rw o (ap given (sym length_stored));
        result =
            rw o (e ∙ ap (λ (k : ℕ). placed old 0 (bytes_of (blocks k 0 ws))) n ∙ placed_front old (stored ws));
      }

  pub write_short : length old < 512 * block_count (length ws)
      → Met (write_blocks ws (length old)) old (Err (refusal.ShortResult (512 * block_count (length ws)))) old
  write_short h =
      let o : write_blocks ws (length old) ≡ refused 11 (512 * block_count (length ws)) =
      counted
      ∙ ap (λ (k : ℕ). cond (ltb (length old) k) (refused 11 k) (given (stored ws))) length_stored
      ∙ ap (λ (t : Bool). cond t (refused 11 (512 * block_count (length ws))) (given (stored ws)))
      (lt-ltb (length old) (512 * block_count (length ws)) h) in
      record { answered = rw o; result = rw o }

-- the same by the count's test and the number of blocks
module _ (ws old : List ℕ) (count : ℕ) (few : count_right (length ws) ≡ true)
    (blocks_in : count ≡ (length ws + 125) / 126) where
  pub write_refused : length old < 512 * count
      → Met (write_blocks ws (length old)) old (Err (refusal.ShortResult (512 * count))) old
  write_refused h =
      let n = count_some (length ws) few in
      rw blocks_in (write_short ws old n.0 n.1 (omega arith))

  pub write_done : (new : List ℕ) (number : ℕ) → 512 * count ≤ length old → number ≡ count
      → new ≡ placed old 0 (bytes_of (blocks number 0 ws))
      → Met (write_blocks ws (length old)) old (Ok (512 * count)) new
  write_done new number room all e =
      let n = count_some (length ws) few in
      rw blocks_in (written ws old n.0 n.1 new number (omega arith) (all ∙ blocks_in) e)
