-- Laws on elements laid into a list: lengths, two runs side by side, a store, and words read back.
-- Assumes nothing.
use Rattle.std.proofs.Common.{◌≡◌, ℕ, ◌+◌, ◌*◌, ◌^◌, ◌≤◌, List, [], ◌++◌, length, take, drop, sym}
use Rattle.std.proofs.Common.{ap, ◌∙◌, ap₂, append_assoc, add-zero, zero-add, arith, length-append}
use Rattle.std.proofs.Common.{take-append-drop, length-take-le, drop-drop, take_at, drop_at}
use lib.Seq.{drop-append-add}
use Rattle.spec.specs.Blocks.{words_of, bytes_of}
use Rattle.spec.proofs.Bytes.{Below, length_bytes_of, words_of_bytes_of, drop_words_of}
use Rattle.block_words.specs.Placed.{placed}

pub placed_none : (l : List ℕ) (at : ℕ) → placed l at [] ≡ l
placed_none l at = ap (λ (n : ℕ). take at l ++ drop n l) (add-zero at) ∙ take-append-drop at l

pub placed_front : (l xs : List ℕ) → placed l 0 xs ≡ xs ++ drop (length xs) l
placed_front l xs = ap (λ (n : ℕ). xs ++ drop n l) (zero-add (length xs))

module _ (l : List ℕ) (at : ℕ) (xs : List ℕ) (fits : at + length xs ≤ length l) where
  -- all but what follows
  head_length : length (take at l ++ xs) ≡ at + length xs
  head_length = length-append (take at l) xs ∙ ap (λ (n : ℕ). n + length xs) (length-take-le at l (omega arith))

  split : placed l at xs ≡ (take at l ++ xs) ++ drop (at + length xs) l
  split = sym (append_assoc (take at l) xs (drop (at + length xs) l))

  pub take_placed : take (at + length xs) (placed l at xs) ≡ take at l ++ xs
  take_placed =
      ap (take (at + length xs)) split
      ∙ take_at (take at l ++ xs) (drop (at + length xs) l) (at + length xs) head_length

  pub drop_placed : drop at (placed l at xs) ≡ xs ++ drop (at + length xs) l
  drop_placed = drop_at (take at l) (xs ++ drop (at + length xs) l) at (length-take-le at l (omega arith))

  past_placed : (n : ℕ) → drop (at + length xs + n) (placed l at xs) ≡ drop (at + length xs + n) l
  past_placed n =
      ap₂ drop (ap (λ (k : ℕ). k + n) (sym head_length)) split
      ∙ drop-append-add (take at l ++ xs) (drop (at + length xs) l) n ∙ drop-drop n (at + length xs) l

  -- what is laid down behind a run joins it
  pub placed_more : (ys : List ℕ) → placed (placed l at xs) (at + length xs) ys ≡ placed l at (xs ++ ys)
  placed_more ys =
      let e : at + length xs + length ys ≡ at + length (xs ++ ys) = simp length-append (omega arith) in
      ap₂ (λ (p q : List ℕ). p ++ (ys ++ q)) take_placed (past_placed (length ys))
      ∙ append_assoc (take at l) xs (ys ++ drop (at + length xs + length ys) l)
      ∙ ap (λ (q : List ℕ). take at l ++ q) (sym (append_assoc xs ys (drop (at + length xs + length ys) l)))
      ∙ ap (λ (n : ℕ). take at l ++ ((xs ++ ys) ++ drop n l)) e

-- words laid down are read back
pub placed_words : (l : List ℕ) (k n : ℕ) (ws : List ℕ) → length ws ≡ n → 4 * k + 4 * length ws ≤ length l
    → Below (2 ^ 32) ws
    → take n (drop k (words_of (placed l (4 * k) (bytes_of ws)))) ≡ ws
placed_words l k n ws e fits b =
    let room : 4 * k + length (bytes_of ws) ≤ length l = omega (arith, length_bytes_of ws) in
    let rest = drop (4 * k + length (bytes_of ws)) l in
    ap (take n) (drop_words_of k (placed l (4 * k) (bytes_of ws)) ∙ ap words_of
    (drop_placed l (4 * k) (bytes_of ws) room)
    ∙ words_of_bytes_of ws rest b)
    ∙ take_at ws (words_of rest) n e
