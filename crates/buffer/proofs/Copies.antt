-- A copy, word by word: below it, in it and above it; and one turn of the loop that makes it.
-- Assumes nothing.
use mathlib.Core.Path.{◌≡◌, refl, sym, ap, ◌∙◌, subst}
use mathlib.Core.List.{List, ◌++◌}
use mathlib.Core.Logic.{inl, inr, ⊎_elim}
use Prim.Native.Nat.{ℕ, ◌+◌, ◌-◌, ◌≤◌, ◌<◌}
use native.Mathlib.Numerals.{add-one}
use native.Mathlib.Nat.{zero-add}
use native.Mathlib.Omega.{arith}
use lib.ListN.{length, take, drop, get_or, set, length-take, length-drop, get_or-append}
use lib.Seq.{
  paste-suc,
  length_paste_head,
  length-paste,
  get_or-append-add,
  get_or-drop,
  get_or-take,
  length-take-le,
}
use Rattle.buffer.specs.Copy.{Clear, copied, PutAsk, PutDone}

-- an element past the head of an append
get_d_past : (p q : List ℕ) (n k : ℕ) → length p ≡ n → n ≤ k → get_or (p ++ q) k 0 ≡ get_or q (k - n) 0
get_d_past p q n k e h =
    let s : k ≡ length p + (k - n) = omega arith in
    ap (λ (j : ℕ). get_or (p ++ q) j 0) s ∙ get_or-append-add p q (k - n) 0

module _ (w : List ℕ) (from to n : ℕ) (source : from + n ≤ length w) (target : to + n ≤ length w) where
  enough : n ≤ length (drop from w)
  enough = simp length-drop (omega arith)

  head_long : length (take to w ++ take n (drop from w)) ≡ to + n
  head_long = length_paste_head w to (drop from w) n (omega arith) enough

  pub length_copied : length (copied w from to n) ≡ length w
  length_copied = length-paste w to (drop from w) n target enough

  pub copied_below : (k : ℕ) → k < to → get_or (copied w from to n) k 0 ≡ get_or w k 0
  copied_below k h =
      let l : k < length (take to w) = simp length-take (omega arith) in
      get_or-append (take to w ++ take n (drop from w)) (drop (to + n) w) 0 k (omega (arith, head_long))
      ∙ get_or-append (take to w) (take n (drop from w)) 0 k l
      ∙ get_or-take to w k 0 h

  pub copied_in : (k : ℕ) → k < n → get_or (copied w from to n) (to + k) 0 ≡ get_or w (from + k) 0
  copied_in k h =
      let e : length (take to w) ≡ to = length-take-le to w (omega arith) in
      let s : to + k - to ≡ k = omega arith in
      get_or-append (take to w ++ take n (drop from w)) (drop (to + n) w) 0 (to + k) (omega (arith, head_long))
      ∙ get_d_past (take to w) (take n (drop from w)) to (to + k) e (omega arith)
      ∙ rw s (get_or-take n (drop from w) k 0 h ∙ get_or-drop from w k 0)

  pub copied_above : (k : ℕ) → to + n ≤ k → get_or (copied w from to n) k 0 ≡ get_or w k 0
  copied_above k h =
      let s : to + n + (k - (to + n)) ≡ k = omega arith in
      get_d_past (take to w ++ take n (drop from w)) (drop (to + n) w) (to + n) k head_long h
      ∙ get_or-drop (to + n) w (k - (to + n)) 0
      ∙ ap (λ (j : ℕ). get_or w j 0) s

-- one turn: the word that is read is still the one that stood there, and storing it makes the copy one word longer
module _ (w : List ℕ) (from to n i : ℕ) (clear : Clear (length w) from to n) (more : i < n) where
  still : get_or (copied w from to i) (from + i) 0 ≡ get_or w (from + i) 0
  still =
      ⊎_elim
      (λ low. copied_above w from to i (omega arith) (omega arith) (from + i) (omega arith))
      (λ high. copied_below w from to i (omega arith) (omega arith) (from + i) (omega arith))
      clear.apart

  pub copied_more :
      set (copied w from to i) (to + i) (get_or (copied w from to i) (from + i) 0) ≡ copied w from to (i + 1)
  copied_more =
      let l : i < length (drop from w) = simp length-drop (omega arith) in
      let t : to + i < length w = omega arith in
      rw (still, ← (get_or-drop from w i 0), add-one) (paste-suc w to (drop from w) i 0 t l)

-- one turn of a copy from another list to the start
pub copied_in_more :
    (s w : List ℕ) (i : ℕ) →
    i < length w →
    i < length s →
    set (take i s ++ drop i w) i (get_or s i 0) ≡ take (i + 1) s ++ drop (i + 1) w
copied_in_more s w i l m =
    let t : 0 + i < length w = omega arith in
    rw add-one (simp zero-add at (paste-suc w 0 s i 0 t m))

-- ---- put

module _ (w : List ℕ) (from end top : ℕ) (ask : PutAsk (length w) from end top) where
  pub put_clear : Clear (length w) from top (end - from)
  put_clear = record {
    source = omega arith;
    target = omega arith;
    apart = ⊎_elim (λ l. inl l) (λ l. inr (omega arith)) ask.apart;
  }

  pub put_done : (v : List ℕ) → v ≡ copied w from top (end - from)
      → PutDone w v from end top (top + (end - from))
  put_done v e =
      let s = put_clear.source in
      let t = put_clear.target in
      subst (λ (u : List ℕ). PutDone w u from end top (top + (end - from))) (sym e) (record {
        frame = record { word = λ k h. copied_below w from top (end - from) s t k (omega arith) };
        moved = record { word = λ k h. copied_in w from top (end - from) s t k h };
        above = λ k h. copied_above w from top (end - from) s t k h;
        ends = refl;
        long = length_copied w from top (end - from) s t;
      })
