-- Laws on places: a tree stands where its words stand, it moves with them, and its words are a segment of the words.
-- Assumes nothing.
use mathlib.Core.List.{List, [], ◌∷◌, ◌++◌, append_assoc, append-nil}
use mathlib.Core.Path.{◌≡◌, refl, ap, ap₂, sym, subst, ◌∙◌}
use Prim.Native.Nat.{ℕ, suc, ◌+◌, ◌≤◌, ◌<◌}
use native.Mathlib.Nat.{add-zero, add_assoc}
use native.Mathlib.Numerals.{add-one}
use native.Mathlib.Omega.{arith}
use lib.ListN.{length, get_or, take, drop, length-append}
use lib.Seq.{get_or_at, get_or-take, get_or-drop, take-add, drop-drop, drop-cons}
use Rattle.spec.specs.Rose.{Rose, Roses, node, nil, cons, size, sizes, enc, encs, Words, At, Ats}
use Rattle.spec.specs.Frames.{Agree}

-- ---- a tree has as many words as its size says

mutual
  pub length_enc : (p : Rose) → length (enc p) ≡ size p
  length_enc (node s own ps) = length-append own (encs ps) ∙ ap (λ (n : ℕ). length own + n) (length_encs ps)

  pub length_encs : (ps : Roses) → length (encs ps) ≡ sizes ps
  length_encs nil = refl
  length_encs (cons p ps) = length-append (enc p) (encs ps) ∙ ap₂ (λ (n m : ℕ). n + m) (length_enc p) (length_encs ps)

-- ---- what stands somewhere stands wherever the words agree

-- a run of words that agree, and the first of them
pub agree_part : {w : List ℕ} {a : ℕ} {v : List ℕ} {b n : ℕ} (i m : ℕ) → i + m ≤ n → Agree w a v b n
    → Agree w (a + i) v (b + i) m
agree_part {w} {a} {v} {b} i m l g = record {
  word = λ k h. rw (add_assoc a i k, add_assoc b i k) (g.word (i + k) (omega arith));
}

pub agree_first : {w : List ℕ} {a : ℕ} {v : List ℕ} {b n : ℕ} → 0 < n → Agree w a v b n → get_or v b 0 ≡ get_or w a 0
agree_first {w} {a} {v} {b} h g = rw (add-zero a, add-zero b) at (g.word 0 h)

-- the same for words, a tree and trees
pub words_move : (xs : List ℕ) {w : List ℕ} {a : ℕ} {v : List ℕ} {b : ℕ} → Words w a xs → Agree w a v b (length xs)
    → Words v b xs
words_move [] t g = tt
words_move (x ∷ xs) t g = (
  agree_first (omega arith) g ∙ t.0,
  words_move xs t.1 (agree_part 1 (length xs) (omega arith) g),
)

mutual
  pub at_move : (p : Rose) {w : List ℕ} {a : ℕ} {v : List ℕ} {b : ℕ} → At w a p → Agree w a v b (size p) → At v b p
  at_move (node s own ps) t g = (
    words_move own t.0 (record { word = λ k h. g.word k (omega arith) }),
    ats_move ps t.1 (agree_part (length own) (sizes ps) (omega arith) g),
  )

  pub ats_move : (ps : Roses) {w : List ℕ} {a : ℕ} {v : List ℕ} {b : ℕ} → Ats w a ps → Agree w a v b (sizes ps)
      → Ats v b ps
  ats_move nil t g = tt
  ats_move (cons p ps) t g = (
    at_move p t.0 (record { word = λ k h. g.word k (omega arith) }),
    ats_move ps t.1 (agree_part (size p) (sizes ps) (omega arith) g),
  )

-- ---- from the place to the words

-- a segment of two parts
take_two : (w : List ℕ) (a n m : ℕ) → take (n + m) (drop a w) ≡ take n (drop a w) ++ take m (drop (a + n) w)
take_two w a n m = take-add n m (drop a w) ∙ ap (λ (l : List ℕ). take n (drop a w) ++ take m l) (drop-drop n a w)

-- what stands within the words is their segment
pub words_take : (xs w : List ℕ) (a : ℕ) → Words w a xs → a + length xs ≤ length w → take (length xs) (drop a w) ≡ xs
words_take [] w a t l = refl
words_take (x ∷ xs) w a t l =
    let rest : take (length xs) (drop (suc a) w) ≡ xs =
    ap (λ (i : ℕ). take (length xs) (drop i w)) (sym (add-one a)) ∙ words_take xs w (a + 1) t.1 (omega arith) in
    ap (take (suc (length xs))) (drop-cons w a 0 (omega arith)) ∙ ap₂ ◌∷◌ t.0 rest

mutual
  pub at_take : (p : Rose) (w : List ℕ) (a : ℕ) → At w a p → a + size p ≤ length w → take (size p) (drop a w) ≡ enc p
  at_take (node s own ps) w a t l =
      take_two w a (length own) (sizes ps)
      ∙ ap₂ ◌++◌ (words_take own w a t.0 (omega arith)) (ats_take ps w (a + length own) t.1 (omega arith))

  pub ats_take : (ps : Roses) (w : List ℕ) (a : ℕ) → Ats w a ps → a + sizes ps ≤ length w
      → take (sizes ps) (drop a w) ≡ encs ps
  ats_take nil w a t l = refl
  ats_take (cons p ps) w a t l =
      take_two w a (size p) (sizes ps)
      ∙ ap₂ ◌++◌ (at_take p w a t.0 (omega arith)) (ats_take ps w (a + size p) t.1 (omega arith))

-- ---- from the words to the place

-- three lists put together either way, with a fourth in front
joined : (before xs ys zs : List ℕ) → (before ++ xs) ++ (ys ++ zs) ≡ before ++ ((xs ++ ys) ++ zs)
joined before xs ys zs = simp append_assoc

-- words, a tree and trees stand behind what is in front of them
words_behind : (xs before after : List ℕ) (a : ℕ) → length before ≡ a → Words (before ++ (xs ++ after)) a xs
words_behind [] before after a e = tt
words_behind (x ∷ xs) before after a e = (
  get_or_at before x (xs ++ after) 0 a e,
  rw append_assoc at
      (words_behind xs (before ++ (x ∷ [])) after (a + 1) (omega (arith, length-append before (x ∷ [])))),
)

mutual
  at_behind : (p : Rose) (before after : List ℕ) (a : ℕ) → length before ≡ a → At (before ++ (enc p ++ after)) a p
  at_behind (node s own ps) before after a e = (
    rw (append_assoc own (encs ps) after) (words_behind own before (encs ps ++ after) a e),
    subst (λ (l : List ℕ). Ats l (a + length own) ps) (joined before own (encs ps) after)
        (ats_behind ps (before ++ own) after (a + length own) (omega (arith, length-append before own))),
  )

  ats_behind : (ps : Roses) (before after : List ℕ) (a : ℕ) → length before ≡ a
      → Ats (before ++ (encs ps ++ after)) a ps
  ats_behind nil before after a e = tt
  ats_behind (cons p ps) before after a e =
      let l : length (before ++ enc p) ≡ a + size p = omega (arith, length-append before (enc p), length_enc p) in (
        rw (append_assoc (enc p) (encs ps) after) (at_behind p before (encs ps ++ after) a e),
        subst (λ (l : List ℕ). Ats l (a + size p) ps) (joined before (enc p) (encs ps) after)
            (ats_behind ps (before ++ enc p) after (a + size p) l),
      )

-- a tree stands in its own words
pub at_enc : (p : Rose) → At (enc p) 0 p
at_enc p = subst (λ (l : List ℕ). At l 0 p) (append-nil (enc p)) (at_behind p [] [] 0 refl)

-- and wherever a segment is its words
pub at_taken : (p : Rose) (w : List ℕ) (a : ℕ) → take (size p) (drop a w) ≡ enc p → At w a p
at_taken p w a e =
    at_move p (at_enc p) (record { word = λ k h. sym (found k h) ∙ ap (λ (j : ℕ). get_or (enc p) j 0) (omega arith) })
  where
    found : (k : ℕ) → k < size p → get_or (enc p) k 0 ≡ get_or w (a + k) 0
    found k h =
        ap (λ (l : List ℕ). get_or l k 0) (sym e) ∙ get_or-take (size p) (drop a w) k 0 h ∙ get_or-drop a w k 0
