-- Values written, as many as there is room for, one by one.
-- Assumes nothing.
use Rattle.std.proofs.Common.{
  ◌≡◌,
  ℕ,
  zero,
  suc,
  ◌+◌,
  ◌≤◌,
  ◌<◌,
  List,
  [],
  ◌∷◌,
  length,
  take,
  get_or,
  ltb,
  set,
  refl,
  ◌∙◌,
  ap,
  arith,
}
use native.Mathlib.Numerals.{add-one}
use borrow.Author.Tests.{ltb-true, ltb-false}
use Rattle.spec.proofs.Outcomes.{by_test}
use Rattle.values.specs.Told.{laid}

-- there is as much room as before
laid_long : (xs old : List ℕ) → length (laid xs old) ≡ length old
unfolding laid
laid_long [] old = refl
laid_long (x ∷ xs) [] = refl
laid_long (x ∷ xs) (o ∷ old) = ap suc (laid_long xs old)

-- one value more, where there is room for it
laid_suc :
    (xs old : List ℕ) (i : ℕ) →
    i < length xs →
    i < length old →
    set (laid (take i xs) old) i (get_or xs i 0) ≡ laid (take (suc i) xs) old
unfolding laid
laid_suc [] old i h k = absurd (omega (arith, h))
laid_suc (x ∷ xs) [] i h k = absurd (omega (arith, k))
laid_suc (x ∷ xs) (o ∷ old) zero h k = refl
laid_suc (x ∷ xs) (o ∷ old) (suc i) h k =
    ap (λ (l : List ℕ). x ∷ l) (laid_suc xs old i (omega (arith, h)) (omega (arith, k)))

laid_more :
    (xs old : List ℕ) (i : ℕ) →
    i < length xs →
    i < length old →
    set (laid (take i xs) old) i (get_or xs i 0) ≡ laid (take (i + 1) xs) old
laid_more xs old i h k = rw add-one (laid_suc xs old i h k)

-- one value more, where there is no room
full_suc : (xs old : List ℕ) (i : ℕ) → length old ≤ i → laid (take i xs) old ≡ laid (take (suc i) xs) old
unfolding laid
full_suc [] old zero h = refl
full_suc [] old (suc i) h = refl
full_suc (x ∷ xs) [] zero h = refl
full_suc (x ∷ xs) [] (suc i) h = refl
full_suc (x ∷ xs) (o ∷ old) zero h = absurd (omega (arith, h))
full_suc (x ∷ xs) (o ∷ old) (suc i) h = ap (λ (l : List ℕ). x ∷ l) (full_suc xs old i (omega (arith, h)))

laid_full : (xs old : List ℕ) (i : ℕ) → length old ≤ i → laid (take i xs) old ≡ laid (take (i + 1) xs) old
laid_full xs old i h = rw add-one (full_suc xs old i h)

-- the next value, as far as there is room
pub laid_next :
    (xs old w v : List ℕ) (i : ℕ) →
    w ≡ laid (take i xs) old →
    i < length xs →
    (i < length w → v ≡ set w i (get_or xs i 0)) →
    (length w ≤ i → v ≡ w) →
    v ≡ laid (take (i + 1) xs) old
laid_next xs old w v i e h inside outside =
    let long = ap length e ∙ laid_long (take i xs) old in
    by_test _ (ltb i (length old))
    (λ t.
    let l = ltb-true i (length old) t in
    inside (omega (arith, l, long)) ∙ ap (λ (u : List ℕ). set u i (get_or xs i 0)) e ∙ laid_more xs old i h l)
    (λ t.
    let l = ltb-false i (length old) t in
    outside (omega (arith, l, long)) ∙ e ∙ laid_full xs old i l)

-- all values
pub laid_all : (xs old : List ℕ) (i : ℕ) → length xs ≤ i → laid (take i xs) old ≡ laid xs old
unfolding laid
laid_all [] old zero h = refl
laid_all [] old (suc i) h = refl
laid_all (x ∷ xs) old zero h = absurd (omega (arith, h))
laid_all (x ∷ xs) [] (suc i) h = refl
laid_all (x ∷ xs) (o ∷ old) (suc i) h = ap (λ (l : List ℕ). x ∷ l) (laid_all xs old i (omega (arith, h)))
