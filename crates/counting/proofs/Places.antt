-- What stands in a list (`In`), and what stands at exactly one place of it (`Single`): by recursion on the list, in an
-- append, a map and the list of all pairs; and against places that are numbers.
-- Assumes nothing.
use mathlib.Core.Path.{◌≡◌, refl, sym, ap, subst}
use mathlib.Core.List.{List, [], ◌∷◌, ◌++◌, map}
use mathlib.Core.Logic.{◌⊎◌, inl, inr, ⊎_elim}
use Prim.Native.Nat.{ℕ, zero, suc}
use native.Mathlib.Omega.{arith}
use Rattle.std.specs.declared.option.Option.TheVariants.{Some}
use Rattle.std.specs.List.{slice_get, flat_map}
use Rattle.std.proofs.lemmas.Option.{none-some, same_Some}

-- a stands in the list
abbrev pub In : {A : Type 0} → A → List A → Type 0
In a [] = ⊥
In a (x ∷ xs) = (x ≡ a) ⊎ In a xs

-- and at exactly one place
abbrev pub Single : {A : Type 0} → A → List A → Type 0
Single a [] = ⊥
Single a (x ∷ xs) = ((x ≡ a) × (In a xs → ⊥)) ⊎ (((x ≡ a) → ⊥) × Single a xs)

-- ---- in an append

module _ {A : Type 0} (a : A) where
  pub single_in : (xs : List A) → Single a xs → In a xs
  single_in [] s = s
  single_in (x ∷ xs) (inl h) = inl h.0
  single_in (x ∷ xs) (inr h) = inr (single_in xs h.1)

  pub in_append : (xs ys : List A) → In a (xs ++ ys) → In a xs ⊎ In a ys
  in_append [] ys h = inr h
  in_append (x ∷ xs) ys (inl e) = inl (inl e)
  in_append (x ∷ xs) ys (inr h) = ⊎_elim (λ l. inl (inr l)) (λ r. inr r) (in_append xs ys h)

  in_neither : (xs ys : List A) → (In a xs → ⊥) → (In a ys → ⊥) → In a (xs ++ ys) → ⊥
  in_neither xs ys l r h = ⊎_elim l r (in_append xs ys h)

  pub single_left : (xs ys : List A) → Single a xs → (In a ys → ⊥) → Single a (xs ++ ys)
  single_left [] ys s r = absurd s
  single_left (x ∷ xs) ys (inl h) r = inl (h.0, in_neither xs ys h.1 r)
  single_left (x ∷ xs) ys (inr h) r = inr (h.0, single_left xs ys h.1 r)

  pub single_right : (xs ys : List A) → (In a xs → ⊥) → Single a ys → Single a (xs ++ ys)
  single_right [] ys l s = s
  single_right (x ∷ xs) ys l s = inr (λ e. l (inl e), single_right xs ys (λ h. l (inr h)) s)

-- ---- in a map

module _ {A B : Type 0} (f : A → B) where
  pub in_map : (b : B) (xs : List A) → In b (map f xs) → (a : A) × (f a ≡ b) × In a xs
  in_map b [] h = absurd h
  in_map b (x ∷ xs) (inl e) = (x, e, inl refl)
  in_map b (x ∷ xs) (inr h) = let t = in_map b xs h in (t.0, t.1, inr t.2)

  module _ (a : A) (same : (x : A) → f x ≡ f a → x ≡ a) where
    in_map_same : (xs : List A) → In (f a) (map f xs) → In a xs
    in_map_same xs h = let t = in_map (f a) xs h in subst (λ (x : A). In x xs) (same t.0 t.1) t.2

    pub single_map : (xs : List A) → Single a xs → Single (f a) (map f xs)
    single_map [] s = s
    single_map (x ∷ xs) (inl h) = inl (ap f h.0, λ i. h.1 (in_map_same xs i))
    single_map (x ∷ xs) (inr h) = inr (λ e. h.0 (same x e), single_map xs h.1)

-- ---- in the list of all pairs

-- f of each of xs with each of ys
abbrev pub all_pairs : {A B C : Type 0} → (A → B → C) → List B → List A → List C
all_pairs f ys xs = flat_map (λ x. map (f x) ys) xs

-- what c is made of
pub record Pair {A B C : Type 0} (f : A → B → C) (xs : List A) (ys : List B) (c : C) : Type 0 where
  pub first : A
  pub second : B
  pub of_first : In first xs
  pub of_second : In second ys
  pub makes : f first second ≡ c

module _ {A B C : Type 0} (f : A → B → C) (ys : List B) where
  pub in_pairs : (c : C) (xs : List A) → In c (all_pairs f ys xs) → Pair f xs ys c
  in_pairs c [] h = absurd h
  in_pairs c (x ∷ xs) h =
      ⊎_elim
      (λ l. let t = in_map (f x) c ys l in
      record { first = x; second = t.0; of_first = inl refl; of_second = t.2; makes = t.1 })
      (λ r. let t = in_pairs c xs r in record {
        first = t.first;
        second = t.second;
        of_first = inr t.of_first;
        of_second = t.of_second;
        makes = t.makes;
      })
      (in_append c (map (f x) ys) (all_pairs f ys xs) h)

  module _ (a : A) (b : B) (same : (x : A) (y : B) → f x y ≡ f a b → (x ≡ a) × (y ≡ b)) where
    pub single_pairs : (xs : List A) → Single a xs → Single b ys → Single (f a b) (all_pairs f ys xs)
    single_pairs [] s t = s
    single_pairs (x ∷ xs) (inl h) t =
        single_left (f a b) (map (f x) ys) (all_pairs f ys xs)
        (subst (λ (u : A). Single (f a b) (map (f u) ys)) (sym h.0) (single_map (f a) b (λ y e. (same a y e).1) ys t))
        (λ i. let p = in_pairs (f a b) xs i in
        h.1 (subst (λ (u : A). In u xs) (same p.first p.second p.makes).0 p.of_first))
    single_pairs (x ∷ xs) (inr h) t =
        single_right (f a b) (map (f x) ys) (all_pairs f ys xs)
        (λ i. let p = in_map (f x) (f a b) ys i in h.0 (same x p.0 p.1).0)
        (single_pairs xs h.1 t)

-- ---- places that are numbers

module _ {A : Type 0} (a : A) where
  pub in_at : (xs : List A) (i : ℕ) → slice_get xs i ≡ Some a → In a xs
  in_at [] i e = absurd (none-some a e)
  in_at (x ∷ xs) zero e = inl (same_Some x a e)
  in_at (x ∷ xs) (suc i) e = inr (in_at xs i e)

  pub at_place : (xs : List A) → In a xs → (i : ℕ) × (slice_get xs i ≡ Some a)
  at_place [] h = absurd h
  at_place (x ∷ xs) (inl e) = (zero, ap Some e)
  at_place (x ∷ xs) (inr h) = let t = at_place xs h in (suc t.0, t.1)

  abbrev pub place_of : (xs : List A) → Single a xs → ℕ
  place_of [] s = absurd s
  place_of (x ∷ xs) (inl h) = zero
  place_of (x ∷ xs) (inr h) = suc (place_of xs h.1)

  pub place_stands : (xs : List A) (s : Single a xs) → slice_get xs (place_of xs s) ≡ Some a
  place_stands [] s = absurd s
  place_stands (x ∷ xs) (inl h) = ap Some h.0
  place_stands (x ∷ xs) (inr h) = place_stands xs h.1

  pub place_only : (xs : List A) (s : Single a xs) (i : ℕ) → slice_get xs i ≡ Some a → i ≡ place_of xs s
  place_only [] s i e = absurd s
  place_only (x ∷ xs) (inl h) zero e = refl
  place_only (x ∷ xs) (inl h) (suc i) e = absurd (h.1 (in_at xs i e))
  place_only (x ∷ xs) (inr h) zero e = absurd (h.0 (same_Some x a e))
  place_only (x ∷ xs) (inr h) (suc i) e = ap suc (place_only xs h.1 i e)

  pub single_at : (xs : List A) (i : ℕ) → slice_get xs i ≡ Some a → ((j : ℕ) → slice_get xs j ≡ Some a → j ≡ i)
      → Single a xs
  single_at [] i e only = absurd (none-some a e)
  single_at (x ∷ xs) zero e only =
      inl (
        same_Some x a e,
        λ h. let t = at_place xs h in
            let past : suc t.0 ≡ zero = only (suc t.0) t.1 in
            omega arith,
      )
  single_at (x ∷ xs) (suc i) e only =
      inr (
        λ p. let first : zero ≡ suc i = only zero (ap Some p) in omega arith,
        single_at xs i e (λ j h. let next : suc j ≡ suc i = only (suc j) h in omega arith),
      )
