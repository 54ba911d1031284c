-- Two lists that have the same elements, each at one place, have the same sum of any number of an element (`same_sum`),
-- and so the same count of those that pass a test.
-- Assumes nothing.
use mathlib.Core.Path.{◌≡◌, refl, sym, ap, subst, ◌∙◌}
use mathlib.Core.Bool.{Bool, cond}
use mathlib.Core.List.{List, [], ◌∷◌}
use mathlib.Core.Logic.{inl, inr}
use Prim.Native.Nat.{ℕ, ◌+◌}
use native.Mathlib.Omega.{arith}
use Rattle.std.specs.List.{sum_by, count_by}
use Rattle.std.proofs.lemmas.List.Sums.{sum_by-cons}
use Rattle.counting.proofs.Places.{In, Single, single_in}

-- ---- a list without the one place of an element

module _ {A : Type 0} (a : A) where
  abbrev without : (xs : List A) → Single a xs → List A
  without [] s = absurd s
  without (x ∷ xs) (inl h) = xs
  without (x ∷ xs) (inr h) = x ∷ without xs h.1

  sum_without : (f : A → ℕ) (xs : List A) (s : Single a xs) → sum_by f xs ≡ f a + sum_by f (without xs s)
  sum_without f [] s = absurd s
  sum_without f (x ∷ xs) (inl h) = sum_by-cons f x xs ∙ ap (λ (y : A). f y + sum_by f xs) h.0
  sum_without f (x ∷ xs) (inr h) =
      let behind = sum_without f xs h.1 in
      sum_by-cons f x xs
      ∙ omega arith
      ∙ ap (λ (n : ℕ). f a + n) (sym (sum_by-cons f x (without xs h.1)))

  -- what is left stood in the list, and is another
  in_without : (b : A) (xs : List A) (s : Single a xs) → In b (without xs s) → In b xs × ((b ≡ a) → ⊥)
  in_without b [] s i = absurd s
  in_without b (x ∷ xs) (inl h) i = (inr i, λ e. h.1 (subst (λ (c : A). In c xs) e i))
  in_without b (x ∷ xs) (inr h) (inl e) = (inl e, λ p. h.0 (e ∙ p))
  in_without b (x ∷ xs) (inr h) (inr i) = let t = in_without b xs h.1 i in (inr t.0, t.1)

  -- another is still at one place
  single_without : (b : A) → ((b ≡ a) → ⊥) → (xs : List A) (s : Single a xs) → Single b xs → Single b (without xs s)
  single_without b other [] s t = absurd s
  single_without b other (x ∷ xs) (inl h) (inl k) = absurd (other (sym k.0 ∙ h.0))
  single_without b other (x ∷ xs) (inl h) (inr k) = k.1
  single_without b other (x ∷ xs) (inr h) (inl k) = inl (k.0, λ i. k.1 (in_without b xs h.1 i).0)
  single_without b other (x ∷ xs) (inr h) (inr k) = inr (k.0, single_without b other xs h.1 k.1)

-- ---- the same elements

-- each of xs is at one place of ys
abbrev pub EachSingle : {A : Type 0} → List A → List A → Type 0
EachSingle {A} xs ys = (a : A) → In a xs → Single a ys

module _ {A : Type 0} where
  -- the first of a list is not in the rest, where each is at one place
  head_only : (x : A) (xs : List A) → Single x (x ∷ xs) → In x xs → ⊥
  head_only x xs (inl h) = h.1
  head_only x xs (inr h) = absurd (h.0 refl)

  rest_only : (x b : A) (xs : List A) → ((b ≡ x) → ⊥) → Single b (x ∷ xs) → Single b xs
  rest_only x b xs other (inl h) = absurd (other (sym h.0))
  rest_only x b xs other (inr h) = h.1

  same_sum : (f : A → ℕ) (xs ys : List A) → EachSingle xs ys → EachSingle ys xs → sum_by f xs ≡ sum_by f ys
  same_sum f [] [] there back = refl
  same_sum f [] (y ∷ ys) there back = absurd (back y (inl refl))
  same_sum f (x ∷ xs) ys there back =
      let s = there x (inl refl) in
      let rest = without x ys s in
      sum_by-cons f x xs
      ∙ ap (λ (n : ℕ). f x + n) (same_sum f xs rest
      (λ b i. single_without x b
      (λ e. head_only x xs (back x (single_in x ys s)) (subst (λ (c : A). In c xs) e i)) ys s (there b (inr i)))
      (λ b i. let t = in_without x b ys s i in rest_only x b xs t.1 (back b t.0)))
      ∙ sym (sum_without x f ys s)

  pub same_count : (p : A → Bool) (xs ys : List A) → EachSingle xs ys → EachSingle ys xs → count_by p xs ≡ count_by p ys
  same_count p xs ys there back = same_sum (λ a. cond (p a) 1 0) xs ys there back
