-- The laws of steps, and the steps that give a value and leave the record as it was.
-- Assumes nothing.
use mathlib.Core.Path.{◌≡◌, refl, ap, ◌∙◌, fun_ext}
use mathlib.Core.Bool.{Bool, true, false, cond}
use Rattle.spec.specs.Value.{Record, Value, Choice, value_truth}
use Rattle.spec.specs.Running.{Result, done, failed, Step, next, give, bind, test}

-- ---- laws

-- to give what was given changes nothing
module _ {A : Type 0} where
  next_give : (r : Result A) → next r (λ a. give a) ≡ r
  unfolding next give
  next_give (done a h) = refl
  next_give (failed f h) = refl

  pub bind_give : (m : Step A) → bind m (λ a. give a) ≡ m
  unfolding bind
  bind_give m = fun_ext λ h. next_give (m h)

module _ {A B : Type 0} where
  -- a value given is handed on
  pub give_bind : (a : A) (k : A → Step B) → bind (give a) k ≡ k a
  unfolding bind give next
  give_bind a k = refl

  -- equal steps in one place or in both
  pub bind_ext : (m : Step A) {k k' : A → Step B} → ((a : A) → k a ≡ k' a) → bind m k ≡ bind m k'
  bind_ext m e = ap (λ (k : A → Step B). bind m k) (fun_ext e)

  pub bind_to : {m m' : Step A} (k : A → Step B) → m ≡ m' → bind m k ≡ bind m' k
  bind_to k e = ap (λ (m : Step A). bind m k) e

  pub bind_both : {m m' : Step A} {k k' : A → Step B} → m ≡ m' → ((a : A) → k a ≡ k' a) → bind m k ≡ bind m' k'
  bind_both {m = m} {k' = k'} e f = bind_ext m f ∙ bind_to k' e

-- three steps in a row
module _ {A B D : Type 0} where
  next_assoc : (r : Result A) (k : A → Step B) (j : B → Step D) → next (next r k) j ≡ next r (λ a. bind (k a) j)
  unfolding next bind
  next_assoc (done a h) k j = refl
  next_assoc (failed f h) k j = refl

  pub bind_assoc : (m : Step A) (k : A → Step B) (j : B → Step D) → bind (bind m k) j ≡ bind m (λ a. bind (k a) j)
  unfolding bind
  bind_assoc m k j = fun_ext λ h. next_assoc (m h) k j

-- ---- quiet steps

-- at every record the step gives a value and leaves the record as it was
abbrev pub Quiet : {A : Type 0} → Step A → Type 0
Quiet {A} m = (h : Record) → (a : A) × (m h ≡ done a h)

-- giving, and either of two quiet steps
module _ {A : Type 0} where
  pub quiet_give : (a : A) → Quiet (give a)
  unfolding give
  quiet_give a h = (a, refl)

  pub quiet_cond : (b : Bool) (m n : Step A) → Quiet m → Quiet n → Quiet (cond b m n)
  quiet_cond true m n p q = p
  quiet_cond false m n p q = q

module _ {A B : Type 0} where
  -- where a step gives a and leaves the record, what follows it is what follows a
  pub bind_at : (m : Step A) (k : A → Step B) (h : Record) (a : A) → m h ≡ done a h → bind m k h ≡ k a h
  unfolding bind next
  bind_at m k h a e = ap (λ (r : Result A). next r k) e

  -- a quiet step and then quiet ones
  pub quiet_bind : (m : Step A) (k : A → Step B) → Quiet m → ((a : A) → Quiet (k a)) → Quiet (bind m k)
  quiet_bind m k q r h =
      let (a, e) = q h in
      let (b, f) = r a h in
      (b, bind_at m k h a e ∙ f)

  -- a quiet step whose value nobody reads
  pub quiet_drop : (m : Step A) (n : Step B) → Quiet m → bind m (λ a. n) ≡ n
  quiet_drop m n q = fun_ext λ h. bind_at m (λ a. n) h (q h).0 (q h).1

-- ---- tests

-- a quiet step whose value has the truth b
abbrev pub Knows : Choice → Step Value → Bool → Type 0
Knows C m b = (h : Record) → (v : Value) × (m h ≡ done v h) × (value_truth C v ≡ b)

module _ (C : Choice) where
  -- testing a quiet step's value is quiet
  pub quiet_test : (m : Step Value) → Quiet m → Quiet (test C m)
  unfolding test
  quiet_test m q = quiet_bind m (λ v. give (value_truth C v)) q (λ v. quiet_give (value_truth C v))

  -- a known truth is the truth that a test gives
  pub test_knows : (m : Step Value) (b : Bool) → Knows C m b → test C m ≡ give b
  unfolding test give
  test_knows m b q =
      fun_ext λ h. bind_at m (λ v. give (value_truth C v)) h (q h).0 (q h).1 ∙ ap (λ (c : Bool). done c h) (q h).2

  -- a condition's truth is all that is read of it
  pub test_bind : {A : Type 0} (m : Step Value) (k : Bool → Step A)
      → bind (test C m) k ≡ bind m (λ v. k (value_truth C v))
  unfolding test
  test_bind m k =
      bind_assoc m (λ v. give (value_truth C v)) k ∙ bind_ext m (λ v. give_bind (value_truth C v) k)
