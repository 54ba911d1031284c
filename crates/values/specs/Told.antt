-- What a caller of the C functions is told: an outcome as one number and a list of values.
use Rattle.std.specs.Prelude.{List, [], ◌∷◌, ◌≡◌, ℕ}
use Rattle.spec.specs.Outcome.{Outcome, given, refused}

-- the number that is returned: 0 where an answer is given, else the refusal's
abbrev pub number_of : {A : Type 0} → Outcome A → ℕ
number_of (given a) = 0
number_of (refused number place) = number

-- the values that are written: those of the answer, or the refusal's place
abbrev pub values_of : {A : Type 0} → (A → List ℕ) → Outcome A → List ℕ
values_of shown (given a) = shown a
values_of shown (refused number place) = place ∷ []

-- values over the start of a list, as many as it has room for; the rest of it stays
unfoldable pub laid : List ℕ → List ℕ → List ℕ
laid [] old = old
laid (x ∷ xs) [] = []
laid (x ∷ xs) (o ∷ old) = x ∷ laid xs old

-- the number returned and the lent values at exit are what an outcome says, whose answers are shown so
pub record Told {A : Type 0} (shown : A → List ℕ) (outcome : Outcome A) (before : List ℕ) (r : ℕ) (left : List ℕ)
    : Type 0
  where
    pub number : r ≡ number_of outcome
    pub values : left ≡ laid (values_of shown outcome) before

-- one value, and two
abbrev pub one_value : ℕ → List ℕ
one_value n = n ∷ []

abbrev pub pair_values : ℕ × ℕ → List ℕ
pair_values p = p.0 ∷ p.1 ∷ []
