-- What an entry point gives: its answer, or one refusal of the papers (document 01, 'Turned back', and document 02), by
-- its number and its place.
use Rattle.std.specs.Prelude.{cond, List, ◌++◌, ℕ, ltb, length, drop}

pub data Outcome (A : Type 0) : Type 0 where
  given : A → Outcome A
  refused : ℕ → ℕ → Outcome A

-- "the lower number comes first": a refusal, or else what comes after it
abbrev pub ◌then◌ : {A B : Type 0} → Outcome A → Outcome B → Outcome B
given a then next = next
refused number place then next = refused number place

infixr 20 ◌then◌
-- what a caller is told of a result: how many elements it has
abbrev pub size : Outcome (List ℕ) → Outcome ℕ
size (given xs) = given (length xs)
size (refused number place) = refused number place

-- "no refusal alters a result buffer", and "result space past the answer keeps its contents": a lent buffer at exit
abbrev pub after : Outcome (List ℕ) → List ℕ → List ℕ
after (given xs) old = xs ++ drop (length xs) old
after (refused number place) old = old

-- refusal 11: "The result buffer is short (size needed, in that buffer's elements)"
abbrev pub fitted : ℕ → List ℕ → Outcome (List ℕ)
fitted room xs = cond (ltb room (length xs)) (refused 11 (length xs)) (given xs)
