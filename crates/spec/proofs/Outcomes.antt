-- Laws on outcomes: what an outcome that is given tells of the tests before it.
-- Assumes nothing.
use mathlib.Core.Bool.{Bool, true, false, cond}
use mathlib.Core.List.{List}
use mathlib.Core.Path.{◌≡◌, refl}
use Prim.Native.Nat.{ℕ, ◌≤◌}
use native.Mathlib.Omega.{arith}
use borrow.Author.Tests.{le-ltb, ltb-false}
use lib.Dec.{ltb}
use lib.ListN.{length}
use mir.Val.{bool_byte}
-- both sides of a conjunction, and neither side of a disjunction
pub use Rattle.std.proofs.lemmas.Bool.{and_parts as both, or_parts as neither}
use Rattle.spec.specs.Outcome.{Outcome, given, refused, ◌then◌, fitted}

-- by cases on a test, with the equation kept
pub by_test : (P : Type 0) (test : Bool) → (test ≡ true → P) → (test ≡ false → P) → P
by_test P true f g = f refl
by_test P false f g = g refl

-- a bool as a number
pub byte_one : (b : Bool) → bool_byte b ≤ 1
byte_one true = omega arith
byte_one false = omega arith

module _ {A : Type 0} where
  pub not_given : {number place : ℕ} {a : A} → refused number place ≡ given a → ⊥
  not_given e = cc

  -- a test that would have refused has passed
  pub passed : (test : Bool) (o : Outcome A) (number place : ℕ) {a : A}
      → cond test o (refused number place) ≡ given a → (test ≡ true) × (o ≡ given a)
  passed true o number place e = (refl, e)
  passed false o number place e = absurd (not_given e)

-- what comes first was not refused, and what comes after it is the outcome
pub then_given : {B : Type 0} (o : Outcome (Unit {0})) (next : Outcome B) {b : B}
    → o then next ≡ given b → (o ≡ given tt) × (next ≡ given b)
then_given (given u) next e = (refl, e)
then_given (refused number place) next e = absurd (not_given e)

-- room that is enough
pub fitted_enough : (room : ℕ) (xs : List ℕ) → length xs ≤ room → fitted room xs ≡ given xs
fitted_enough room xs h = simp (le-ltb room (length xs) h)

pub fitted_given : (room : ℕ) (xs : List ℕ) {ys : List ℕ} → fitted room xs ≡ given ys → (length xs ≤ room) × (xs ≡ ys)
fitted_given room xs {ys} = go (ltb room (length xs)) refl
  where
    go : (t : Bool) → ltb room (length xs) ≡ t → cond t (refused 11 (length xs)) (given xs) ≡ given ys
        → (length xs ≤ room) × (xs ≡ ys)
    go true q e = absurd (not_given e)
    go false q e = (ltb-false room (length xs) q, cc)
