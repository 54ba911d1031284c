-- What a token means: a run of bytes without white space is the number that its digits make, if all are digits and the
-- number is below 2^32, and is refused otherwise. And a text may be read in pieces. Assumes nothing.
use mathlib.Core.Bool.{Bool, true, false, not, cond, ◌&&◌}
use mathlib.Core.List.{List, [], ◌∷◌, ◌++◌, append-nil}
use mathlib.Core.Path.{◌≡◌, refl, sym, ap, ◌∙◌}
use Prim.Native.Nat.{ℕ, ◌+◌, ◌-◌, ◌*◌, ◌^◌, ◌≤◌, ◌<◌}
use native.Mathlib.Nat.{add-mul, mul_assoc, mul_comm, pow-suc, one-le-pow, mul-le-mul_left, mul-one}
use native.Mathlib.Omega.{arith}
use borrow.Author.Tests.{lt-ltb, le-ltb, ltb-true, ltb-false, not-true}
use lib.Dec.{ltb}
use Rattle.std.proofs.lemmas.Bool.{and_parts}
use lib.ListN.{length}
use Rattle.decimal.proofs.Reading.{step_room}
use Rattle.decimal.specs.declared.Mark.{Mark}
use Rattle.decimal.specs.declared.Mark.TheVariants.{Between, Within, Bad}
use Rattle.decimal.specs.Decimal.{
  is_space,
  is_digit,
  with_digit,
  in_token,
  next_mark,
  ended,
  Scan,
  step,
  scan,
  marks,
  no_space,
  all_digits,
  value,
}

-- a text may be read in pieces
pub scan_append : (room : ℕ) (s : Scan) (a b : List ℕ) → scan room s (a ++ b) ≡ scan room (scan room s a) b
unfolding scan
scan_append room s [] b = refl
scan_append room s (x ∷ a) b = scan_append room (step room s x) a b

module _ (b : ℕ) (text : List ℕ) (none : no_space (b ∷ text) ≡ true) where
  -- the first byte is no white space, and neither is the rest
  first_no_space : is_space b ≡ false
  unfolding no_space
  first_no_space = not-true (is_space b) (and_parts (not (is_space b)) (no_space text) none).0

  rest_no_space : no_space text ≡ true
  unfolding no_space
  rest_no_space = (and_parts (not (is_space b)) (no_space text) none).1

-- only white space ends a number
none_ended : (at : Mark) (b : ℕ) → is_space b ≡ false → ended at b ≡ []
none_ended Between b e = refl
none_ended (Within n) b e = rw e
none_ended Bad b e = refl

-- while nothing ends and there is room, reading follows the marks
pub scan_marks :
    (room : ℕ) (at : Mark) (numbers text : List ℕ) →
    no_space text ≡ true →
    length numbers < room →
    scan room (record { at = at; numbers = numbers }) text ≡ record { at = marks at text; numbers = numbers }
unfolding scan marks
scan_marks room at numbers [] none h = refl
scan_marks room at numbers (b ∷ text) none h =
    ap (λ (s : Scan). scan room s text)
    (step_room room at numbers b h ∙ rw (none_ended at b (first_no_space b text none), append-nil))
    ∙ scan_marks room (next_mark at b) numbers text (rest_no_space b text none) h

-- what a token makes, from whether all its bytes are digits, and the number that they make
abbrev token : Bool → ℕ → Mark
token all n = cond (all && ltb n (2 ^ 32)) (Within n) Bad

-- a token that is no number stays one
marks_bad : (text : List ℕ) → marks Bad text ≡ Bad
unfolding marks
marks_bad [] = refl
marks_bad (b ∷ text) = marks_bad text

-- a number that is too large is refused
token_large : (all : Bool) (n : ℕ) → 2 ^ 32 ≤ n → token all n ≡ Bad
token_large true n h = rw (le-ltb n (2 ^ 32) h)
token_large false n h = refl

-- one digit more moves the digits so far up by one place
moved_up : (n x p v : ℕ) → (10 * n + x) * p + v ≡ n * (p * 10) + (x * p + v)
moved_up n x p v =
    let e : 10 * n * p ≡ n * (p * 10) = rw (mul_comm 10 n, mul_assoc n 10 p, mul_comm 10 p) in
    omega (arith, add-mul (10 * n) x p)

-- the number so far is at most the whole number
not_less : (n k v : ℕ) → n ≤ n * 10 ^ k + v
not_less n k v = omega (arith, mul-le-mul_left n (one-le-pow k 10 (omega arith)), mul-one n)

-- the number that digits make after digits that make n
abbrev whole : ℕ → List ℕ → ℕ
whole n text = n * 10 ^ length text + value text

-- one digit more belongs to the digits so far, or to those that come
whole_digit : (n b : ℕ) (text : List ℕ) → whole (with_digit n b) text ≡ whole n (b ∷ text)
unfolding value
whole_digit n b text =
    moved_up n (b - 48) (10 ^ length text) (value text) ∙ rw (pow-suc 10 (length text))

-- one byte of a token, where the rest is read rightly from any number
after_byte :
    (n b : ℕ) (text : List ℕ) →
    ((m : ℕ) → m < 2 ^ 32 → marks (Within m) text ≡ token (all_digits text) (whole m text)) →
    marks (in_token n b) text ≡ token (all_digits (b ∷ text)) (whole n (b ∷ text))
unfolding all_digits
after_byte n b text later = pick (is_digit b) (ltb (with_digit n b) (2 ^ 32)) refl
  where
    pick :
        (digit small : Bool) →
        ltb (with_digit n b) (2 ^ 32) ≡ small →
        marks (cond (digit && small) (Within (with_digit n b)) Bad) text
        ≡ token (digit && all_digits text) (whole n (b ∷ text))
    pick false small e = marks_bad text
    pick true true e = later (with_digit n b) (ltb-true _ _ e) ∙ ap (token (all_digits text)) (whole_digit n b text)
    pick true false e =
        let large : 2 ^ 32 ≤ with_digit n b = ltb-false _ _ e in
        let more : with_digit n b ≤ whole (with_digit n b) text = not_less (with_digit n b) (length text) (value text)
        in
        marks_bad text ∙ sym (token_large (all_digits text) (whole n (b ∷ text)) (omega (arith, whole_digit n b text)))

-- a token's bytes after digits that make n
token_from :
    (text : List ℕ) →
    no_space text ≡ true →
    (n : ℕ) →
    n < 2 ^ 32 →
    marks (Within n) text ≡ token (all_digits text) (whole n text)
unfolding marks all_digits value
token_from [] none n h =
    let e : n * 1 + 0 ≡ n = omega arith in
    rw (e, lt-ltb n (2 ^ 32) h)
token_from (b ∷ text) none n h =
    ap (λ (m : Mark). marks m text) (rw (first_no_space b text none))
    ∙ after_byte n b text (token_from text (rest_no_space b text none))

-- a token: the number that its digits make, or no number below 2^32
pub token_marks :
    (b : ℕ) (text : List ℕ) →
    no_space (b ∷ text) ≡ true →
    marks Between (b ∷ text)
    ≡ cond (all_digits (b ∷ text) && ltb (value (b ∷ text)) (2 ^ 32)) (Within (value (b ∷ text))) Bad
unfolding marks
token_marks b text none =
    let e : 0 * 10 ^ length (b ∷ text) + value (b ∷ text) ≡ value (b ∷ text) = omega arith in
    token_from (b ∷ text) none 0 (omega arith) ∙ ap (token (all_digits (b ∷ text))) e

-- digits with white space behind them put their number behind those before
pub scan_number :
    (room : ℕ) (numbers : List ℕ) (b : ℕ) (text : List ℕ) (space : ℕ) →
    no_space (b ∷ text) ≡ true →
    (all_digits (b ∷ text) && ltb (value (b ∷ text)) (2 ^ 32)) ≡ true →
    is_space space ≡ true →
    length numbers < room →
    scan room (record { at = Between; numbers = numbers }) ((b ∷ text) ++ space ∷ [])
    ≡ record { at = Between; numbers = numbers ++ value (b ∷ text) ∷ [] }
unfolding scan
scan_number room numbers b text space none digits ends h =
    let n = value (b ∷ text) in
    let inside : marks Between (b ∷ text) ≡ Within n = token_marks b text none ∙ rw digits in
    scan_append room (record { at = Between; numbers = numbers }) (b ∷ text) (space ∷ [])
    ∙ ap (λ (s : Scan). step room s space) (scan_marks room Between numbers (b ∷ text) none h)
    ∙ ap (λ (m : Mark). step room (record { at = m; numbers = numbers }) space) inside
    ∙ step_room room (Within n) numbers space h
    ∙ rw ends
