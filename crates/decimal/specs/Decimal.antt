-- Decimal numbers in a text: what `cardpack` and the test programs read. Numbers are below 2^32, and white space stands
-- between them; any other token is no number, and reading stops there.
use Rattle.std.specs.Prelude.{Bool, true, not, cond, ◌&&◌, ◌||◌, List, [], ◌∷◌, ◌++◌, ◌≡◌, ℕ, ◌+◌, ◌-◌, ◌*◌, ◌^◌, ◌≤◌}
use Rattle.std.specs.Prelude.{eqb, leb, ltb, length, take, drop}
use Rattle.decimal.specs.declared.Mark.{Mark}
use Rattle.decimal.specs.declared.Mark.TheVariants.{Between, Within, Bad}
use Rattle.decimal.specs.declared.Taken.{Taken}

-- white space in ASCII: the space, and the five controls from tab to carriage return
abbrev pub is_space : ℕ → Bool
is_space b = eqb b 32 || (leb 9 b && leb b 13)

-- the digits from 0 to 9 in ASCII
abbrev pub is_digit : ℕ → Bool
is_digit b = leb 48 b && leb b 57

-- the number that the digits so far and one more make
abbrev pub with_digit : ℕ → ℕ → ℕ
with_digit n b = 10 * n + (b - 48)

-- a byte of a token, after digits that make n
abbrev pub in_token : ℕ → ℕ → Mark
in_token n b = cond (is_digit b && ltb (with_digit n b) (2 ^ 32)) (Within (with_digit n b)) Bad

-- the mark after one byte more
abbrev pub next_mark : Mark → ℕ → Mark
next_mark Between b = cond (is_space b) Between (in_token 0 b)
next_mark (Within n) b = cond (is_space b) Between (in_token n b)
next_mark Bad b = Bad

-- the number that ends at a byte: white space ends a token
abbrev pub ended : Mark → ℕ → List ℕ
ended Between b = []
ended (Within n) b = cond (is_space b) (n ∷ []) []
ended Bad b = []

-- what is read: where reading stands, and the numbers so far
pub record Scan : Type 0 where
  pub at : Mark
  pub numbers : List ℕ

-- one byte more, while there is room for a number
abbrev pub step : ℕ → Scan → ℕ → Scan
step room s b =
    cond (ltb (length s.numbers) room)
    (record { at = next_mark s.at b; numbers = s.numbers ++ ended s.at b })
    s

-- a piece of a text, byte by byte
unfoldable pub scan : ℕ → Scan → List ℕ → Scan
scan room s [] = s
scan room s (b ∷ text) = scan room (step room s b) text

-- what putting a number, or none, behind the count that the words hold does
pub record Putting (new : List ℕ) (count : ℕ) (before : List ℕ) (r : ℕ) (after : List ℕ) : Type 0 where
  pub taken : take r after ≡ take count before ++ new
  pub within : r ≤ length after
  pub rest : drop r after ≡ drop r before

-- what reading a piece of a text does: the words hold the numbers so far at their start, and are otherwise as they were
pub record Taking (text : List ℕ) (mark : Mark) (count : ℕ) (before : List ℕ) (r : Taken) (after : List ℕ)
    : Type 0 where
  pub scanned :
      scan (length before) (record { at = mark; numbers = take count before }) text
      ≡ record { at = r.mark; numbers = take r.count after }
  pub within : r.count ≤ length after
  pub rest : drop r.count after ≡ drop r.count before

-- What a token means: the marks over a run of bytes, and the number that digits make. `Tokens` of the proofs shows how
-- they go together.

-- the mark after a run of bytes
unfoldable pub marks : Mark → List ℕ → Mark
marks m [] = m
marks m (b ∷ text) = marks (next_mark m b) text

-- none of the bytes is white space
unfoldable pub no_space : List ℕ → Bool
no_space [] = true
no_space (b ∷ text) = not (is_space b) && no_space text

-- each of the bytes is a digit
unfoldable pub all_digits : List ℕ → Bool
all_digits [] = true
all_digits (b ∷ text) = is_digit b && all_digits text

-- the number that digits make, the most significant first
unfoldable pub value : List ℕ → ℕ
value [] = 0
value (b ∷ text) = (b - 48) * 10 ^ length text + value text
