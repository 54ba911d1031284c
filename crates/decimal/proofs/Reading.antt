-- What `put_ended` and `take_words` do to the words, as facts of plain lists: a number is put behind those that are
-- held, and the loop of `take_words` keeps to `scan`. Assumes nothing.
use mathlib.Core.List.{List, [], ◌∷◌, ◌++◌}
use mathlib.Core.Path.{◌≡◌, refl, sym, ap, ◌∙◌}
use Prim.Native.Nat.{ℕ, suc, ◌+◌, ◌-◌, ◌≤◌, ◌<◌}
use native.Mathlib.Numerals.{add-one}
use native.Mathlib.Omega.{arith}
use borrow.Author.Tests.{lt-ltb, le-ltb}
use lib.ListN.{length, take, drop, get_or, length-append, drop_of_length-le}
use lib.Seq.{length-take-le, drop-cons, drop-drop}
use Rattle.decimal.specs.declared.Mark.{Mark}
use Rattle.decimal.specs.Decimal.{ended, next_mark, Scan, step, scan, Putting, Taking}

-- what is held stays in front of what is put
pub put_behind :
    {new words after : List ℕ} {count r : ℕ} →
    Putting new count words r after →
    count ≤ length words →
    count ≤ r
put_behind {new} {words} {after} {count} {r} p h =
    omega (
      arith,
      ap length p.taken,
      length-append (take count words) new,
      length-take-le r after p.within,
      length-take-le count words h,
    )

-- where there is no room, reading stays where it is
pub scan_full : (room : ℕ) (s : Scan) (text : List ℕ) → room ≤ length s.numbers → scan room s text ≡ s
unfolding scan
scan_full room s [] h = refl
scan_full room s (b ∷ text) h = rw (le-ltb (length s.numbers) room h) (scan_full room s text h)

-- where there is room, a byte is read
pub step_room :
    (room : ℕ) (at : Mark) (numbers : List ℕ) (b : ℕ) →
    length numbers < room →
    step room (record { at = at; numbers = numbers }) b ≡ record
    { at = next_mark at b; numbers = numbers ++ ended at b }
step_room room at numbers b h = rw (lt-ltb (length numbers) room h)

-- reading goes byte by byte
pub scan_cons : (room : ℕ) (s : Scan) (b : ℕ) (text : List ℕ) → scan room s (b ∷ text) ≡ scan room (step room s b) text
unfolding scan
scan_cons room s b text = refl

module _ (text before : List ℕ) (mark : Mark) (count : ℕ) where
  -- after i bytes of the text reading stands at `at`, and the words hold `held` numbers
  pub record Reading (words : List ℕ) (at : Mark) (held i : ℕ) : Type 0 where
    pub passed : i ≤ length text
    pub fits : held ≤ length words
    pub same : length words ≡ length before
    pub scanned :
        scan (length before) (record { at = mark; numbers = take count before }) text
        ≡ scan (length before) (record { at = at; numbers = take held words }) (drop i text)
    pub rest : drop held words ≡ drop held before

  -- before the first byte
  pub reading_starts : count ≤ length before → Reading before mark count 0
  reading_starts h = record { passed = omega arith; fits = h; same = refl; scanned = refl; rest = refl }

  -- a byte more, where there is room
  pub reading_more :
      {words after : List ℕ} {at next : Mark} {held i r : ℕ} →
      Reading words at held i →
      i < length text →
      held < length words →
      Putting (ended at (get_or text i 0)) held words r after →
      length after ≡ length words →
      next ≡ next_mark at (get_or text i 0) →
      Reading after next r (i + 1)
  reading_more {words} {after} {at} {next} {held} {i} {r} s h room p same e = record {
    passed = omega arith;
    fits = p.within;
    same = same ∙ s.same;
    scanned =
        s.scanned
        ∙ ap (scan (length before) _) (drop-cons text i 0 h)
        ∙ scan_cons (length before) _ (get_or text i 0) (drop (suc i) text)
        ∙ rw (step_room (length before) at (take held words) (get_or text i 0) fit, p.taken, e, add-one);
    rest = p.rest ∙ drop_later;
  }
    where
      fit : length (take held words) < length before
      fit = omega (arith, length-take-le held words s.fits, s.same)

      drop_later : drop r words ≡ drop r before
      drop_later =
          let k : r ≡ held + (r - held) = omega (arith, put_behind p s.fits) in
          ap (λ (n : ℕ). drop n words) k
          ∙ sym (drop-drop (r - held) held words)
          ∙ ap (drop (r - held)) s.rest
          ∙ drop-drop (r - held) held before
          ∙ ap (λ (n : ℕ). drop n before) (sym k)

  -- the words are full
  pub reading_full :
      {words : List ℕ} {at : Mark} {held i : ℕ} →
      Reading words at held i →
      held ≡ length words →
      Taking text mark count before (record { mark = at; count = held }) words
  reading_full {words} {at} {held} {i} s e = record {
    scanned =
        let held_All = length-take-le held words s.fits in
        let full : length before ≤ length (take held words) = omega (arith, s.same) in
        s.scanned ∙ scan_full (length before) _ (drop i text) full;
    within = s.fits;
    rest = s.rest;
  }

  -- the text is at its end
  pub reading_ends :
      {words : List ℕ} {at : Mark} {held i : ℕ} →
      Reading words at held i →
      length text ≤ i →
      Taking text mark count before (record { mark = at; count = held }) words
  unfolding scan
  reading_ends {words} {at} {held} {i} s e = record {
    scanned = s.scanned ∙ rw (drop_of_length-le text e);
    within = s.fits;
    rest = s.rest;
  }

-- what the check applies in `take_words`
pub ruleset readings = (reading_starts, reading_full, reading_ends)
