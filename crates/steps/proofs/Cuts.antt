-- A payload that is cut out of the words: word i of it stands i words behind the place where it begins.
-- Assumes nothing.
use mathlib.Core.Bool.{true, false}
use mathlib.Core.List.{List}
use mathlib.Core.Path.{◌≡◌, ap, sym, ◌∙◌}
use Prim.Native.Nat.{ℕ, ◌+◌, ◌-◌, ◌≤◌, ◌<◌}
use native.Mathlib.Omega.{arith}
use lib.ListN.{length, get_or, take, drop}
use Rattle.std.proofs.lemmas.List.{get_or-take, get_or-drop, length-take, length-drop}
use Rattle.std.specs.Prelude.{min, max}
use Rattle.spec.specs.Outcome.{given, refused}
use Rattle.tables.specs.Payload.{pay_count, pay_right}
use Rattle.steps.proofs.Decompose.{pay_from, pay_missing, pay_wrong, pay_goes, pay_ends}

-- so many words from a place on, or all that are left if there are fewer
module _ (ws pay : List ℕ) (at count : ℕ) (cut : pay ≡ take count (drop at ws)) where
  cut_length : length pay ≡ min count (length ws - at)
  cut_length = ap length cut ∙ length-take count (drop at ws) ∙ ap (min count) (length-drop at ws)

  -- it ends where the words end, or before
  pub cut_ends : (length pay ≤ count) × (length pay + at ≤ max at (length ws))
  cut_ends = let e = cut_length in (omega (arith, e), omega (arith, e))

  cut_inside : (i : ℕ) → i < length pay → (i < count) × (at + i < length ws)
  cut_inside i h = let e = cut_length in (omega (arith, e, h), omega (arith, e, h))

  cut_word : (i : ℕ) → i < length pay → get_or ws (at + i) 0 ≡ get_or pay i 0
  cut_word i h =
      sym (ap (λ (xs : List ℕ). get_or xs i 0) cut ∙ get_or-take count (drop at ws) i 0 (cut_inside i h).0
      ∙ get_or-drop at ws i 0)

  module _ (k d : ℕ) (many : count ≡ pay_count k d (get_or ws at 0)) where
    -- a word is right, or not
    pub cut_goes : (i : ℕ) → i < length pay → pay_right k d i (get_or pay i 0) ≡ true
        → pay_from ws at k d i (at + i) ≡ pay_from ws at k d (i + 1) (at + (i + 1))
    cut_goes i h right =
        let inside = cut_inside i h in
        let next : at + i + 1 ≡ at + (i + 1) = omega arith in
        pay_goes ws at k d i (at + i) (omega (arith, many, inside.0)) inside.1
        (ap (pay_right k d i) (cut_word i h) ∙ right)
        ∙ ap (pay_from ws at k d (i + 1)) next

    pub cut_wrong : (i : ℕ) → i < length pay → pay_right k d i (get_or pay i 0) ≡ false
        → pay_from ws at k d i (at + i) ≡ refused 9 (at + i)
    cut_wrong i h wrong =
        let inside = cut_inside i h in
        pay_wrong ws at k d i (at + i) (omega (arith, many, inside.0)) inside.1
        (ap (pay_right k d i) (cut_word i h) ∙ wrong)

    -- behind the last of them a word is missing, or none is
    pub cut_short : (i : ℕ) → i ≡ length pay → length pay < count
        → pay_from ws at k d i (at + i) ≡ refused 8 (at + length pay)
    cut_short i e h =
        let l = cut_length in
        pay_missing ws at k d i (at + i) (omega (arith, many, e)) (omega (arith, l, e))
        ∙ ap (λ (n : ℕ). refused 8 (at + n)) e

    pub cut_whole : (i : ℕ) → i ≡ length pay → count ≤ length pay
        → pay_from ws at k d i (at + i) ≡ given (at + length pay)
    cut_whole i e h =
        pay_ends ws at k d i (at + i) (omega (arith, many, e)) ∙ ap (λ (n : ℕ). given (at + n)) e

-- what the check applies in `pay_end`, and in `read_pay` of `reader`
pub ruleset told = (cut_goes, pay_ends)

pub ruleset payload = (cut_goes, cut_wrong, cut_short, cut_whole, cut_ends)
