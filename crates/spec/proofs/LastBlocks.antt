-- The answer for a last block is the loader's (document 02, 2.2): what `read_blocks` gives for a file is what it says
-- of the blocks before the last, then the answer for the last, then 11.
-- Assumes nothing.
use mathlib.Core.Bool.{Bool, true, false, cond}
use mathlib.Core.List.{List, [], ◌∷◌}
use mathlib.Core.Path.{◌≡◌, refl, ap, ap₂, sym, ◌∙◌}
use Prim.Native.Nat.{ℕ, zero, suc, ◌+◌, ◌-◌, ◌*◌, ◌/◌, ◌≤◌}
use native.Mathlib.Nat.{sub-zero, zero-add, add-zero}
use native.Mathlib.Omega.{arith}
use lib.ListN.{length, get_or, take, drop}
use lib.Seq.{take_all, take-take, get_or-take}
use Rattle.std.proofs.lemmas.Grind.{common_steps}
use Rattle.spec.specs.Outcome.{Outcome, given, refused, ◌then◌, fitted}
use Rattle.spec.specs.Blocks.{words_of, length_right, used_in, block_judged, judged_all}
use Rattle.spec.specs.Blocks.{unused, unused_judged, rule_words, file_judged, read_blocks, counted, last_block}
use Rattle.spec.specs.Blocks.{judged_before, last_reached}
use Rattle.spec.proofs.Outcomes.{then_given}
use Rattle.spec.proofs.Files.{drop_block, not_last, length_rule}

-- ---- refusals in a row

then_assoc : {A B C : Type 0} (o : Outcome A) (p : Outcome B) (q : Outcome C) → (o then p) then q ≡ o then p then q
then_assoc (given a) p q = refl
then_assoc (refused number place) p q = refl

then_unit : (o : Outcome (Unit {0})) → o then given tt ≡ o
then_unit (given u) = refl
then_unit (refused number place) = refl

-- ---- the words of a block are the first 128

pub drop_take : (n m : ℕ) (xs : List ℕ) → drop n (take m xs) ≡ take (m - n) (drop n xs)
drop_take zero m xs = ap (λ (k : ℕ). take k xs) (sym (sub-zero m))
drop_take (suc n) zero xs =
    let e : 0 ≡ 0 - suc n = omega arith in
    ap (λ (k : ℕ). take k (drop (suc n) xs)) e
drop_take (suc n) (suc m) [] = sym (take_all (suc m - suc n) [] (omega arith))
drop_take (suc n) (suc m) (x ∷ xs) =
    let e : m - n ≡ suc m - suc n = omega arith in
    drop_take n m xs ∙ ap (λ (k : ℕ). take k (drop n xs)) e

pub block_first : (last : Bool) (number : ℕ) (ws : List ℕ)
    → block_judged last number (take 128 ws) ≡ block_judged last number ws
block_first last number ws =
    let head : get_or (take 128 ws) 0 0 ≡ get_or ws 0 0 = get_or-take 128 ws 0 0 (omega arith) in
    let kept : get_or (take 128 ws) 127 0 ≡ get_or ws 127 0 = get_or-take 128 ws 127 0 (omega arith) in
    let summed : take 127 (take 128 ws) ≡ take 127 ws = take-take 127 128 ws (omega arith) in
    simp (head, kept, summed)

pub last_first : (number : ℕ) (ws : List ℕ) → last_block number (take 128 ws) ≡ last_block number ws
last_first number ws =
    let head : get_or (take 128 ws) 0 0 ≡ get_or ws 0 0 = get_or-take 128 ws 0 0 (omega arith) in
    let behind : take (126 - used_in ws) (drop (1 + used_in ws) (take 128 ws)) ≡ unused ws =
    ap (take (126 - used_in ws)) (drop_take (1 + used_in ws) 128 ws)
    ∙ take-take (126 - used_in ws) (128 - (1 + used_in ws)) (drop (1 + used_in ws) ws) (omega arith) in
    ap (λ (o : Outcome (Unit {0})).
    o then unused_judged number (take 128 ws) then given (counted (used_in (take 128 ws))))
    (block_first true number ws)
    ∙ simp (head, behind)

-- ---- the blocks of a file

-- "Blocks go one by one through 2 and 3": those before the last, and the last
pub judged_last : (before number : ℕ) (ws : List ℕ)
    → judged_all (suc before) number ws
    ≡ (judged_before before number ws then block_judged true (number + before) (drop (128 * before) ws))
unfolding judged_all judged_before
judged_last zero number ws =
    then_unit (block_judged true number ws) ∙ ap (λ (n : ℕ). block_judged true n ws) (sym (add-zero number))
judged_last (suc before) number ws =
    let numbered : suc number + before ≡ number + suc before = omega arith in
    ap₂ (λ (b : Bool) (o : Outcome (Unit {0})). block_judged b number ws then o) (not_last before)
    (judged_last before (suc number) (drop 128 ws)
    ∙ ap₂ (λ (n : ℕ) (l : List ℕ). judged_before before (suc number) (drop 128 ws) then block_judged true n l) numbered
    (sym (drop_block before ws)))
    ∙ sym (then_assoc (block_judged false number ws) (judged_before before (suc number) (drop 128 ws)) _)

-- and 4 of the last
pub file_last : {A : Type 0} (before : ℕ) (ws : List ℕ) (next : Outcome A)
    → (file_judged (suc before) ws then next) ≡ (last_reached before ws then next)
file_last before ws next =
    let last = drop (128 * before) ws in
    let behind : suc before - 1 ≡ before = omega arith in
    ap (λ (n : ℕ). (judged_all (suc before) 0 ws then unused_judged n (drop (128 * n) ws)) then next) behind
    ∙ ap (λ (o : Outcome (Unit {0})). (o then unused_judged before last) then next)
    (judged_last before 0 ws ∙ ap (λ (n : ℕ). judged_before before 0 ws then block_judged true n last)
    (zero-add before))
    ∙ go (judged_before before 0 ws) (block_judged true before last) (unused_judged before last)
  where
    go : (o p q : Outcome (Unit {0}))
        → (((o then p) then q) then next)
        ≡ ((o then p then q then given (counted (used_in (drop (128 * before) ws)))) then next)
    go (given u) (given v) (given w) = refl
    go (given u) (given v) (refused number place) = refl
    go (given u) (refused number place) q = refl
    go (refused number place) p q = refl

-- the loader's answer: 1, the blocks before the last, the last, 11
pub read_last : (file : List ℕ) (room before : ℕ) → length_right (length file) ≡ true → length file / 512 ≡ suc before
    → read_blocks file room
    ≡ (last_reached before (words_of file) then fitted room (rule_words (suc before) (words_of file)))
read_last file room before right e =
    ap (λ (t : Bool). cond t (file_judged (length file / 512) (words_of file)
    then fitted room (rule_words (length file / 512) (words_of file))) (refused 1 (length file))) right
    ∙ ap (λ (n : ℕ). file_judged n (words_of file) then fitted room (rule_words n (words_of file))) e
    ∙ file_last before (words_of file) (fitted room (rule_words (suc before) (words_of file)))

-- where the last block's count is given, none of 2 to 4 refuses, and so many rule words are the last block's
module _ (before : ℕ) (ws : List ℕ) (used : ℕ) (e : last_reached before ws ≡ given (counted used)) where
  parts : (judged_before before 0 ws ≡ given tt) × (last_block before (drop (128 * before) ws) ≡ given (counted used))
  parts = then_given (judged_before before 0 ws) (last_block before (drop (128 * before) ws)) e

  pub reached_judged : judged_all (suc before) 0 ws ≡ given tt
  reached_judged =
      let last = (then_given (block_judged true before (drop (128 * before) ws)) _ parts.1).0 in
      judged_last before 0 ws
      ∙ ap₂ (λ (o : Outcome (Unit {0})) (n : ℕ). o then block_judged true n (drop (128 * before) ws)) parts.0
      (zero-add before)
      ∙ last

  pub reached_used : used_in (drop (128 * before) ws) ≡ used
  reached_used = grind (arith, common_steps)

  pub reached_length : 128 * suc before ≤ length ws → length (rule_words (suc before) ws) ≡ 126 * before + used
  reached_length long =
      length_rule before ws long reached_judged ∙ ap (λ (n : ℕ). 126 * before + n) reached_used
