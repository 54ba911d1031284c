-- Laws on runs of blocks: those that were written, and those that are not refused.
-- Assumes nothing.
use mathlib.Core.Bool.{Bool, true, false}
use mathlib.Core.List.{List, [], ◌++◌, append-nil, append_assoc}
use mathlib.Core.Path.{◌≡◌, refl, ap, ap₂, sym, subst, ◌∙◌}
use Prim.Native.Nat.{ℕ, zero, suc, ◌+◌, ◌-◌, ◌*◌, ◌≤◌, ◌<◌}
use native.Mathlib.Nat.{add-zero, zero-add}
use native.Mathlib.Omega.{arith}
use borrow.Author.Tests.{eq-eqb, ne_eqb, le-leb}
use lib.Dec.{eqb}
use lib.ListN.{length, take, drop, length-append, length-take, length-drop, drop_of_length-le}
use lib.Seq.{take_at, drop_at, take_all, drop-drop, length-take-le}
use Rattle.spec.specs.Outcome.{Outcome, given, ◌then◌}
use Rattle.spec.specs.Blocks.{block, blocks, used_in, used_right, block_judged, judged_all, all_zero, unused}
use Rattle.spec.specs.Blocks.{rule_words}
use Rattle.spec.proofs.Outcomes.{then_given}
use Rattle.spec.proofs.Blocks.{length_block, block_rest, block_rule, block_unused, block_right, sound}
use Rattle.spec.proofs.Blocks.{counted_full, counted_last, block_again}

-- the words behind one block more
pub drop_block : (before : ℕ) (ws : List ℕ) → drop (128 * suc before) ws ≡ drop (128 * before) (drop 128 ws)
drop_block before ws =
    let e : 128 * suc before ≡ 128 + 128 * before = omega arith in
    ap (λ (k : ℕ). drop k ws) e ∙ sym (drop-drop (128 * before) 128 ws)

-- ---- one step of the judgment

pub judged_next : (left number : ℕ) (ws : List ℕ) → block_judged (eqb left 0) number ws ≡ given tt
    → judged_all (suc left) number ws ≡ judged_all left (suc number) (drop 128 ws)
unfolding judged_all
judged_next left number ws e = ap (λ (o : Outcome (Unit {0})). o then judged_all left (suc number) (drop 128 ws)) e

pub judged_parts : (left number : ℕ) (ws : List ℕ) → judged_all (suc left) number ws ≡ given tt
    → (block_judged (eqb left 0) number ws ≡ given tt) × (judged_all left (suc number) (drop 128 ws) ≡ given tt)
unfolding judged_all
judged_parts left number ws e =
    then_given (block_judged (eqb left 0) number ws) (judged_all left (suc number) (drop 128 ws)) e

-- a block that others follow is not the last
pub not_last : (left : ℕ) → eqb (suc left) 0 ≡ false
not_last left = ne_eqb (suc left) 0 (λ e. omega arith)

-- ---- written: `suc before` blocks of more than 126 × before words, and at most 126 more

module _ (number : ℕ) (ws rest : List ℕ) where
  few : length (take 126 ws) ≤ 126
  few = simp length-take (omega arith)

  first_full : 126 ≤ length ws → used_right false (length (take 126 ws)) ≡ true
  first_full h = eq-eqb _ 126 (length-take-le 126 ws h)

  first_last : 0 < length ws → length ws ≤ 126 → used_right true (length (take 126 ws)) ≡ true
  first_last some h = simp (take_all 126 ws h, le-leb 1 (length ws) some, le-leb (length ws) 126 h)

pub written_judged : (before number : ℕ) (ws : List ℕ) → 126 * before < length ws → length ws ≤ 126 * suc before
    → number + suc before ≤ 65536 → judged_all (suc before) number (blocks (suc before) number ws) ≡ given tt
unfolding blocks judged_all
written_judged zero number ws l u n =
    let last = first_last number ws [] (omega arith) (omega arith) in
    let r = block_right number (take 126 ws) [] (few number ws []) (omega arith) true last in
    judged_next 0 number (block number (take 126 ws) ++ []) r
written_judged (suc before) number ws l u n =
    let rest = blocks (suc before) (suc number) (drop 126 ws) in
    let full = first_full number ws rest (omega arith) in
    let r = block_right number (take 126 ws) rest (few number ws rest) (omega arith) false full in
    let dl = length-drop 126 ws in
    judged_next (suc before) number (block number (take 126 ws) ++ rest)
    (ap (λ (b : Bool). block_judged b number (block number (take 126 ws) ++ rest)) (not_last before) ∙ r)
    ∙ ap (judged_all (suc before) (suc number)) (block_rest number (take 126 ws) rest (few number ws rest))
    ∙ written_judged before (suc number) (drop 126 ws) (omega arith) (omega arith) (omega arith)

pub written_rule : (before number : ℕ) (ws : List ℕ) → 126 * before < length ws → length ws ≤ 126 * suc before
    → number + suc before ≤ 65536 → rule_words (suc before) (blocks (suc before) number ws) ≡ ws
unfolding blocks rule_words
written_rule zero number ws l u n =
    append-nil _ ∙ block_rule number (take 126 ws) [] (few number ws []) (omega arith) ∙ take_all 126 ws (omega arith)
written_rule (suc before) number ws l u n =
    let rest = blocks (suc before) (suc number) (drop 126 ws) in
    let dl = length-drop 126 ws in
    ap₂ ◌++◌ (block_rule number (take 126 ws) rest (few number ws rest) (omega arith))
    (ap (rule_words (suc before)) (block_rest number (take 126 ws) rest (few number ws rest))
    ∙ written_rule before (suc number) (drop 126 ws) (omega arith) (omega arith) (omega arith))
    ∙ lib.ListN.take-append-drop 126 ws

-- the last block's unused words
pub written_unused : (before number : ℕ) (ws : List ℕ) → number + suc before ≤ 65536
    → all_zero (unused (drop (128 * before) (blocks (suc before) number ws))) ≡ true
unfolding blocks
written_unused zero number ws n = block_unused number (take 126 ws) [] (few number ws []) (omega arith)
written_unused (suc before) number ws n =
    let rest = blocks (suc before) (suc number) (drop 126 ws) in
    let e : drop (128 * suc before) (block number (take 126 ws) ++ rest) ≡ drop (128 * before) rest =
    drop_block before (block number (take 126 ws) ++ rest)
    ∙ ap (drop (128 * before)) (block_rest number (take 126 ws) rest (few number ws rest)) in
    ap (λ (l : List ℕ). all_zero (unused l)) e ∙ written_unused before (suc number) (drop 126 ws) (omega arith)

pub length_blocks : (count number : ℕ) (ws : List ℕ) → length (blocks count number ws) ≡ 128 * count
unfolding blocks
length_blocks zero number ws = refl
length_blocks (suc left) number ws =
    length-append (block number (take 126 ws)) (blocks left (suc number) (drop 126 ws))
    ∙ omega (
      arith,
      length_block number (take 126 ws) [] (few number ws []),
      length_blocks left (suc number) (drop 126 ws),
    )

-- ---- not refused: `suc before` blocks stand at the start of ws

-- the count of the first of them
pub used_full : (before number : ℕ) (ws : List ℕ) → judged_all (suc (suc before)) number ws ≡ given tt → used_in ws
    ≡ 126
used_full before number ws e =
    let s = sound (eqb (suc before) 0) number ws (judged_parts (suc before) number ws e).0 in
    counted_full (used_in ws) (subst (λ (b : Bool). used_right b (used_in ws) ≡ true) (not_last before) s.counted)

-- and of the last
pub used_last : (before number : ℕ) (ws : List ℕ) → judged_all (suc before) number ws ≡ given tt
    → (1 ≤ used_in (drop (128 * before) ws)) × (used_in (drop (128 * before) ws) ≤ 126)
used_last zero number ws e = counted_last (used_in ws) (sound true number ws (judged_parts 0 number ws e).0).counted
used_last (suc before) number ws e =
    subst (λ (l : List ℕ). (1 ≤ used_in l) × (used_in l ≤ 126)) (sym (drop_block before ws))
    (used_last before (suc number) (drop 128 ws) (judged_parts (suc before) number ws e).1)

-- the rule words of a full block
rule_full : (ws : List ℕ) → used_in ws ≡ 126 → take (used_in ws) (drop 1 ws) ≡ take 126 (drop 1 ws)
rule_full ws e = ap (λ (n : ℕ). take n (drop 1 ws)) e

length_full : (ws : List ℕ) → 128 ≤ length ws → length (take 126 (drop 1 ws)) ≡ 126
length_full ws long = length-take-le 126 (drop 1 ws) (simp length-drop (omega arith))

-- the blocks from number k on
pub judged_from : (k left number : ℕ) (ws : List ℕ) → judged_all (k + left) number ws ≡ given tt
    → judged_all left (number + k) (drop (128 * k) ws) ≡ given tt
judged_from zero left number ws e =
    ap₂ (λ (m n : ℕ). judged_all m n ws) (sym (zero-add left)) (add-zero number) ∙ e
judged_from (suc k) left number ws e =
    let whole : suc k + left ≡ suc (k + left) = omega arith in
    let first : suc number + k ≡ number + suc k = omega arith in
    let rest = (judged_parts (k + left) number ws (subst (λ (n : ℕ). judged_all n number ws ≡ given tt) whole e)).1 in
    ap₂ (judged_all left) (sym first) (drop_block k ws) ∙ judged_from k left (suc number) (drop 128 ws) rest

-- the rule words of one block more
pub rule_next : (k : ℕ) (ws : List ℕ)
    → rule_words (suc k) ws
    ≡ rule_words k ws ++ take (used_in (drop (128 * k) ws)) (drop 1 (drop (128 * k) ws))
unfolding rule_words
rule_next zero ws = append-nil (take (used_in ws) (drop 1 ws))
rule_next (suc k) ws =
    let this = take (used_in ws) (drop 1 ws) in
    ap (λ (l : List ℕ). this ++ l) (rule_next k (drop 128 ws))
    ∙ sym (append_assoc this (rule_words k (drop 128 ws)) _)
    ∙ ap (λ (l : List ℕ). (this ++ rule_words k (drop 128 ws)) ++ take (used_in l) (drop 1 l)) (sym (drop_block k ws))

-- of `suc before` blocks all but the last are full: how many rule words the first k have, and all of them
module _ (before : ℕ) (ws : List ℕ) (long : 128 * suc before ≤ length ws)
    (e : judged_all (suc before) 0 ws ≡ given tt) where
  pub full_at : (k : ℕ) → k < before → used_in (drop (128 * k) ws) ≡ 126
  full_at k h =
      let left = before - suc k in
      let whole : suc before ≡ k + suc (suc left) = omega (arith, h) in
      used_full left (0 + k) (drop (128 * k) ws)
      (judged_from k (suc (suc left)) 0 ws (subst (λ (n : ℕ). judged_all n 0 ws ≡ given tt) whole e))

  pub length_front : (k : ℕ) → k ≤ before → length (rule_words k ws) ≡ 126 * k
  unfolding rule_words
  length_front zero h = refl
  length_front (suc k) h =
      let rest = drop 1 (drop (128 * k) ws) in
      let room : 126 ≤ length rest = simp length-drop (omega (arith, long, h)) in
      ap length (rule_next k ws)
      ∙ length-append (rule_words k ws) (take (used_in (drop (128 * k) ws)) rest)
      ∙ ap₂ ◌+◌ (length_front k (omega arith))
      (ap (λ (n : ℕ). length (take n rest)) (full_at k h) ∙ length-take-le 126 rest room)
      ∙ omega arith

  pub length_rule : length (rule_words (suc before) ws) ≡ 126 * before + used_in (drop (128 * before) ws)
  length_rule =
      let used = used_in (drop (128 * before) ws) in
      let rest = drop 1 (drop (128 * before) ws) in
      let most = (used_last before 0 ws e).1 in
      let room : used ≤ length rest = simp length-drop (omega (arith, long, most)) in
      ap length (rule_next before ws)
      ∙ length-append (rule_words before ws) (take used rest)
      ∙ ap₂ ◌+◌ (length_front before (omega arith)) (length-take-le used rest room)

-- writing the rule words again gives the same blocks
pub blocks_again : (before number : ℕ) (ws : List ℕ) → length ws ≡ 128 * suc before
    → judged_all (suc before) number ws ≡ given tt
    → all_zero (unused (drop (128 * before) ws)) ≡ true → blocks (suc before) number (rule_words (suc before) ws) ≡ ws
unfolding blocks rule_words all_zero
blocks_again zero number ws long e clean =
    let s = sound true number ws (judged_parts 0 number ws e).0 in
    let m = (used_last zero number ws e).1 in
    let rule = take (used_in ws) (drop 1 ws) in
    let short : length rule ≤ 126 = simp length-take (omega arith) in
    ap (λ (l : List ℕ). block number (take 126 l) ++ []) (append-nil rule)
    ∙ ap (λ (l : List ℕ). block number l ++ []) (take_all 126 rule short)
    ∙ ap (λ (l : List ℕ). block number rule ++ l) (sym (drop_of_length-le ws {i = 128} (omega arith)))
    ∙ block_again true number ws (omega arith) s clean
blocks_again (suc before) number ws long e clean =
    let p = judged_parts (suc before) number ws e in
    let s = sound (eqb (suc before) 0) number ws p.0 in
    let u = used_full before number ws e in
    let dl = length-drop 128 ws in
    let full = length_full ws (omega arith) in
    let rule = take (used_in ws) (drop 1 ws) in
    let more = rule_words (suc before) (drop 128 ws) in
    let rule_length : length rule ≡ 126 = ap length (rule_full ws u) ∙ full in
    let none : all_zero (unused ws) ≡ true = rw u in
    ap₂ (λ (a b : List ℕ). block number a ++ blocks (suc before) (suc number) b) (take_at rule more 126 rule_length)
    (drop_at rule more 126 rule_length)
    ∙ ap (λ (l : List ℕ). block number rule ++ l)
    (blocks_again before (suc number) (drop 128 ws) (omega arith) p.1
    (subst (λ (l : List ℕ). all_zero (unused l) ≡ true) (drop_block before ws) clean))
    ∙ block_again (eqb (suc before) 0) number ws (omega arith) s none
