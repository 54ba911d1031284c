-- What a state says of the words that led to it: after any list of words its answer is the loader's for a last block of
-- these (`answer_of_fed`). `block_check` cites the laws on a state's answer and on words in order.
-- Assumes nothing.
use Rattle.std.proofs.Common.{◌≡◌, ℕ, zero, suc, ◌+◌, ◌*◌, ◌<◌, ◌≤◌, Bool, true, false, cond, eqb, leb, List, [], ◌∷◌}
use Rattle.std.proofs.Common.{Option, Some, None, Result}
use Rattle.std.proofs.Common.{◌++◌, length, get_or, take, drop, sym, refl, ap, ◌∙◌, arith, take-append-drop}
use Rattle.std.proofs.Common.{length-take-le, take_all, take-suc, le-ltb, lt-ltb, ne_eqb, le-leb}
use borrow.Author.Tests.{lt-leb}
use native.Mathlib.Decide.{dec_lt}
use Rattle.spec.proofs.Bytes.{checksum_more}
use Rattle.spec.specs.Outcome.{Outcome, given, refused, ◌then◌}
use Rattle.spec.specs.Blocks.{checksum, total, count_in, used_in, judged, block_judged, all_zero, unused, unused_judged}
use Rattle.spec.specs.Blocks.{Known, not_yet, counted, last_block, last_block_on}
use Rattle.last_block.specs.States.{begun, stepped, fed, count_judged, found_in, answer_in}
use Rattle.last_block.specs.Answers.{known_of, AsLoader}
use Rattle.last_block.proofs.Filled.{filled_in, filled_more, filled_unused}
use Rattle.refusal.specs.declared.Refusal.{Refusal}
use Rattle.refusal.specs.Answers.{outcome_by}
use Rattle.last_block.specs.declared.entry.LastBlock.{LastBlock}

-- ---- the answer of a state

pub answer_none : (s : LastBlock) → s.seen < 128 → answer_in s ≡ given not_yet
answer_none s h = simp (lt-ltb s.seen 128 h)

-- from the 128th word on, by what was found of 2 and 3
pub answer_found : (s : LastBlock) (o : Outcome (Unit {0})) → 128 ≤ s.seen
    → judged true s.number s.head s.sum s.latest ≡ o
    → answer_in s ≡ (o then count_judged s.number (count_in s.head) s.filled)
answer_found s o all e =
    simp (le-ltb s.seen 128 all)
    (ap (λ (p : Outcome (Unit {0})). p then count_judged s.number (count_in s.head) s.filled) e)

-- there is none yet only where words are missing
pub not_yet_lem : (s : LastBlock) → answer_in s ≡ given not_yet → s.seen < 128
not_yet_lem s e = elim (dec_lt s.seen 128) [
  | yes few ↦ few
  | no all ↦ absurd (go (judged true s.number s.head s.sum s.latest)
      (leb s.filled (1 + count_in s.head))
      (sym (answer_found s _ (omega arith) refl) ∙ e))
]
  where
    go : (o : Outcome (Unit {0})) (t : Bool)
        → (o then cond t (given (counted (count_in s.head))) (refused 4 (512 * s.number))) ≡ given not_yet → ⊥
    go (given u) true q = let z : ◌≡◌ {A = ℕ} 0 1 = cc in omega arith
    go (given u) false q = let z : ◌≡◌ {A = ℕ} 0 1 = cc in omega arith
    go (refused number place) t q = let z : ◌≡◌ {A = ℕ} 0 1 = cc in omega arith

-- ---- words in order

-- some words, and then others
pub fed_append : (s : LastBlock) (p q : List ℕ) → fed s (p ++ q) ≡ fed (fed s p) q
unfolding fed
fed_append s [] q = refl
fed_append s (w ∷ p) q = fed_append (stepped s w) p q

-- one word more
pub fed_more : (s : LastBlock) (ws : List ℕ) (k : ℕ) → k < length ws
    → fed s (take (suc k) ws) ≡ stepped (fed s (take k ws)) (get_or ws k 0)
unfolding fed
fed_more s ws k h = ap (fed s) (take-suc ws k 0 h) ∙ fed_append s (take k ws) (get_or ws k 0 ∷ [])

-- the state after the first k + 1 of words, word by word
abbrev state_at : ℕ → List ℕ → ℕ → LastBlock
state_at number ws k = record {
  number = number;
  seen = k + 1;
  head = get_or ws 0 0;
  sum = checksum (take k ws);
  filled = filled_in (take k ws);
  latest = get_or ws k 0;
}

state_more : (number : ℕ) (ws : List ℕ) (k : ℕ) → suc k < length ws → k + 1 < 128
    → stepped (state_at number ws k) (get_or ws (suc k) 0) ≡ state_at number ws (suc k)
state_more number ws k h few =
    let inside : k < length ws = omega arith in
    let next : suc k ≡ k + 1 = omega arith in
    let later : eqb (k + 1) 0 ≡ false = ne_eqb (k + 1) 0 (λ e. omega arith) in
    let filled : filled_in (take (k + 1) ws) ≡ cond (eqb (get_or ws k 0) 0) (filled_in (take k ws)) (k + 1) =
    ap (λ (n : ℕ). filled_in (take n ws)) (sym next)
    ∙ ap filled_in (take-suc ws k 0 inside) ∙ filled_more (take k ws) (get_or ws k 0)
    ∙ ap (λ (n : ℕ). cond (eqb (get_or ws k 0) 0) (filled_in (take k ws)) n)
    (ap suc (length-take-le k ws (omega arith)) ∙ next) in
    simp (lt-ltb (k + 1) 128 few, later, checksum_more ws k inside, filled, next)

pub fed_state : (number : ℕ) (ws : List ℕ) (k : ℕ) → k < length ws → k < 128
    → fed (begun number) (take (suc k) ws) ≡ state_at number ws k
unfolding fed total filled_in
fed_state number ws zero h few = ap (fed (begun number)) (take-suc ws 0 0 h)
fed_state number ws (suc k) h few =
    fed_more (begun number) ws (suc k) h
    ∙ ap (λ (s : LastBlock). stepped s (get_or ws (suc k) 0)) (fed_state number ws k (omega arith) (omega arith))
    ∙ state_more number ws k h (omega arith)

-- once there are 128, no word changes a state
pub fed_all : (s : LastBlock) (ws : List ℕ) → 128 ≤ s.seen → fed s ws ≡ s
unfolding fed
fed_all s [] h = refl
fed_all s (w ∷ ws) h =
    let same : stepped s w ≡ s = simp (le-ltb s.seen 128 h) in
    ap (λ (t : LastBlock). fed t ws) same ∙ fed_all s ws h

-- the words handed over, while they are at most 128
pub fed_seen : (s : LastBlock) (ws : List ℕ) → s.seen + length ws ≤ 128 → (fed s ws).seen ≡ s.seen + length ws
unfolding fed
fed_seen s [] h = omega arith
fed_seen s (w ∷ ws) h =
    let one : (stepped s w).seen ≡ s.seen + 1 = simp (lt-ltb s.seen 128 (omega arith)) in
    fed_seen (stepped s w) ws (omega arith) ∙ omega arith

-- ---- the loader's answer

-- refusal 4, or the count
count_same : (number : ℕ) (ws : List ℕ)
    → count_judged number (used_in ws) (filled_in (take 127 ws))
    ≡ (unused_judged number ws then given (counted (used_in ws)))
count_same number ws =
    ap (λ (t : Bool). cond t (given (counted (used_in ws))) (refused 4 (512 * number))) (filled_unused ws)
    ∙ go (all_zero (unused ws))
  where
    go : (t : Bool)
        → cond t (given (counted (used_in ws))) (refused 4 (512 * number))
        ≡ (cond t (given (tt {0})) (refused 4 (512 * number)) then given (counted (used_in ws)))
    go true = refl
    go false = refl

module _ (number : ℕ) (ws : List ℕ) where
  before : length ws < 128 → answer_in (fed (begun number) ws) ≡ last_block_on number ws
  before few =
      let none : last_block_on number ws ≡ given not_yet = simp (lt-leb 128 (length ws) few) in
      answer_none (fed (begun number) ws) (omega (arith, fed_seen (begun number) ws (omega arith))) ∙ sym none

  -- the state after all 128
  whole : 128 ≤ length ws → fed (begun number) ws ≡ state_at number (take 128 ws) 127
  whole all =
      let block : length (take 128 ws) ≡ 128 = length-take-le 128 ws all in
      let first : fed (begun number) (take 128 ws) ≡ state_at number (take 128 ws) 127 =
      ap (fed (begun number)) (sym (take_all 128 (take 128 ws) (omega arith)))
      ∙ fed_state number (take 128 ws) 127 (omega arith) (omega arith) in
      ap (fed (begun number)) (sym (take-append-drop 128 ws))
      ∙ fed_append (begun number) (take 128 ws) (drop 128 ws)
      ∙ ap (λ (s : LastBlock). fed s (drop 128 ws)) first
      ∙ fed_all (state_at number (take 128 ws) 127) (drop 128 ws) (omega arith)

  behind : 128 ≤ length ws → answer_in (fed (begun number) ws) ≡ last_block_on number ws
  behind all =
      let block = take 128 ws in
      let some : last_block_on number ws ≡ last_block number block = simp (le-leb 128 (length ws) all) in
      ap answer_in (whole all)
      ∙ answer_found (state_at number block 127) (block_judged true number block) (omega arith) refl
      ∙ ap (λ (o : Outcome Known). block_judged true number block then o) (count_same number block)
      ∙ sym some

  -- "from the 128th on gives the loader's answer for that block"
  pub answer_of_fed : answer_in (fed (begun number) ws) ≡ last_block_on number ws
  answer_of_fed = elim (dec_lt (length ws) 128) [ yes few ↦ before few | no all ↦ behind (omega arith) ]

-- the second clause of the contract from the first
promised : {s : LastBlock} {r : Option (Result ℕ Refusal)} → known_of r ≡ answer_in s → AsLoader s r
promised {s} {r} e = record { loader = λ number ws led. e ∙ ap answer_in led ∙ answer_of_fed number ws }

pub promised_none : (s : LastBlock) → s.seen < 128 → AsLoader s None
promised_none s few = promised (simp (lt-ltb s.seen 128 few))

pub promised_some : (s : LastBlock) (r : Result ℕ Refusal) → 128 ≤ s.seen → outcome_by counted r ≡ found_in s
    → AsLoader s (Some r)
promised_some s r all e = promised (simp (le-ltb s.seen 128 all) e)
