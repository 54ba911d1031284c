-- The own words of the nodes that are kept, kind by kind: they are as the grammar has them, and the word behind them
-- tells whether the node is kept and whether it is a foldable place.
-- Assumes nothing.
use mathlib.Core.Bool.{Bool, true, false, not, ◌&&◌, ◌||◌}
use mathlib.Core.List.{List, [], ◌∷◌}
use mathlib.Core.Path.{◌≡◌, refl, ap, sym, subst, ◌∙◌}
use Prim.Native.Nat.{ℕ, zero, suc, ◌+◌, ◌%◌, ◌≤◌, ◌<◌}
use native.Mathlib.Omega.{arith}
use Rattle.std.proofs.lemmas.Grind.{common_steps}
use borrow.Author.Tests.{lt-ltb, le-leb, lt-leb, ne_eqb, ltb-true}
use lib.Dec.{eqb, ltb}
use lib.ListN.{length, get_or, replicate}
use Rattle.spec.specs.Outcome.{given}
use Rattle.spec.specs.Rose.{Words}
use Rattle.spec.specs.Grammar.{kind_in, detail_in, within, expr_head, Rule, any, text, word_right, rules, part_count}
use Rattle.spec.specs.Grammar.{const_rules, Ruled}
use Rattle.spec.specs.Reading.{read_pay}
use Rattle.spec.specs.Views.{lead_of}
use Rattle.spec.specs.declared.Sort.TheVariants as sort
use Rattle.spec.proofs.Heads.{within_low, within_high, outside}
use Rattle.spec.proofs.Outcomes.{not_given, by_test, passed}
use Rattle.tables.specs.Payload.{pay_right}
use Rattle.steps.specs.Steps.{next_of, pay_step, head_step}
use Rattle.steps.proofs.Decompose.{next_map}
use Rattle.foldable.specs.Places.{type_call_by, call_by}
use Rattle.foldable.proofs.Ways.{lead_at}
use Rattle.kept_nodes.specs.Nodes.{percent_text, kept_by, folds_by, OwnStays, HeadAsk, AllTexts}
use Rattle.kept_nodes.specs.declared.Own.{Own}

-- what is told of a node
abbrev pub own_of : ℕ → ℕ → Bool → Own
own_of first n folds = record { first = first; count = n; folds = folds }

-- ---- a node

-- what is to be shown of a node of kind k and detail d with this payload, whose n parts stand from `first` on
record Shown (w : List ℕ) (first n : ℕ) (pay : List ℕ) (folds : Bool) (k d : ℕ) : Type 0 where
  head : expr_head k d ≡ true
  ruled : Ruled d (rules k d (get_or pay 0 0)) pay
  many : n ≡ part_count k d (get_or pay 0 0)
  kept : (lead : ℕ) → (0 < n → get_or w first 0 ≡ lead) → kept_by k d (get_or pay 0 0) lead ≡ true
  met : (lead : ℕ) → (0 < n → get_or w first 0 ≡ lead) → folds_by k d (get_or pay 0 0) lead ≡ folds

module _ {w : List ℕ} {at k d word : ℕ} (ask : HeadAsk w at k d word) where
  shown : (pay : List ℕ) {first n : ℕ} {folds : Bool} → Words w (at + 1) pay → first ≡ at + 1 + length pay
      → first ≤ length w
      → n < 67108864 → Shown w first n pay folds k d → OwnStays w at (own_of first n folds)
  shown pay {first} {n} {folds} here ends inside few s =
      let h = get_or w at 0 in
      let t : Shown w first n pay folds (kind_in h) (detail_in h) =
      subst (λ (x : ℕ). Shown w first n pay folds x (detail_in h)) ask.is_kind
      (subst (λ (x : ℕ). Shown w first n pay folds k x) ask.is_detail s) in
      record {
        own = h ∷ pay;
        here = (refl, here);
        ends = omega arith;
        inside = inside;
        owned = record { head = t.head; ruled = t.ruled; many = t.many };
        few = few;
        stays = λ ps v a m.
            let lead : 0 < n → get_or w first 0 ≡ lead_of ps = λ some. lead_at w first ps v a (omega arith) in
            record { kept = t.kept (lead_of ps) lead; met = t.met (lead_of ps) lead };
      }

  -- one payload word
  shown_one : {n : ℕ} {folds : Bool} → n < 67108864 → Shown w (at + 2) n (word ∷ []) folds k d
      → OwnStays w at (own_of (at + 2) n folds)
  shown_one few s = shown (word ∷ []) (sym ask.is_word, tt) (omega arith) (omega (arith, ask.inside)) few s

-- ---- constants and reads

-- payload words that are read up to a place are there, and as their rules say
record Paid (w : List ℕ) (d : ℕ) (rs : List Rule) (p next : ℕ) : Type 0 where
  pay : List ℕ
  here : Words w p pay
  ruled : Ruled d rs pay
  ends : next ≡ p + length pay
  inside : p ≤ length w → next ≤ length w

paid : (w : List ℕ) (d : ℕ) (rs : List Rule) (p next : ℕ) → next_of (read_pay w d rs p) ≡ given next
    → Paid w d rs p next
unfolding read_pay
paid w d [] p next e =
    let q : p ≡ next = cc in
    record { pay = []; here = tt; ruled = tt; ends = omega arith; inside = λ l. omega arith }
paid w d (r ∷ rs) p next e =
    by_test _ (ltb p (length w))
    (λ a. by_test _ (word_right r d (get_or w p 0))
    (λ b.
    let m = paid w d rs (p + 1) next (sym (next_map _ (read_pay w d rs (p + 1))) ∙ (simp (a, b) at e)) in
    record {
      pay = get_or w p 0 ∷ m.pay;
      here = (refl, m.here);
      ruled = (b, m.ruled);
      ends = omega (arith, m.ends);
      inside = λ l. m.inside (omega (arith, ltb-true p (length w) a));
    })
    (λ b. absurd (not_given (simp (a, b) at e))))
    (λ a. absurd (not_given (simp a at e)))

pub const_told : {w : List ℕ} {at d word first : ℕ} → HeadAsk w at 1 d word
    → head_step w sort.Expr at 1 d ≡ given first → OwnStays w at (own_of first 0 false)
const_told {w} {at} {d} {word} {first} ask e =
    let told = passed (expr_head 1 d) (pay_step w (at + 1) 1 d) 9 at e in
    let p = paid w d (const_rules d) (at + 1) first told.1 in
    shown ask p.pay p.here p.ends (p.inside (omega (arith, ask.inside))) (omega arith) (record {
      head = told.0;
      ruled = p.ruled;
      many = refl;
      kept = λ lead f. refl;
      met = λ lead f. refl;
    })

-- a read is of one of four kinds
pub read_one : {w : List ℕ} {at : ℕ} → within 2 5 (get_or w at 0) ≡ true → at + 1 < length w
    → OwnStays w at (own_of (at + 1 + 1) 0 false)
read_one {w} {at} read m =
    shown ask (word ∷ []) (refl, tt) (omega arith) (omega arith) (omega arith)
    (go h (within_low 2 5 h read) (within_high 2 5 h read))
  where
    h : ℕ
    h = get_or w at 0

    word : ℕ
    word = get_or w (at + 1) 0

    ask : HeadAsk w at h 0 word
    ask =
        let low = within_low 2 5 h read in
        let high = within_high 2 5 h read in
        record { inside = m; is_kind = omega arith; is_detail = omega arith; is_word = refl; small = omega arith }

    row : (k : ℕ) → expr_head k 0 ≡ true → rules k 0 word ≡ any ∷ [] → part_count k 0 word ≡ 0
        → ((lead : ℕ) → kept_by k 0 word lead ≡ true)
        → ((lead : ℕ) → folds_by k 0 word lead ≡ false) → Shown w (at + 1 + 1) 0 (word ∷ []) false k 0
    row k a b c kept met = record {
      head = a;
      ruled = rw b (refl, tt);
      many = sym c;
      kept = λ lead e. kept lead;
      met = λ lead e. met lead;
    }

    go : (k : ℕ) → 2 ≤ k → k ≤ 5 → Shown w (at + 1 + 1) 0 (word ∷ []) false k 0
    go zero a b = absurd (omega arith)
    go (suc zero) a b = absurd (omega arith)
    go (suc (suc zero)) a b = row 2 refl refl refl (λ lead. refl) (λ lead. refl)
    go (suc (suc (suc zero))) a b = row 3 refl refl refl (λ lead. refl) (λ lead. refl)
    go (suc (suc (suc (suc zero)))) a b = row 4 refl refl refl (λ lead. refl) (λ lead. refl)
    go (suc (suc (suc (suc (suc zero))))) a b = row 5 refl refl refl (λ lead. refl) (λ lead. refl)
    go (suc (suc (suc (suc (suc (suc k)))))) a b = absurd (omega arith)

-- ---- calls

-- n words from a place on
abbrev words_from : List ℕ → ℕ → ℕ → List ℕ
words_from w at zero = []
words_from w at (suc n) = get_or w at 0 ∷ words_from w (at + 1) n

from_here : (w : List ℕ) (at n : ℕ) → Words w at (words_from w at n)
from_here w at zero = tt
from_here w at (suc n) = (refl, from_here w (at + 1) n)

from_length : (w : List ℕ) (at n : ℕ) → length (words_from w at n) ≡ n
from_length w at zero = refl
from_length w at (suc n) = ap suc (from_length w (at + 1) n)

from_texts : (d : ℕ) (w : List ℕ) (at n : ℕ) → AllTexts w at n → Ruled d (replicate n text) (words_from w at n)
from_texts d w at zero t = tt
from_texts d w at (suc n) t = (
  lt-ltb (get_or w at 0) 65536 (subst (λ (j : ℕ). get_or w j 0 < 65536) (omega arith) (t.text 0 (omega arith))),
  from_texts d w (at + 1) n (record {
    text = λ i l. subst (λ (j : ℕ). get_or w j 0 < 65536) (omega arith) (t.text (suc i) (omega arith));
  }),
)

-- a call that is no type call
pub call_told : {w : List ℕ} {at d word first n callee : ℕ} {folds : Bool} → HeadAsk w at 16 d word
    → pay_right 16 d 0 word ≡ true
    → first ≡ at + 2 + word % 65536 → first < length w → AllTexts w (at + 2) (word % 65536) → callee ≡ get_or w first 0
    → type_call_by callee d word ≡ false → n ≡ part_count 16 d word → folds ≡ call_by callee d word
    → OwnStays w at (own_of first n folds)
call_told {w} {at} {d} {word} {first} {n} {callee} ask right ends inside texts lead_is no_type many folds =
    let names = word % 65536 in
    let two : at + 1 + 1 ≡ at + 2 = omega arith in
    let long = from_length w (at + 2) names in
    shown ask (word ∷ words_from w (at + 2) names)
    (sym ask.is_word, rw two (from_here w (at + 2) names))
    (omega arith) (omega arith) (omega (arith, ask.small))
    (record {
      head = refl;
      ruled = (right, from_texts d w (at + 2) names texts);
      many = many;
      kept = λ lead e. rw (sym (lead_is ∙ e (omega arith))) (ap not no_type);
      met = λ lead e. rw (sym (lead_is ∙ e (omega arith))) (sym folds);
    })

-- ---- Builtin1

pub dot_told : {w : List ℕ} {at d word : ℕ} {folds : Bool} → HeadAsk w at 11 d word → d ≡ 7 → word < 65536
    → folds ≡ eqb (kind_in (get_or w (at + 2) 0)) 1
    → OwnStays w at (own_of (at + 2) 1 folds)
dot_told ask seven l e =
    shown_one (rw seven at ask) (omega arith) (record {
      head = refl;
      ruled = (lt-ltb _ 65536 l, tt);
      many = refl;
      kept = λ lead f. refl;
      met = λ lead f. sym (e ∙ ap (λ (x : ℕ). eqb (kind_in x) 1) (f (omega arith)));
    })

-- ---- nodes without payload

module _ {w : List ℕ} {at k d word : ℕ} (ask : HeadAsk w at k d word) where
  bare : {n : ℕ} {folds : Bool} → expr_head k d ≡ true → rules k d 0 ≡ [] → n ≡ part_count k d 0 → n < 67108864
      → ((lead : ℕ) → (0 < n → word ≡ lead) → kept_by k d 0 lead ≡ true)
      → ((lead : ℕ) → (0 < n → word ≡ lead) → folds_by k d 0 lead ≡ folds) → OwnStays w at (own_of (at + 1) n folds)
  bare head none many few kept met =
      shown ask [] tt (omega arith) (omega (arith, ask.inside)) few (record {
        head = head;
        ruled = rw none tt;
        many = many;
        kept = λ lead e. kept lead (λ some. ask.is_word ∙ e some);
        met = λ lead e. met lead (λ some. ask.is_word ∙ e some);
      })

  -- an operator whose first part's kind tells whether it folds
  by_side : {n : ℕ} {folds : Bool} → expr_head k d ≡ true → rules k d 0 ≡ [] → n ≡ part_count k d 0 → 0 < n
      → n < 67108864 → folds ≡ eqb (kind_in word) 1
      → ((lead : ℕ) → kept_by k d 0 lead ≡ true) → ((lead : ℕ) → folds_by k d 0 lead ≡ eqb (kind_in lead) 1)
      → OwnStays w at (own_of (at + 1) n folds)
  by_side head none many some few e kept met =
      bare head none many few (λ lead f. kept lead)
      (λ lead f. met lead ∙ sym (e ∙ ap (λ (x : ℕ). eqb (kind_in x) 1) (f some)))

module _ {w : List ℕ} {at d word : ℕ} where
  -- Builtin1 but Dot, by the three lowest details
  pub builtin_told : {folds : Bool} → HeadAsk w at 11 d word → d ≤ 2 → folds ≡ eqb (kind_in word) 1
      → OwnStays w at (own_of (at + 1) 1 folds)
  builtin_told ask l e =
      by_side ask (le-leb d 7 (omega arith))
      (simp (lt-leb 5 d (omega arith), ne_eqb d 4 (λ z. omega arith), ne_eqb d 7 (λ z. omega arith))) refl (omega arith)
      (omega arith) e (λ lead. ap not (outside d (λ z. omega arith) (λ z. omega arith))) (λ lead. refl)

  pub binary_told : {folds : Bool} → HeadAsk w at 14 d word → d ≤ 17 → folds ≡ percent_text d word
      → (eqb (kind_in word) 1 && not (percent_text d word)) || (eqb (kind_in word) 7 && eqb d 3) ≡ false
      → OwnStays w at (own_of (at + 1) 2 folds)
  binary_told ask l e test =
      bare ask (le-leb d 17 l) refl refl (omega arith)
      (λ lead f. rw (← f (omega arith)) (ap not test))
      (λ lead f. rw (← f (omega arith)) (sym e))

  pub list_told : HeadAsk w at 7 d word → OwnStays w at (own_of (at + 1) d false)
  list_told ask = bare ask refl refl refl (omega (arith, ask.small)) (λ lead f. refl) (λ lead f. refl)

  pub dict_told : {n : ℕ} → HeadAsk w at 8 d word → n ≡ part_count 8 d 0 → OwnStays w at (own_of (at + 1) n false)
  dict_told ask many = bare ask refl refl many (omega (arith, ask.small)) (λ lead f. refl) (λ lead f. refl)

  pub tuple_told : HeadAsk w at 6 d word → not (eqb d 0) && eqb (kind_in word) 1 ≡ false
      → OwnStays w at (own_of (at + 1) d (eqb d 0))
  tuple_told ask test =
      bare ask refl refl refl (omega (arith, ask.small)) kept (λ lead f. refl)
    where
      kept : (lead : ℕ) → (0 < d → word ≡ lead) → eqb d 0 || not (eqb (kind_in lead) 1) ≡ true
      kept lead f = grind (arith, common_steps)

module _ {w : List ℕ} {at d word : ℕ} {folds : Bool} where
  pub index_told : HeadAsk w at 15 d word → d ≡ 0 → folds ≡ eqb (kind_in word) 1
      → OwnStays w at (own_of (at + 1) 3 folds)
  index_told ask z e =
      by_side (rw z at ask) refl refl refl (omega arith) (omega arith) e (λ lead. refl) (λ lead. refl)

  pub slice_told : {n : ℕ} → HeadAsk w at 10 d word → d ≤ 7 → n ≡ part_count 10 d 0 → folds ≡ eqb (kind_in word) 1
      → OwnStays w at (own_of (at + 1) n folds)
  slice_told ask l many e =
      by_side ask (le-leb d 7 l) refl many (omega arith) (omega arith) e (λ lead. refl) (λ lead. refl)

-- what is told of a node without payload
pub ruleset bare_told = (binary_told, list_told, dict_told, tuple_told, index_told)
