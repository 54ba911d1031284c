-- What pruning gives in each case of the entry point, that the two rules run alike, and that nothing dead is left
-- standing in the second one.
-- Assumes nothing.
use mathlib.Core.Bool.{Bool, true, false, cond}
use mathlib.Core.List.{List, ◌++◌}
use mathlib.Core.Path.{◌≡◌, refl, ap, sym, subst, ◌∙◌}
use Prim.Native.Nat.{ℕ, ◌≤◌}
use native.Mathlib.Omega.{arith}
use borrow.Author.Tests.{le-ltb, lt-leb}
use lib.Dec.{ltb}
use lib.ListN.{length, take, drop, replicate, length-append}
use Rattle.std.proofs.lemmas.List.{length-take-le, length-drop}
use lib.Seq.{take_at}
use Rattle.spec.specs.Outcome.{Outcome, given, refused}
use Rattle.spec.specs.Blocks.{count_right}
use Rattle.spec.specs.Rose.{Rose, size, enc}
use Rattle.spec.specs.Reading.{bind, read_words}
use Rattle.spec.specs.Tree.{Stmts, rose_l}
use Rattle.spec.specs.Meaning.{list_of, read_rule}
use Rattle.spec.specs.PassStmts.{optimize}
use Rattle.spec.specs.NothingDead.{NothingDead}
use Rattle.spec.specs.Foldable.{foldable_count}
use Rattle.spec.specs.Running.{run_rule}
use Rattle.spec.specs.Pruning.{Pruned, prune_on, pruned, told, result_after, work_after, work_words}
use Rattle.spec.specs.declared.Sort.TheVariants as sort
use Rattle.spec.proofs.Outcomes.{not_given}
use Rattle.spec.proofs.Places.{length_enc, at_taken}
use Rattle.spec.proofs.Trees.{rule_stands, rule_unique}
use Rattle.spec.proofs.PassedStmts.{rule_passed}
use Rattle.spec.proofs.Demand.{demand_3}
use Rattle.spec.proofs.NothingDead.{pruned_nothing_dead}
use Rattle.reader.specs.Answers.{passed}
use Rattle.prune.specs.Answers.{Met, Alike, LeftStanding, Stood, WordsAsk, WordsDone, RuleAsk, Answer, answer_of}
use Rattle.std.proofs.Common.{Ok}
use Rattle.prune.specs.declared.entry.Counts.{Counts}
use Rattle.prune.proofs.Numbers.{Late, late_words}

-- ---- reading

passed_given : {A : Type 0} (o : Outcome A) → passed o ≡ given tt → (a : A) × (o ≡ given a)
passed_given (given a) e = (a, refl)
passed_given (refused number place) e = absurd (not_given e)

abbrev rule_of : Outcome Rose → Outcome Stmts
rule_of o = bind o (λ r. given (list_of r))

pub rule_ask : {ws : List ℕ} {work : ℕ} → WordsAsk (length ws) work
    → given tt ≡ passed (read_words sort.List ws) → RuleAsk ws work
rule_ask {ws} a e =
    let (tree, q) = passed_given (read_words sort.List ws) (sym e) in
    record { asked = a; rule = list_of tree; read = ap rule_of q }

-- ---- what is made of what was read

-- by whether the result is short
abbrev pruned_by : Bool → Stmts → Outcome Pruned
pruned_by b rule =
    bind (cond b (refused 11 (length (enc (rose_l (optimize rule))))) (given (enc (rose_l (optimize rule)))))
    (λ ws. given (record { words = ws; foldable = foldable_count rule }))

-- at most one rule stands at the start of words
stood_one : {ws : List ℕ} {ss rs : Stmts} → Stood ws ss → Stood ws rs → ss ≡ rs
stood_one {ws} {ss} {rs} s t =
    rule_unique ws 0 ss rs s.valid t.valid s.here t.here (omega (arith, s.inside)) (omega (arith, t.inside))

-- where an answer is given, the rule that was read stands in the words, and its pruned form in the result, as the words
-- that are given
record GivenRule (ws after : List ℕ) (counts : Counts) : Type 0 where
  rule : Stmts
  source : Stood ws rule
  pruned : Stood after (optimize rule)
  whole : size (rose_l (optimize rule)) ≡ counts.size

given_by : (b : Bool) (rule : Stmts) (ws result : List ℕ) {after : List ℕ} {r : Answer} → Stood ws rule
    → answer_of r ≡ told (pruned_by b rule) → after ≡ result_after (pruned_by b rule) result
    → (counts : Counts) → r ≡ Ok counts → GivenRule ws after counts
given_by true rule ws result s a e counts g = absurd (not_given (sym a ∙ ap answer_of g))
given_by false rule ws result {after} s a e counts g =
    let p = rose_l (optimize rule) in
    let told_as = sym (ap answer_of g) ∙ a in
    let same : ◌≡◌ {A = ℕ × ℕ} (counts.size, counts.foldable) (length (enc p), foldable_count rule) = cc in
    let words = enc p ++ drop (length (enc p)) result in
    record {
      rule = rule;
      source = s;
      pruned = subst (λ l. Stood l (optimize rule)) (sym e) (record {
        valid = rule_passed rule s.valid;
        here = at_taken p words 0 (take_at (enc p) _ (size p) (length_enc p));
        inside = omega (arith, length_enc p, length-append (enc p) (drop (length (enc p)) result));
      });
      whole = sym (length_enc p) ∙ sym (ap (λ pair. pair.0) same);
    }

given_rule : (ws result : List ℕ) {after : List ℕ} {r : Answer} (o : Outcome Stmts) → read_rule ws ≡ o
    → answer_of r ≡ told (bind o (pruned (length result))) → after ≡ result_after (bind o (pruned (length result)))
    result
    → (counts : Counts) → r ≡ Ok counts → GivenRule ws after counts
given_rule ws result (refused number place) read a e counts g = absurd (not_given (sym a ∙ ap answer_of g))
given_rule ws result (given rule) read a e counts g =
    let f = rule_stands ws rule read in
    given_by (ltb (length result) (length (enc (rose_l (optimize rule))))) rule ws result
    (record { valid = f.valid; here = f.here; inside = omega (arith, f.whole) }) a e counts g

-- what holds of a rule and its pruned form, said of the rules that stand
module _ {ws result after : List ℕ} {r : Answer} (done : WordsDone ws result r after) where
  given_stands : (counts : Counts) → r ≡ Ok counts → GivenRule ws after counts
  given_stands = given_rule ws result (read_rule ws) refl done.answer done.result_is

  -- demand 3
  pub words_alike : Alike ws r after
  words_alike = record {
    runs = λ counts g C ss rs s t.
        let m = given_stands counts g in
        ap (run_rule C) (stood_one t m.pruned)
        ∙ demand_3 C m.rule
        ∙ ap (run_rule C) (stood_one m.source s);
  }

  -- nothing dead is left standing
  pub words_left_standing : LeftStanding r after
  words_left_standing = record {
    stands = λ counts g.
        let m = given_stands counts g in
        record { rule = optimize m.rule; stood = m.pruned; whole = m.whole };
    none_dead = λ counts g rs t.
        let m = given_stands counts g in
        subst NothingDead (stood_one m.pruned t) (pruned_nothing_dead m.rule);
  }

-- the work words are zero afterwards, given or not
cleared : (b : Bool) (rule : Stmts) (work : List ℕ) → work_after (pruned_by b rule) work ≡ replicate (length work) 0
cleared true rule work = refl
cleared false rule work = refl

cleared_by : (room : ℕ) (work : List ℕ) (o : Outcome Rose) → Late o
    → work_after (bind (rule_of o) (pruned room)) work ≡ replicate (length work) 0
cleared_by room work (given tree) late =
    cleared (ltb room (length (enc (rose_l (optimize (list_of tree)))))) (list_of tree) work
cleared_by room work (refused number place) late =
    ap (λ b. cond b work (replicate (length work) 0)) (lt-leb number 6 (omega arith))

-- ---- the cases

-- the lent part of the work words and what stands behind it are set to zero
pub words_met : {ws work result work-exit result-exit : List ℕ} {r : Answer} (part : List ℕ)
    → count_right (length ws) ≡ true → work_words (length ws) ≤ length work
    → length part ≡ length (take (work_words (length ws)) work)
    → work-exit ≡ replicate (length (part ++ drop (work_words (length ws)) work)) 0
    → WordsDone ws result r result-exit
    → Met (prune_on ws (length work) (length result)) work result r work-exit result-exit
words_met {ws} {work} {result} {work-exit} {result-exit} {r} part right enough e w done =
    let n = work_words (length ws) in
    let o : prune_on ws (length work) (length result) ≡ bind (read_rule ws) (pruned (length result)) =
    simp (right, le-ltb (length work) n enough) in
    let zero = cleared_by (length result) work (read_words sort.List ws) (late_words sort.List ws right) in
    let long : length (part ++ drop n work) ≡ length work =
    omega (arith, e, length-take-le n work enough, length-append part (drop n work), length-drop n work) in
    subst (λ x. Met x work result r work-exit result-exit) (sym o)
    (record { answer = done.answer; result_is = done.result_is; work_is = rw long at w ∙ sym zero })
