-- A rule that is copied in front of the work words, and the pruned rule that is copied from behind it to the result:
-- the words of each are those of its tree.
-- Assumes nothing.
use mathlib.Core.Bool.{true}
use mathlib.Core.List.{List, ◌++◌}
use mathlib.Core.Path.{◌≡◌, ap, ap₂, sym, ◌∙◌}
use Prim.Native.Nat.{ℕ, ◌+◌, ◌-◌, ◌≤◌}
use native.Mathlib.Omega.{arith}
use borrow.Author.Tests.{leb-true, ltb-true, ltb-false}
use lib.Dec.{leb, ltb}
use lib.ListN.{length, take, drop, get_or-append}
use Rattle.spec.specs.Outcome.{given, refused}
use Rattle.spec.specs.Blocks.{count_right}
use Rattle.spec.specs.Rose.{size, enc, At}
use Rattle.spec.specs.Reading.{bind}
use Rattle.spec.specs.Tree.{Stmts, rose_l}
use Rattle.spec.specs.Proper.{ValidRule}
use Rattle.spec.specs.Meaning.{read_rule}
use Rattle.spec.specs.PassStmts.{optimize}
use Rattle.spec.specs.Foldable.{foldable_count}
use Rattle.spec.specs.Pruning.{pruned, told, result_after}
use Rattle.spec.proofs.Outcomes.{both, by_test}
use Rattle.spec.proofs.Places.{length_enc, at_move, at_take}
use Rattle.spec.proofs.Trees.{Fills, rule_stands}
use Rattle.outer.specs.declared.Outer.{Outer}
use Rattle.prune.specs.Answers.{WordsDone, RuleAsk, PassAsk, PassDone, GiveDone, Answer, answer_of}

-- a right count of words
pub few : (n : ℕ) → count_right n ≡ true → n ≤ 16128
few n right = leb-true n 16128 (both (leb 1 n) (leb n 16128) right).1

-- what is to be shown, for the rule that was read
done_as : {ws result after : List ℕ} {r : Answer} {ss : Stmts} → read_rule ws ≡ given ss
    → answer_of r ≡ told (pruned (length result) ss) → after ≡ result_after (pruned (length result) ss) result
    → WordsDone ws result r after
done_as {ws} {result} read a e =
    let q = ap (λ o. bind o (pruned (length result))) (sym read) in
    record { answer = a ∙ ap told q; result_is = e ∙ ap (λ o. result_after o result) q }

-- what was made of the rule that the words hold stands behind it
pub record PrunedRule (ws v : List ℕ) (x : Outer) : Type 0 where
  pub rule : Stmts
  pub read : read_rule ws ≡ given rule
  pub made : At v (length ws) (rose_l (optimize rule))
  pub ends : x.end ≡ length ws + size (rose_l (optimize rule))
  pub met : x.foldable ≡ foldable_count rule
  pub inside : x.end ≤ length v

-- the pruned rule is given, or told to be too long
module _ {ws v : List ℕ} {x : Outer} (m : PrunedRule ws v x) where
  sized : x.end - length ws ≡ length (enc (rose_l (optimize m.rule)))
  sized = omega (arith, m.ends, length_enc (rose_l (optimize m.rule)))

  words : take (x.end - length ws) (drop (length ws) v) ≡ enc (rose_l (optimize m.rule))
  words =
      ap (λ (n : ℕ). take n (drop (length ws) v)) (sized ∙ length_enc (rose_l (optimize m.rule)))
      ∙ at_take (rose_l (optimize m.rule)) v (length ws) m.made (omega (arith, m.ends, m.inside))

  pub give_done : {result after : List ℕ} {r : Answer} → GiveDone v (length ws) x result r after
      → WordsDone ws result r after
  give_done {result} {after} {r} g =
      let size = length (enc (rose_l (optimize m.rule))) in
      by_test (WordsDone ws result r after) (ltb (length result) size)
      (λ t. let (told, kept) = g.short (omega (arith, sized, ltb-true (length result) size t)) in
      done_as m.read (rw told (simp t (ap (refused 11) sized))) (simp t kept))
      (λ t. let (told, put) = g.enough (omega (arith, sized, ltb-false (length result) size t)) in
      done_as m.read (rw told (simp t (ap₂ (λ (a b : ℕ). given (a, b)) sized m.met)))
      (simp t (put ∙ ap (λ u. u ++ drop (length u) result) words)))

module _ {ws : List ℕ} {work : ℕ} (ask : RuleAsk ws work) where
  rule_fills : Fills (ValidRule ask.rule) ws (rose_l ask.rule)
  rule_fills = rule_stands ws ask.rule ask.read

  module _ {w : List ℕ} (rest : List ℕ) (is : w ≡ ws ++ rest) where
    -- the rule stands at the start of the work words
    in_front : At w 0 (rose_l ask.rule)
    in_front =
        at_move (rose_l ask.rule) rule_fills.here (record {
          word = λ k h. rw is (get_or-append ws rest 0 (0 + k) (omega (arith, rule_fills.whole)));
        })

    -- what is asked of the pass
    pub pass_ask : length w ≡ work → PassAsk w (length ws)
    pass_ask l = record {
      rule = ask.rule;
      valid = rule_fills.valid;
      here = in_front;
      ends = sym rule_fills.whole;
      exact = l ∙ ask.asked.exact;
      few = few (length ws) ask.asked.right;
    }

    -- what the pass gave
    pub passed_rule : {v : List ℕ} {x : Outer} → PassDone w v (length ws) x → PrunedRule ws v x
    passed_rule done =
        let p = done.right ask.rule rule_fills.valid in_front (sym rule_fills.whole) in record {
          rule = ask.rule;
          read = ask.read;
          made = p.0;
          ends = p.1;
          met = p.2;
          inside = done.inside;
        }
