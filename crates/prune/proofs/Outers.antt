-- A rule that was read and pruned together: it is the rule that the words hold, and what was made is what the pass
-- makes of it.
-- Assumes nothing.
use mathlib.Core.List.{List, ◌++◌}
use mathlib.Core.Path.{◌≡◌, sym, subst, ◌∙◌}
use Prim.Native.Nat.{ℕ, ◌+◌}
use native.Mathlib.Omega.{arith}
use lib.ListN.{length, get_or-append}
use lib.Seq.{take_all}
use Rattle.spec.specs.Outcome.{given}
use Rattle.spec.specs.Rose.{size, enc, At}
use Rattle.spec.specs.Tree.{rose_l}
use Rattle.spec.specs.Meaning.{read_rule}
use Rattle.spec.proofs.Places.{at_move, at_take}
use Rattle.spec.proofs.Trees.{rule_read}
use Rattle.outer.specs.Outer.{OuterMade}
use Rattle.outer.specs.declared.Outer.{Outer}
use Rattle.prune.specs.Answers.{WordsAsk}
use Rattle.prune.proofs.Copied.{PrunedRule, few}

module _ (ws : List ℕ) {work : ℕ} (asked : WordsAsk (length ws) work) {w v : List ℕ} (rest : List ℕ)
    (is : w ≡ ws ++ rest) {r : Outer} (m : OuterMade w v (length ws) r) where
  -- the rule stands in the words, and is all of them
  stands : At ws 0 (rose_l m.rule)
  stands =
      at_move (rose_l m.rule) m.here (record {
        word = λ k h. rw is (sym (get_or-append ws rest 0 (0 + k) (omega (arith, m.whole))));
      })

  words : ws ≡ enc (rose_l m.rule)
  words =
      sym (take_all (size (rose_l m.rule)) ws (omega (arith, m.whole)))
      ∙ at_take (rose_l m.rule) ws 0 stands (omega (arith, m.whole))

  pub outer_rule : PrunedRule ws v r
  outer_rule = record {
    rule = m.rule;
    read = subst (λ (x : List ℕ). read_rule x ≡ given m.rule) (sym words)
        (rule_read m.rule m.valid m.deep (omega (arith, m.whole, few (length ws) asked.right)));
    made = m.made;
    ends = m.ends;
    met = m.met;
    inside = m.inside;
  }
