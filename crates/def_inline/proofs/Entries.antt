-- From the reader's answer to the answer on the words, for the two entry points.
-- Assumes nothing.
use Rattle.std.proofs.Common.{List, Bool, cond, ◌≡◌, ℕ, ap, ap₂, sym, ◌∙◌, arith}
use Rattle.spec.specs.Outcome.{Outcome, given}
use Rattle.spec.specs.Rose.{Rose}
use Rattle.spec.specs.Reading.{bind, read_words}
use Rattle.spec.specs.Meaning.{expr_of, list_of}
use Rattle.spec.specs.Inlining.{safe_nodes, unsafe_after, safety, safe_on, inline_body, inline_on}
use Rattle.spec.proofs.Entered.{safety_visits}
use Rattle.spec.specs.declared.Sort.TheVariants as sort
use Rattle.reader.specs.Answers.{passed}
use Rattle.reader.proofs.Holds.{holds}
use Rattle.walk.specs.Walked.{SomeList}
use Rattle.verdict.proofs.Entries.{given_verdict}
use Rattle.def_inline.specs.Told.{safety_of, SafeOf, inline_of, BodyOf}
use Rattle.def_inline.specs.declared.expr.Safety.{Safety}
use Rattle.def_inline.specs.declared.body.InlineDefBody.{InlineDefBody}

pub safe_given : (params : ℕ) (ws : List ℕ) (s : Safety) → given tt ≡ passed (read_words sort.Expr ws)
    → SafeOf ws 0 params s → given (safety_of s) ≡ safe_on params ws
safe_given params ws s told t =
    given_verdict ws told (safety params) (safety_of s)
    (λ r v a.
    sym (safety_visits params (expr_of r)
    ∙ ap₂ (λ (b : Bool) (m : ℕ). cond b (safe_nodes m) (unsafe_after m)) (sym (t.of r v a).0) (sym (t.of r v a).1)))

module _ (ws : List ℕ) (told : given tt ≡ passed (read_words sort.List ws)) where
  -- words that are accepted hold a rule
  pub some_list : SomeList ws 0
  some_list =
      let a = holds sort.List ws (sym told) in
      record {
        tree = a.tree;
        valid = a.valid;
        here = a.here;
        inside = a.inside;
        short = omega (arith, a.few);
      }

  pub inline_given : (params : ℕ) (positional star : Bool) (variables : ℕ) (i : InlineDefBody)
      → BodyOf ws params positional star variables i
      → given (inline_of i) ≡ inline_on params positional star variables ws
  inline_given params positional star variables i t =
      let a = holds sort.List ws (sym told) in
      ap given (t.of a.tree a.valid a.here a.inside)
      ∙ sym (ap (λ (o : Outcome Rose). bind (bind o (λ r. given (list_of r)))
      (λ ss. given (inline_body params positional star variables ss))) a.read)
