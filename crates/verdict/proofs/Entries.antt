-- From the reader's answer to the verdict on the words: one argument for the four entry points.
-- Assumes nothing.
use Rattle.std.proofs.Common.{List, Option, Bool, ◌≡◌, ℕ, ap, sym, ◌∙◌}
use Rattle.std.specs.Option.{is_some}
use Rattle.spec.specs.Outcome.{Outcome, given}
use Rattle.spec.specs.Rose.{Rose, At}
use Rattle.spec.specs.Grammar.{Valid}
use Rattle.spec.specs.Reading.{bind, read_words}
use Rattle.spec.specs.Tree.{Expr}
use Rattle.spec.specs.Meaning.{expr_of}
use Rattle.spec.specs.Verdict.{pure, truth_of, verdict_on}
use Rattle.spec.specs.declared.Sort.TheVariants as sort
use Rattle.ir.specs.Standing.{SomeExpr}
use Rattle.purity.specs.Told.{BoolOf, PureOf, TruthOf, told_truth}
use Rattle.purity.specs.declared.expr.Known.{Known}
use Rattle.purity.proofs.Pures.{pure_told, truth_told}
use Rattle.reader.specs.Answers.{passed}
use Rattle.reader.proofs.Holds.{holds}

module _ (ws : List ℕ) (told : given tt ≡ passed (read_words sort.Expr ws)) where
  -- words that are accepted hold an expression
  pub some_expr : SomeExpr ws 0
  some_expr =
      let a = holds sort.Expr ws (sym told) in
      record { tree = a.tree; valid = a.valid; here = a.here; inside = a.inside }

  -- what is right of whatever expression stands there is the verdict on the words
  pub given_verdict : {A : Type 0} (f : Expr → A) (x : A)
      → ((r : Rose) → Valid sort.Expr r → At ws 0 r → x ≡ f (expr_of r)) → given x ≡ verdict_on f ws
  given_verdict f x of =
      let a = holds sort.Expr ws (sym told) in
      ap given (of a.tree a.valid a.here)
      ∙ sym (ap (λ (o : Outcome Rose). bind (bind o (λ r. given (expr_of r))) (λ e. given (f e))) a.read)

  pub bool_verdict : (f : Expr → Bool) (b : Bool) → BoolOf f ws 0 b → given b ≡ verdict_on f ws
  bool_verdict f b t = given_verdict f b t.of

  pub pure_verdict : (end : Option ℕ) → PureOf ws 0 end → given (is_some end) ≡ verdict_on pure ws
  pure_verdict end t = given_verdict pure (is_some end) (pure_told ws 0 end t)

  pub truth_verdict : (known : Option Known) → TruthOf ws 0 known → given (told_truth known) ≡ verdict_on truth_of ws
  truth_verdict known t = given_verdict truth_of (told_truth known) (truth_told ws 0 known t)
