-- From what an entry point ensures, and what is told of its answer, to what a C function ensures.
-- Assumes nothing.
use mathlib.Core.List.{List}
use mathlib.Core.Path.{◌≡◌}
use Prim.Native.Nat.{ℕ}
use Rattle.std.proofs.Common.{Option, Result}
use Rattle.spec.specs.Outcome.{Outcome, size}
use Rattle.spec.specs.Inlining.{Safety, Inline}
use Rattle.spec.specs.Pruning.{Pruned, told, prune_on}
use Rattle.refusal.specs.declared.Refusal.{Refusal}
use Rattle.refusal.specs.Answers.{outcome_of, outcome_by}
use Rattle.def_inline.specs.Told.{safety_of, inline_of}
use Rattle.def_inline.specs.declared.expr.Safety as code
use Rattle.def_inline.specs.declared.body.InlineDefBody.{InlineDefBody}
use Rattle.prune.specs.Answers as prune
use Rattle.prune.specs.Answers.{answer_of}
use Rattle.last_block.specs.States.{answer_in}
use Rattle.last_block.specs.Answers.{known_of, AsLoader}
use Rattle.last_block.specs.declared.entry.LastBlock.{LastBlock}
use Rattle.values.specs.Told.{Told, one_value, pair_values}
use Rattle.answers.specs.Told.{size_value, known_values, safe_values, inline_values, pruned_values}
use Rattle.answers.specs.Told.{shown_safety, shown_inline, shown_counts}
use Rattle.answers.proofs.Tellings.{told_same, told_by, told_size, told_pruned}
use Rattle.exports.specs.Told.{Alike, LeftStanding, LastTold}
use Rattle.exports.proofs.Refusals.{alike, left_standing}

module _ {before left : List ℕ} {r : ℕ} where
  pub size_told : (answer : Result ℕ Refusal) (o : Outcome (List ℕ)) → outcome_of answer ≡ size o
      → Told one_value (outcome_of answer) before r left → Told size_value o before r left
  size_told answer o e t = told_size o (told_same e t)

  pub safety_told : (answer : Result code.Safety Refusal) (o : Outcome Safety) → outcome_by safety_of answer ≡ o
      → Told shown_safety (outcome_of answer) before r left → Told safe_values o before r left
  safety_told answer o e t = told_same e (told_by safety_of answer t)

  pub inline_told : (answer : Result InlineDefBody Refusal) (o : Outcome Inline) → outcome_by inline_of answer ≡ o
      → Told shown_inline (outcome_of answer) before r left → Told inline_values o before r left
  inline_told answer o e t = told_same e (told_by inline_of answer t)

  counts_told : (answer : prune.Answer) → Told shown_counts (outcome_of answer) before r left
      → Told pair_values (answer_of answer) before r left
  counts_told answer t = told_by {shown = pair_values} _ answer t

  pub prune_told : (answer : prune.Answer) (o : Outcome Pruned) → answer_of answer ≡ told o
      → Told shown_counts (outcome_of answer) before r left → Told pruned_values o before r left
  prune_told answer o e t = told_pruned o (told_same e (counts_told answer t))

  -- demand 3 by the number that is returned
  pub prune_alike : {ws result-exit : List ℕ} (work room : ℕ) (answer : prune.Answer)
      → prune.Alike ws answer result-exit → answer_of answer ≡ told (prune_on ws work room)
      → Told shown_counts (outcome_of answer) before r left → Alike ws r result-exit
  prune_alike work room answer same e t = alike work room answer same e (counts_told answer t)

  -- what is left standing, by the number that is returned
  pub prune_left_standing : {result-exit : List ℕ} (ws : List ℕ) (work room : ℕ) (answer : prune.Answer)
      → prune.LeftStanding answer result-exit → answer_of answer ≡ told (prune_on ws work room)
      → Told shown_counts (outcome_of answer) before r left → LeftStanding r left result-exit
  prune_left_standing ws work room answer l e t = left_standing ws work room answer l e (counts_told answer t)

  pub state_told : (s : LastBlock) (answer : Option (Result ℕ Refusal)) → known_of answer ≡ answer_in s
      → AsLoader s answer → Told known_values (known_of answer) before r left → LastTold s before r left
  state_told s answer e a t = record {
    told = told_same e t;
    loader = λ number ws led. told_same (a.loader number ws led) t;
  }

-- the clauses of `tinzoher_prune`
pub ruleset prune_clauses = (prune_told, prune_alike, prune_left_standing)
