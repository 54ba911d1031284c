-- What a caller of the entry point learns: words that were given lie within the result, and are a rule with nothing
-- dead in it.
-- Assumes nothing.
use mathlib.Core.List.{List}
use mathlib.Core.Path.{◌≡◌, ap, sym, ◌∙◌}
use Prim.Native.Nat.{ℕ, ◌≤◌}
use native.Mathlib.Omega.{arith}
use lib.ListN.{length, drop, length-append}
use Rattle.spec.specs.Outcome.{Outcome, given, refused}
use Rattle.spec.specs.Rose.{size}
use Rattle.spec.specs.Tree.{Stmts, rose_l}
use Rattle.spec.specs.NothingDead.{NothingDead}
use Rattle.spec.specs.Pruning.{Pruned, told, result_after}
use Rattle.spec.proofs.Outcomes.{not_given}
use Rattle.prune.specs.Answers.{Met, Stood, LeftStanding, Answer, answer_of}
use Rattle.std.proofs.Common.{Ok}
use Rattle.prune.specs.declared.entry.Counts.{Counts}

pub given_within : {o : Outcome Pruned} {work result work-exit result-exit : List ℕ} {r : Answer} {counts : Counts}
    → Met o work result r work-exit result-exit
    → r ≡ Ok counts
    → counts.size ≤ length result-exit
given_within {o} {work} {result} {work-exit} {result-exit} {r} {counts} m e =
    go o (sym m.answer ∙ ap answer_of e) m.result_is
  where
    go : (p : Outcome Pruned) → told p ≡ given (counts.size, counts.foldable) → result-exit ≡ result_after p result
        → counts.size ≤ length result-exit
    go (given p) a q =
        let both : ◌≡◌ {A = ℕ × ℕ} (length p.words, p.foldable) (counts.size, counts.foldable) = cc in
        let size : length p.words ≡ counts.size = ap (λ pair. pair.0) both in
        omega (arith, size, ap length q, length-append p.words (drop (length p.words) result))
    go (refused number place) a q = absurd (not_given a)

pub given_none_dead : {result-exit : List ℕ} {r : Answer} {counts : Counts} → LeftStanding r result-exit → r ≡ Ok counts
    → (rule : Stmts) × Stood result-exit rule × (size (rose_l rule) ≡ counts.size) × NothingDead rule
given_none_dead {counts = counts} l e =
    let s = l.stands counts e in
    (s.rule, s.stood, s.whole, l.none_dead counts e s.rule s.stood)
