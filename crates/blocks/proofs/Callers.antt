-- What a caller of the entry points learns: elements that were given lie within the result.
-- Assumes nothing.
use mathlib.Core.List.{List}
use mathlib.Core.Path.{◌≡◌, ap, sym, ◌∙◌}
use Prim.Native.Nat.{ℕ, ◌≤◌}
use native.Mathlib.Omega.{arith}
use lib.ListN.{length, drop, length-append}
use Rattle.spec.specs.Outcome.{Outcome, given, refused, size, after}
use Rattle.spec.proofs.Outcomes.{not_given}
use Rattle.refusal.specs.declared.Refusal.{Refusal}
use Rattle.refusal.specs.Answers.{outcome_of}
use Rattle.std.specs.Prelude.{Result, Ok}
use Rattle.blocks.specs.Answers.{Met}

pub given_within : {o : Outcome (List ℕ)} {before left : List ℕ} {r : Result ℕ Refusal} {count : ℕ}
    → Met o before r left
    → r ≡ Ok count
    → count ≤ length left
given_within {o} {before} {left} {r} {count} m e = go o (sym m.answered ∙ ap outcome_of e) m.result
  where
    go : (p : Outcome (List ℕ)) → size p ≡ given count → left ≡ after p before → count ≤ length left
    go (given xs) a q =
        let n : count ≡ length xs = cc in
        omega (arith, ap length q, length-append xs (drop (length xs) before))
    go (refused number place) a q = absurd (not_given a)
