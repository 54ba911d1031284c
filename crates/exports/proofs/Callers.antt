-- What a caller of the C function learns where 0 is returned: as many words as are told are a rule with nothing dead in
-- it.
-- Assumes nothing.
use mathlib.Core.List.{List, ◌∷◌}
use mathlib.Core.Path.{◌≡◌, refl}
use Prim.Native.Nat.{ℕ}
use Rattle.spec.specs.Rose.{size}
use Rattle.spec.specs.Tree.{Stmts, rose_l}
use Rattle.spec.specs.NothingDead.{NothingDead}
use Rattle.prune.specs.Answers.{Stood}
use Rattle.exports.specs.Told.{LeftStanding}

pub zero_none_dead : {n : ℕ} {ns result-exit : List ℕ} → LeftStanding 0 (n ∷ ns) result-exit
    → (rule : Stmts) × Stood result-exit rule × (size (rose_l rule) ≡ n) × NothingDead rule
zero_none_dead {n} {ns} l =
    let s = l.stands refl in
    (s.rule, s.stood, s.whole n ns refl, l.none_dead refl s.rule s.stood)
