-- A list that is `Listed` for n has the counts of every other such list (`determined`): how it is made decides nothing.
-- Assumes nothing.
use mathlib.Core.Path.{◌≡◌, ◌∙◌}
use mathlib.Core.List.{List}
use Prim.Native.Nat.{ℕ}
use Rattle.spec.specs.Tree.{Expr}
use Rattle.spec.specs.Verdict.{truth_of}
use Rattle.spec.specs.Same.{same_truth}
use Rattle.spec.specs.declared.Truth.{Truth}
use Rattle.spec.specs.declared.Truth.TheVariants as truth
use Rattle.counting.specs.declared.entry.TruthCounts.{TruthCounts}
use Rattle.counting.specs.Formulas.{Listed, formulas}
use Rattle.counting.specs.Counts.{having, counts, EachOnce}
use Rattle.counting.proofs.Listed.{listed}
use Rattle.counting.proofs.Places.{at_place, single_at}
use Rattle.counting.proofs.SameElements.{EachSingle, same_count}

each_single : (n : ℕ) (es fs : List Expr) → Listed n es → Listed n fs → EachSingle es fs
each_single n es fs p q e i =
    let t = at_place e es i in
    let once = q.every e (p.no_other e t.0 t.1) in
    single_at e fs once.place once.stands once.nowhere_else

same_having : (n : ℕ) (es fs : List Expr) → Listed n es → Listed n fs → (t : Truth) → having t es ≡ having t fs
same_having n es fs p q t =
    same_count (λ e. same_truth (truth_of e) t) es fs (each_single n es fs p q) (each_single n fs es q p)

pub determined : (n : ℕ) (es fs : List Expr) → Listed n es → Listed n fs → counts es ≡ counts fs
unfolding counts
determined n es fs p q =
    let e = same_having n es fs p q in
    λ i. record { yes = e truth.Yes i; no = e truth.No i; unknown = e truth.Unknown i }

-- such counts count each expression once
pub each_once : (n : ℕ) (c : TruthCounts) → c ≡ counts (formulas n) → EachOnce n c
each_once n c e = record {
  list = formulas n;
  listed = listed n;
  counted = λ es every. e ∙ determined n (formulas n) es (listed n) every;
}
