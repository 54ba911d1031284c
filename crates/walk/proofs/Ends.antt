-- The reader with more levels than there are words finds where a list ends.
-- Assumes nothing.
use mathlib.Core.List.{List, [], ◌∷◌}
use mathlib.Core.Path.{◌≡◌, ap, sym, ◌∙◌}
use Prim.Native.Nat.{ℕ, suc, ◌+◌, ◌≤◌}
use native.Mathlib.Omega.{arith}
use lib.ListN.{length}
use Rattle.std.specs.Result.{IsOk}
use Rattle.std.proofs.Common.{rules, Result, Ok, Err}
use Rattle.refusal.specs.declared.Refusal.{Refusal}
use Rattle.refusal.specs.Answers.{outcome_of}
use Rattle.spec.specs.Outcome.{given}
use Rattle.spec.specs.Rose.{Rose, Roses, node, nil, cons, size, sizes, level, depth, depths, At}
use Rattle.spec.specs.Grammar.{Valid, Valids}
use Rattle.spec.specs.Reading.{read_at}
use Rattle.spec.proofs.Outcomes.{not_given}
use Rattle.spec.proofs.Readings.{complete}
use Rattle.spec.specs.declared.Sort.{Sort}
use Rattle.spec.specs.declared.Sort.TheVariants as sort
use Rattle.steps.specs.Steps.{next_of}
use Rattle.walk.specs.Walked.{SomeList, ListEnds}

-- ---- each level has a word

level_one : (s : Sort) → level s ≤ 1
level_one sort.Expr = omega arith
level_one sort.Target = omega arith
level_one sort.Single = omega arith
level_one sort.Stmt = omega arith
level_one sort.List = omega arith

mutual
  depth_words : (s : Sort) (r : Rose) → Valid s r → depth r ≤ size r
  depth_words s (node t [] ps) v = absurd v.1
  depth_words s (node t (h ∷ pay) ps) v = omega (arith, level_one t, depths_words _ 0 ps v.2)

  depths_words : (f : ℕ → Sort) (i : ℕ) (ps : Roses) → Valids f i ps → depths ps ≤ sizes ps
  depths_words f i nil v = omega arith
  depths_words f i (cons p ps) v = omega (arith, depth_words (f i) p v.0, depths_words f (suc i) ps v.1)

-- ---- where a list ends

module _ (levels : ℕ) (ws : List ℕ) (at : ℕ) (enough : length ws ≤ levels) where
  -- it is read
  list_read : (r : Rose) → Valid sort.List r → At ws at r → at + size r ≤ length ws
      → next_of (read_at levels ws sort.List at) ≡ given (at + size r)
  list_read r v a i =
      ap next_of (complete levels ws sort.List at r v a i (omega (arith, depth_words sort.List r v)))

  pub list_ends : {next : ℕ} → next_of (read_at levels ws sort.List at) ≡ given next → ListEnds ws at next
  list_ends {next} e = record { of = λ r v a i. ended r (sym e ∙ list_read r v a i) }
    where
      ended : (r : Rose) → given next ≡ given (at + size r) → next ≡ at + size r
      ended r q = cc

-- and never refused
pub never_refused : {levels : ℕ} {ws : List ℕ} {at : ℕ} (r : Result ℕ Refusal)
    → outcome_of r ≡ next_of (read_at levels ws sort.List at) → SomeList ws at → length ws ≤ levels → IsOk r
never_refused (Ok end) e s enough = search rules
never_refused {levels} {ws} {at} (Err r) e s enough =
    absurd (not_given (e ∙ list_read levels ws at enough s.tree s.valid s.here s.inside))

-- what the check applies in `list_end`
pub ruleset ends = (list_ends, never_refused)
