-- What the functions of this crate tell.
use Rattle.std.specs.Prelude.{Bool, true, false, not, cond, ◌&&◌, ◌||◌, List, ◌≡◌, ℕ, ◌+◌, eqb, get_or}
use Rattle.std.specs.Prelude.{Option, Some, None}
use Rattle.spec.specs.Rose.{Rose, size, At}
use Rattle.spec.specs.Grammar.{kind_in, detail_in, within, Valid}
use Rattle.spec.specs.Tree.{Expr}
use Rattle.spec.specs.Meaning.{expr_of}
use Rattle.spec.specs.Verdict.{pure, known, truth_of}
use Rattle.spec.specs.declared.Sort.TheVariants as sort
use Rattle.spec.specs.declared.Truth.{Truth}
use Rattle.spec.specs.declared.Truth.TheVariants as truth
use Rattle.ir.specs.Standing.{SomeExpr}
use Rattle.purity.specs.declared.expr.Known.{Known}
use Rattle.purity.specs.declared.expr.KnownEnd.{KnownEnd}
use Rattle.purity.specs.declared.expr.KnownEnd.TheVariants as ends

-- ---- of whatever expression stands at a place

-- it is pure, and ends at `next`
pub record IsPure (ws : List ℕ) (at next : ℕ) : Type 0 where
  pub of : (r : Rose) → Valid sort.Expr r → At ws at r → (pure (expr_of r) ≡ true) × (next ≡ at + size r)

-- it is not pure
pub record IsImpure (ws : List ℕ) (at : ℕ) : Type 0 where
  pub of : (r : Rose) → Valid sort.Expr r → At ws at r → pure (expr_of r) ≡ false

-- its end where it is pure, none where it is not
abbrev pub PureOf : List ℕ → ℕ → Option ℕ → Type 0
PureOf ws at (Some next) = IsPure ws at next
PureOf ws at None = IsImpure ws at

-- its truth is known, and it ends at `next`
pub record IsKnown (ws : List ℕ) (at : ℕ) (b : Bool) (next : ℕ) : Type 0 where
  pub of : (r : Rose) → Valid sort.Expr r → At ws at r → (truth_of (expr_of r) ≡ known b) × (next ≡ at + size r)

-- its truth is not known
pub record IsUnknown (ws : List ℕ) (at : ℕ) : Type 0 where
  pub of : (r : Rose) → Valid sort.Expr r → At ws at r → truth_of (expr_of r) ≡ truth.Unknown

-- its truth and its end where the truth is known, none where it is not
abbrev pub TruthOf : List ℕ → ℕ → Option Known → Type 0
TruthOf ws at (Some k) = IsKnown ws at k.truth k.next
TruthOf ws at None = IsUnknown ws at

-- what the walk tells by cases
abbrev pub known_in : KnownEnd → Option Known
known_in (ends.True next) = Some record { truth = true; next = next }
known_in (ends.False next) = Some record { truth = false; next = next }
known_in ends.Unknown = None

-- the truth that is told
abbrev pub told_truth : Option Known → Truth
told_truth (Some k) = known k.truth
told_truth None = truth.Unknown

pub record BoolOf (verdict : Expr → Bool) (ws : List ℕ) (at : ℕ) (b : Bool) : Type 0 where
  pub of : (r : Rose) → Valid sort.Expr r → At ws at r → b ≡ verdict (expr_of r)

-- ---- kinds

-- a kind that a pure node may have
abbrev pub may_be_pure : ℕ → Bool
may_be_pure k = (eqb k 1 || within 6 9 k) || (within 11 13 k || eqb k 16)

-- a kind that an expression of known truth may have, but for Not, And and Or
abbrev pub may_be_known : ℕ → Bool
may_be_known k = eqb k 1 || within 6 8 k

-- Not, And or Or: the truths of its parts are looked at
abbrev pub joins : ℕ → ℕ → Bool
joins k d = eqb k 12 || (eqb k 11 && eqb d 3)

-- whether a left of this truth decides And (detail 0) or Or
abbrev pub left_decides : ℕ → Bool → Bool
left_decides d b = cond b (not (eqb d 0)) (eqb d 0)

-- ---- the first part of If, Not, And, Or and Seq, however they are nested

-- by a header: a node that is pure only where its first part is, which begins at the next word
abbrev pub fronts_by : ℕ → Bool
fronts_by h = (eqb (kind_in h) 9 || within 12 13 (kind_in h)) || eqb h 779

-- an expression stands at `front`, and where it is not pure, the one at `at` is not
pub record FrontOf (ws : List ℕ) (at front : ℕ) : Type 0 where
  pub some : SomeExpr ws front
  pub impure : IsImpure ws front → IsImpure ws at

-- ---- the first operand of Not, And and Or, however they are nested

-- by a header: Not, And or Or, whose first operand begins at the next word
abbrev pub leads_by : ℕ → Bool
leads_by h = eqb (kind_in h) 12 || eqb h 779

-- an expression that is no Not, And or Or stands at `lead`, and where its truth is not known, that of the one at `at`
-- is not
pub record LeadOf (ws : List ℕ) (at lead : ℕ) : Type 0 where
  pub some : SomeExpr ws lead
  pub plain : joins (kind_in (get_or ws lead 0)) (detail_in (get_or ws lead 0)) ≡ false
  pub unknown : IsUnknown ws lead → IsUnknown ws at
