-- What is told of whatever expression stands at a place, of one that is known to stand there.
-- Assumes nothing.
use mathlib.Core.Bool.{Bool, true, false}
use mathlib.Core.List.{List}
use mathlib.Core.Path.{◌≡◌, ap, sym, ◌∙◌}
use Prim.Native.Nat.{ℕ, ◌+◌}
use Rattle.spec.specs.Rose.{size, At}
use Rattle.spec.specs.Tree.{Expr, rose_e}
use Rattle.spec.specs.Proper.{ValidExpr}
use Rattle.spec.specs.Verdict.{pure, known, truth_of}
use Rattle.spec.proofs.Meanings.{expr_again}
use Rattle.spec.specs.declared.Truth.TheVariants as truth
use Rattle.purity.specs.Told.{IsPure, IsImpure, IsKnown, IsUnknown}

module _ {ws : List ℕ} {at : ℕ} (x : Expr) (v : ValidExpr x) (here : At ws at (rose_e x)) where
  pub pure_here : {next : ℕ} → IsPure ws at next → (pure x ≡ true) × (next ≡ at + size (rose_e x))
  pure_here o =
      let told = o.of (rose_e x) v.1 here in
      (sym (ap pure (expr_again x v.0 v.1)) ∙ told.0, told.1)

  pub impure_here : IsImpure ws at → pure x ≡ false
  impure_here o = sym (ap pure (expr_again x v.0 v.1)) ∙ o.of (rose_e x) v.1 here

  pub known_here : {b : Bool} {next : ℕ} → IsKnown ws at b next
      → (truth_of x ≡ known b) × (next ≡ at + size (rose_e x))
  known_here o =
      let told = o.of (rose_e x) v.1 here in
      (sym (ap truth_of (expr_again x v.0 v.1)) ∙ told.0, told.1)

  pub unknown_here : IsUnknown ws at → truth_of x ≡ truth.Unknown
  unknown_here o = sym (ap truth_of (expr_again x v.0 v.1)) ∙ o.of (rose_e x) v.1 here
