-- The node that a constructor is handed: it is the only one there; and what is left where a bool is written in its
-- place, or where it stays.
-- Assumes nothing.
use mathlib.Core.Bool.{Bool}
use mathlib.Core.List.{List}
use mathlib.Core.Path.{◌≡◌, refl, ap, sym, subst, ◌∙◌}
use Prim.Native.Nat.{ℕ, ◌+◌, ◌≤◌}
use native.Mathlib.Omega.{arith}
use lib.ListN.{length, get_or}
use Rattle.spec.specs.Tree.{boolean, Expr, const, const_words}
use Rattle.spec.proofs.Passed.{bool_valid}
use Rattle.spec.proofs.Trees.{expr_unique}
use Rattle.ir.specs.Written.{Written}
use Rattle.buffer.specs.Copy.{Same}
use Rattle.buffer.proofs.Frames.{same_refl}
use Rattle.expr_forms.specs.Made.{remade, Is, Plain, Made}

-- at most one expression stands there: what is made of the one that is given is made of any
pub made_of : {A : Type 0} {plain made : A → Expr} {w v : List ℕ} {at end r : ℕ} → (p : Plain plain w at end)
    → ((a : A) → remade (plain a) ≡ made a) → Same at w v → ((k : ℕ) → end ≤ k → get_or v k 0 ≡ get_or w k 0)
    → length v ≡ length w → Is v at r (made p.parts) → Made plain made w v at end r
made_of {A} {plain} {made} {w} {v} {at} {end} {r} p makes below above long right = record {
  below = below;
  above = above;
  long = long;
  right = λ a i.
      let same : plain p.parts ≡ plain a =
      expr_unique w at (plain p.parts) (plain a) p.is.valid i.valid p.is.here i.here
      (omega (arith, p.is.ends, p.inside)) (omega (arith, i.ends, p.inside)) in
      subst (Is v at r) (sym (makes p.parts) ∙ ap remade same ∙ makes a) right;
}

-- a bool in the node's place
pub folded : {A : Type 0} {plain made : A → Expr} {w v : List ℕ} {at end r : ℕ} (b : Bool) → (p : Plain plain w at end)
    → ((a : A) → remade (plain a) ≡ made a) → at + 2 ≤ end → Written w v at (const_words (boolean b)) r
    → length v ≡ length w → made p.parts ≡ const (boolean b) → Made plain made w v at end r
folded {A} {plain} {made} {w} {v} {at} {end} {r} b p makes room done long e =
    made_of p makes (record { word = done.below }) (λ k h. done.above k (omega (arith, done.ends))) long
    (subst (Is v at r) (sym e)
    (record { valid = bool_valid b; here = (done.here, tt); ends = omega (arith, done.ends) }))

-- the node as it stood
pub stays : {A : Type 0} {plain made : A → Expr} {w : List ℕ} {at end : ℕ} → (p : Plain plain w at end)
    → ((a : A) → remade (plain a) ≡ made a) → made p.parts ≡ plain p.parts → Made plain made w w at end end
stays {A} {plain} {made} {w} {at} {end} p makes e =
    made_of p makes (same_refl at w) (λ k h. refl) refl (subst (Is w at end) (sym e) p.is)
