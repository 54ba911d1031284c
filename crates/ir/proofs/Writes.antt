-- Words written one behind the other are written.
-- Assumes nothing.
use mathlib.Core.List.{List, [], ◌∷◌}
use mathlib.Core.Path.{◌≡◌, refl, subst, ◌∙◌}
use Prim.Native.Nat.{ℕ, ◌+◌, ◌<◌}
use native.Mathlib.Omega.{arith}
use lib.ListN.{length, get_or, set}
use lib.Seq.{get_or-set_same, get_or-set_other}
use Rattle.ir.specs.Written.{Written}

-- one word
pub write_one : (w : List ℕ) (at x : ℕ) → at < length w → Written w (set w at x) at (x ∷ []) (at + 1)
write_one w at x l = record {
  below = λ k h. get_or-set_other w at k x 0 (omega arith);
  here = (get_or-set_same w at x 0 l, tt);
  above = λ k h. get_or-set_other w at k x 0 (omega arith);
  ends = refl;
}

-- a second word behind the first
pub write_two : {w v u : List ℕ} {at x y r q : ℕ} → Written w v at (x ∷ []) r → Written v u r (y ∷ []) q
    → Written w u at (x ∷ y ∷ []) q
write_two {w} {v} {u} {at} {x} {y} {r} {q} d e = record {
  below = λ k h. e.below k (omega (arith, d.ends)) ∙ d.below k h;
  here = (
    e.below at (omega (arith, d.ends)) ∙ d.here.0,
    (subst (λ (i : ℕ). get_or u i 0 ≡ y) d.ends e.here.0, tt),
  );
  above = λ k h. e.above k h ∙ d.above k (omega (arith, e.ends));
  ends = omega (arith, d.ends, e.ends);
}
