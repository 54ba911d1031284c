-- Laws of frames and places: frames compose and shrink, and a tree that stands below a frame, or whose words were
-- moved, stands in the new words too.
-- Assumes nothing.
use mathlib.Core.Path.{◌≡◌, refl, ◌∙◌}
use mathlib.Core.List.{List}
use Prim.Native.Nat.{ℕ, ◌+◌, ◌≤◌}
use native.Mathlib.Omega.{arith}
use Rattle.spec.specs.Rose.{Rose, Roses, size, sizes, At, Ats}
use Rattle.spec.specs.Frames.{Agree}
use Rattle.spec.proofs.Places.{at_move, ats_move}
use Rattle.buffer.specs.Copy.{Same, PutDone}

pub same_refl : (top : ℕ) (w : List ℕ) → Same top w w
same_refl top w = record { word = λ k h. refl }

pub same_trans : {top : ℕ} {w v u : List ℕ} → Same top w v → Same top v u → Same top w u
same_trans p q = record { word = λ k h. q.word k h ∙ p.word k h }

pub same_less : {top : ℕ} (low : ℕ) {w v : List ℕ} → low ≤ top → Same top w v → Same low w v
same_less low l p = record { word = λ k h. p.word k (omega arith) }

-- words below a frame agree
pub same_agree : {top : ℕ} {w v : List ℕ} (a n : ℕ) → a + n ≤ top → Same top w v → Agree w a v a n
same_agree a n l p = record { word = λ k h. p.word (a + k) (omega arith) }

-- trees below a frame
pub same_at : {top : ℕ} {w v : List ℕ} (p : Rose) (a : ℕ) → a + size p ≤ top → Same top w v → At w a p → At v a p
same_at p a l s t = at_move p t (same_agree a (size p) l s)

pub same_ats : {top : ℕ} {w v : List ℕ} (ps : Roses) (a : ℕ) → a + sizes ps ≤ top → Same top w v → Ats w a ps
    → Ats v a ps
same_ats ps a l s t = ats_move ps t (same_agree a (sizes ps) l s)

-- a tree that was put
pub put_at : {w v : List ℕ} {from end top r : ℕ} (p : Rose) → end ≡ from + size p → PutDone w v from end top r
    → At w from p → At v top p
put_at {w} {v} {from} {end} {top} p e d t =
    at_move p t (record { word = λ k h. d.moved.word k (omega arith) })
