-- An expression from one place up to another: kept below a frame or beside a slot, put elsewhere, and the only one that
-- stands there. Other crates cite these.
-- Assumes nothing.
use mathlib.Core.List.{List}
use mathlib.Core.Logic.{inr}
use mathlib.Core.Path.{◌≡◌}
use Prim.Native.Nat.{ℕ, ◌+◌, ◌≤◌, ◌<◌}
use native.Mathlib.Omega.{arith}
use lib.ListN.{length, get_or}
use Rattle.spec.specs.Rose.{size}
use Rattle.spec.specs.Frames.{Agree}
use Rattle.spec.specs.Tree.{Expr, rose_e}
use Rattle.spec.proofs.Places.{at_move}
use Rattle.spec.proofs.Trees.{expr_unique}
use Rattle.buffer.specs.Copy.{Same, PutAsk, PutDone}
use Rattle.buffer.proofs.Frames.{same_agree, put_at}
use Rattle.expr_forms.specs.Made.{Is}

pub is_agree : {w v : List ℕ} {at end : ℕ} {e : Expr} → Agree w at v at (size (rose_e e)) → Is w at end e → Is v at end
    e
is_agree {e = e} g i = record { valid = i.valid; here = at_move (rose_e e) i.here g; ends = i.ends }

pub is_same : {top : ℕ} {w v : List ℕ} {at end : ℕ} {e : Expr} → Same top w v → end ≤ top → Is w at end e
    → Is v at end e
is_same {at = at} {e = e} s l i = is_agree (same_agree at (size (rose_e e)) (omega (arith, i.ends)) s) i

pub is_beside : {w v : List ℕ} (low top : ℕ) {at end : ℕ} {e : Expr}
    → ((k : ℕ) → low ≤ k → k < top → get_or v k 0 ≡ get_or w k 0) → low ≤ at → end ≤ top → Is w at end e → Is v at end e
is_beside low top {at} s l h i =
    is_agree (record { word = λ k m. s (at + k) (omega arith) (omega (arith, i.ends)) }) i

pub is_put : {w v : List ℕ} {from end top r : ℕ} {e : Expr} → PutDone w v from end top r → Is w from end e
    → Is v top r e
is_put {e = e} d i = record {
  valid = i.valid;
  here = put_at (rose_e e) i.ends d i.here;
  ends = omega (arith, d.ends, i.ends);
}

-- it can be put at a place above it
pub put_above : {w : List ℕ} {from end top : ℕ} {e : Expr} → Is w from end e → end ≤ top
    → top + size (rose_e e) ≤ length w → PutAsk (length w) from end top
put_above i l h = record {
  order = omega (arith, i.ends);
  apart = inr l;
  within = omega arith;
  room = omega (arith, i.ends);
}

pub is_only : {w : List ℕ} {at end : ℕ} {e f : Expr} → Is w at end e → Is w at end f → end ≤ length w → e ≡ f
is_only {w} {at} {end} {e} {f} i j l =
    expr_unique w at e f i.valid j.valid i.here j.here (omega (arith, i.ends)) (omega (arith, j.ends))
