-- Statements in a row, one row behind another: their words and their number.
-- Assumes nothing.
use mathlib.Core.List.{List}
use mathlib.Core.Path.{◌≡◌}
use Prim.Native.Nat.{ℕ, ◌+◌}
use native.Mathlib.Nat.{add-zero, add_assoc}
use native.Mathlib.Omega.{arith}
use Rattle.spec.specs.Rose.{size, Ats}
use Rattle.spec.specs.Tree.{Stmts, no_stmts, more_stmts, count_s, rose_s, roses_s}
use Rattle.spec.specs.PassStmts.{join_stmts}
use Rattle.spec.specs.Weight.{row_words}

pub join_row : (ss rs : Stmts) → row_words (join_stmts ss rs) ≡ row_words ss + row_words rs
unfolding join_stmts
join_row no_stmts rs = omega arith
join_row (more_stmts s ss) rs = omega (arith, join_row ss rs)

pub join_count : (ss rs : Stmts) → count_s (join_stmts ss rs) ≡ count_s ss + count_s rs
unfolding join_stmts
join_count no_stmts rs = omega arith
join_count (more_stmts s ss) rs = omega (arith, join_count ss rs)

pub join_at : (w : List ℕ) (at : ℕ) (ss rs : Stmts) → Ats w at (roses_s ss) → Ats w (at + row_words ss) (roses_s rs)
    → Ats w at (roses_s (join_stmts ss rs))
unfolding join_stmts
join_at w at no_stmts rs t u = rw add-zero at u
join_at w at (more_stmts s ss) rs t u =
    (t.0, join_at w (at + size (rose_s s)) ss rs t.1 (rw add_assoc u))
