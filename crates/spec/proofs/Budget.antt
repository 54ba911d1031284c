-- The work words suffice: the copied rule and the room of its statements are within 16 times the rule's words and 64
-- more (`budget_met`). Within the room of a statement every smaller room fits, and rooms add up along a list.
-- Assumes nothing.
use Prim.Native.Nat.{ℕ, ◌+◌, ◌*◌, ◌≤◌}
use native.Mathlib.Omega.{arith}
use Rattle.spec.specs.Rose.{size}
use Rattle.spec.specs.Tree.{Stmts, rose_l}
use Rattle.spec.specs.PassStmts.{optimize}
use Rattle.spec.specs.Weight.{weight_ss, expr_room, made_room, stmt_room, budget}
use Rattle.spec.proofs.Weights.{rule_weight}
use Rattle.spec.proofs.Rows.{pruned_words}

-- the whole: seven times the weight above the copied rule
pub room_seven : (w : ℕ) → stmt_room w ≤ 7 * w
room_seven w = omega arith

pub budget_met : (ss : Stmts) → budget (size (rose_l ss)) (weight_ss ss) ≤ 16 * size (rose_l ss) + 64
budget_met ss = omega (arith, rule_weight ss)

-- the pass on an expression fits into the room of its statement
pub expr_room_lem : (w v : ℕ) → w ≤ v → expr_room w ≤ stmt_room v
expr_room_lem w v h = omega arith

-- so does a slot of its weight with what is made above it
pub made_room_lem : (w v : ℕ) → w ≤ v → w + made_room w ≤ stmt_room v
made_room_lem w v h = omega arith

-- what is made of the statements before, one and a half times their weight at most, and the room of those to come
pub rooms_add : (made w v : ℕ) → 2 * made ≤ 3 * w → made + stmt_room v ≤ stmt_room (w + v)
rooms_add made w v h = omega arith

-- a pruned rule, made above the copied one, fits too
pub pruned_fits : (ss : Stmts) → size (rose_l ss) + size (rose_l (optimize ss)) ≤ 16 * size (rose_l ss)
pruned_fits ss = omega (arith, pruned_words ss)
