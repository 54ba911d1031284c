-- What is asked of an expression that stands behind the place of its statement's header, and what is left there, for
-- whatever expression stood there.
use Rattle.std.specs.Prelude.{List, ◌≡◌, ℕ, ◌+◌, ◌-◌, ◌≤◌, ◌<◌, ◌^◌, length}
use Rattle.std.specs.Prelude.{Option, MatchOption}
use Rattle.spec.specs.Rose.{size}
use Rattle.spec.specs.Tree.{Expr, rose_e}
use Rattle.spec.specs.PassStmts.{expr_stmts}
use Rattle.spec.specs.Weight.{weight_e, stmt_room}
use Rattle.buffer.specs.Copy.{Same}
use Rattle.expr_forms.specs.Made.{Is}
use Rattle.runs.specs.Held.{Holds}
use Rattle.runs.specs.declared.Run.{Run}
use Rattle.stmt.specs.Made.{AtBack, Stayed}

-- ---- in a slot

pub record LiftAsk (w : List ℕ) (top end : ℕ) : Type 0 where
  pub tree : Expr
  pub is : Is w (top + 1) end tree
  pub room : top + weight_e tree + 1 + size (rose_e tree) ≤ length w

-- it stands at the back of the slot of its weight from top on
pub record Lifted (v : List ℕ) (top end high : ℕ) (e : Expr) : Type 0 where
  pub exact : high ≡ top + weight_e e
  pub slot : AtBack v top (high - (end - (top + 1))) high e

pub record LiftDone (w v : List ℕ) (top end high : ℕ) : Type 0 where
  pub frame : Same top w v
  pub right : (e : Expr) → Is w (top + 1) end e → Lifted v top end high e

-- ---- as statements

pub record PlaceAsk (w : List ℕ) (top end : ℕ) : Type 0 where
  pub tree : Expr
  pub is : Is w (top + 1) end tree
  pub room : top + stmt_room (weight_e tree) ≤ length w
  pub short : length w < 2 ^ 32

pub record PlaceDone (w v : List ℕ) (top end : ℕ) (r : Run) : Type 0 where
  pub frame : Same top w v
  pub begins : r.at ≡ top
  pub right : (e : Expr) → Is w (top + 1) end e → Holds v r (expr_stmts e)

-- ---- as a condition over which an If statement stays one

pub record SettleAsk (w : List ℕ) (at end : ℕ) : Type 0 where
  pub tree : Expr
  pub is : Is w at end tree
  pub room : end + weight_e tree ≤ length w

pub record SettleDone (w v : List ℕ) (at end : ℕ) (r : Option ℕ) : Type 0 where
  pub frame : Same at w v
  pub right : MatchOption r (Same end w v) (λ last. (c : Expr) → Is w at end c → Stayed v at last c)
