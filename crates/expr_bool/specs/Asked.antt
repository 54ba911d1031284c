-- What the functions of this crate are asked, of some tree, and what they leave, for whatever tree stood there.
use Rattle.std.specs.Prelude.{Bool, true, false, List, ◌≡◌, ℕ, ◌+◌, ◌≤◌, ◌<◌, length, get_or}
use Rattle.spec.specs.Rose.{size, Words, At, own_of}
use Rattle.spec.specs.Tree.{boolean, Logic, and, or, Expr, const, logic, seq, rose_e}
use Rattle.spec.specs.Proper.{ValidExpr}
use Rattle.spec.specs.Pass.{const_condition, expr_condition, seq_expr, logic_condition, new_bool}
use Rattle.spec.specs.Pass as Pass
use Rattle.spec.specs.Weight.{weight_e}
use Rattle.buffer.specs.Copy.{Same}
use Rattle.expr_bool.specs.declared.Arms.{Arms}
use Rattle.expr_bool.specs.declared.Condition.{Condition}
use Rattle.expr_bool.specs.declared.Condition.TheVariants as condition

-- the answer r says c, and c's expression, if it is one, stands in v from top on
abbrev pub Answer : List ℕ → ℕ → Pass.Condition → Condition → Type 0
Answer v top (const_condition b) r = r ≡ condition.Const b
Answer v top (expr_condition x) r = (r ≡ condition.Expr (top + size (rose_e x))) × At v top (rose_e x)

-- a valid expression stands at a place
pub record ExprAt (w : List ℕ) (at : ℕ) (e : Expr) : Type 0 where
  pub valid : ValidExpr e
  pub here : At w at (rose_e e)

-- ---- new

-- it ends at or below top, and above top there is room for its weight
pub record NewAsk (w : List ℕ) (at top : ℕ) : Type 0 where
  pub tree : Expr
  pub stands : ExprAt w at tree
  pub below : at + size (rose_e tree) ≤ top
  pub room : top + weight_e tree ≤ length w

pub record NewDone (w v : List ℕ) (at top : ℕ) (r : Condition) : Type 0 where
  pub frame : Same top w v
  pub right : (e : Expr) → ExprAt w at e → Answer v top (new_bool e) r

-- ---- And and Or, by the truth that decides

abbrev pub logic_by : Bool → Logic
logic_by true = or
logic_by false = and

-- an expression at `at`, its first part at `first`, that ends at or below top and has room for its weight above top
pub record Placed (w : List ℕ) (at first top : ℕ) (e : Expr) : Type 0 where
  pub stands : ExprAt w at e
  pub parts : first ≡ at + length (own_of (rose_e e))
  pub below : at + size (rose_e e) ≤ top
  pub room : top + weight_e e ≤ length w

pub record LogicAsk (w : List ℕ) (at first top : ℕ) (o : Bool) : Type 0 where
  pub left : Expr
  pub other : Expr
  pub placed : Placed w at first top (logic (logic_by o) left other)

pub record LogicDone (w v : List ℕ) (at top : ℕ) (o : Bool) (r : Condition) : Type 0 where
  pub frame : Same top w v
  pub right : (x y : Expr) → ExprAt w at (logic (logic_by o) x y) → at + size (rose_e (logic (logic_by o) x y))
      ≤ length w
      → Answer v top (logic_condition (logic_by o) (new_bool x) (new_bool y)) r

-- the left side x stands from body up to end, behind the own words of a node that has them from top on
pub record Sided (w : List ℕ) (top body end : ℕ) (x : Expr) : Type 0 where
  pub stands : ExprAt w body x
  pub head : body ≡ top + length (own_of (rose_e (seq x x)))
  pub ends : end ≡ body + size (rose_e x)

-- and the right side is as its answer says
pub record Joined (w : List ℕ) (top body end : ℕ) (answer : Condition) (o : Bool) (x : Expr) (y : Pass.Condition)
    : Type 0 where
  pub side : Sided w top body end x
  pub own : Words w top (own_of (rose_e (logic (logic_by o) x x)))
  pub told : Answer w end y answer

pub record JoinAsk (w : List ℕ) (top body end : ℕ) (answer : Condition) (o : Bool) : Type 0 where
  pub left : Expr
  pub other : Pass.Condition
  pub joined : Joined w top body end answer o left other
  pub room : end + 2 ≤ length w

pub record JoinDone (w v : List ℕ) (top body end : ℕ) (answer : Condition) (o : Bool) (r : Condition) : Type 0 where
  pub frame : Same top w v
  pub right : (x : Expr) (y : Pass.Condition) → Joined w top body end answer o x y
      → Answer v top (logic_condition (logic_by o) (expr_condition x) y) r

-- ---- seq with a constant

pub record SeqAsk (w : List ℕ) (top body end : ℕ) : Type 0 where
  pub tree : Expr
  pub side : Sided w top body end tree
  pub room : end + 2 ≤ length w

pub record SeqDone (w v : List ℕ) (top body end : ℕ) (b : Bool) (r : ℕ) : Type 0 where
  pub frame : Same top w v
  pub right : (x : Expr) → Sided w top body end x
      → (r ≡ top + size (rose_e (seq_expr x (const (boolean b))))) × At v top (rose_e (seq_expr x (const (boolean b))))

-- ---- a slot

-- an expression in a slot of cap words, with room above top
pub record SlotAsk (w : List ℕ) (at cap top : ℕ) : Type 0 where
  pub tree : Expr
  pub stands : ExprAt w at tree
  pub fits : weight_e tree ≤ cap
  pub below : at + cap ≤ top
  pub room : top + weight_e tree ≤ length w

-- below top only the slot has changed
pub record SlotDone (w v : List ℕ) (at cap top : ℕ) (r : Condition) : Type 0 where
  pub frame : Same at w v
  pub beside : (k : ℕ) → at + cap ≤ k → k < top → get_or v k 0 ≡ get_or w k 0
  pub right : (e : Expr) → ExprAt w at e → Answer v at (new_bool e) r

-- ---- arms

-- the other way round
abbrev pub swapped : {T : Type 0} → Arms T → Arms T
swapped arms = record { yes = arms.no; no = arms.yes }
