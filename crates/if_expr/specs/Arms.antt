-- What `if_expr` and its parts are asked, of some trees, and what they leave, for whatever trees stood there.
use Rattle.std.specs.Prelude.{List, ◌≡◌, ℕ, ◌+◌, ◌-◌, ◌≤◌, ◌<◌, length, get_or}
use Rattle.spec.specs.Rose.{size}
use Rattle.spec.specs.Tree
use Rattle.spec.specs.Tree.{Expr, if_then, seq, rose_e}
use Rattle.spec.specs.Pass.{if_left, if_expr}
use Rattle.spec.specs.Weight.{weight_e}
use Rattle.buffer.specs.Copy.{Same}
use Rattle.expr_forms.specs.Made.{Is}
use Rattle.expr_bool.specs.Asked.{ExprAt, swapped}
use Rattle.expr_bool.specs.declared.Arms.{Arms}
use Rattle.if_expr.specs.declared.Arm.{Arm}
use Rattle.if_expr.specs.declared.Test.{Test}
use Rattle.if_expr.specs.declared.Test.TheVariants as test
use Rattle.if_expr.specs.declared.Step.{Step}
use Rattle.if_expr.specs.declared.Step.TheVariants as step

-- ---- which condition stands at a place

-- the part of a Not, the left part of a Seq, or an expression of which nothing is taken off
pub data Tested (w : List ℕ) (at : ℕ) : Expr → Test → Type 0 where
  is_not : (x : Expr) (part : ℕ) → part ≡ at + 1 → Tested w at (Tree.not x) (test.Not part)
  is_seq : (p x : Expr) (part : ℕ) → part ≡ at + 1 → Tested w at (seq p x) (test.Seq part)
  is_plain : (e : Expr) → ((more : Expr → Expr → Expr → Expr) (t f : Expr) → if_left more e t f ≡ if_then e t f)
      → Tested w at e test.Stays

pub record TestAsk (w : List ℕ) (at : ℕ) : Type 0 where
  pub tree : Expr
  pub stands : ExprAt w at tree
  pub inside : at + size (rose_e tree) ≤ length w

pub record TestDone (w : List ℕ) (at : ℕ) (r : Test) : Type 0 where
  pub right : (e : Expr) → ExprAt w at e → Tested w at e r

-- ---- the If that is written

-- two arms of an If, which end at or below top
pub record Armed (w : List ℕ) (arms : Arms Arm) (top : ℕ) (t f : Expr) : Type 0 where
  pub yes_is : Is w arms.yes.at arms.yes.end t
  pub no_is : Is w arms.no.at arms.no.end f
  pub yes_below : arms.yes.end ≤ top
  pub no_below : arms.no.end ≤ top

pub record WriteAsk (w : List ℕ) (at end : ℕ) (arms : Arms Arm) (top : ℕ) : Type 0 where
  pub tree : Expr
  pub yes_tree : Expr
  pub no_tree : Expr
  pub is : Is w at end tree
  pub armed : Armed w arms top yes_tree no_tree
  pub below : end ≤ top
  pub room : top + size (rose_e (if_then tree yes_tree no_tree)) ≤ length w

pub record WriteDone (w v : List ℕ) (at end : ℕ) (arms : Arms Arm) (top r : ℕ) : Type 0 where
  pub frame : Same top w v
  pub right : (c t f : Expr) → Is w at end c → Armed w arms top t f → Is v top r (if_then c t f)

-- ---- if_expr

-- a condition in a slot of cap words, and arms that stand above the slot
pub record Slotted (w : List ℕ) (at cap : ℕ) (arms : Arms Arm) (top : ℕ) (c t f : Expr) : Type 0 where
  pub stands : ExprAt w at c
  pub fits : weight_e c ≤ cap
  pub armed : Armed w arms top t f
  pub yes_above : at + cap ≤ arms.yes.at
  pub no_above : at + cap ≤ arms.no.at

-- above top there is room for the If
pub record IfAsk (w : List ℕ) (at cap : ℕ) (arms : Arms Arm) (top : ℕ) : Type 0 where
  pub tree : Expr
  pub yes_tree : Expr
  pub no_tree : Expr
  pub slotted : Slotted w at cap arms top tree yes_tree no_tree
  pub room : top + weight_e (if_then tree yes_tree no_tree) ≤ length w

-- below top only the slot has changed
pub record Beside (w v : List ℕ) (at cap top : ℕ) : Type 0 where
  pub frame : Same at w v
  pub beside : (k : ℕ) → at + cap ≤ k → k < top → get_or v k 0 ≡ get_or w k 0

pub record IfDone (w v : List ℕ) (at cap : ℕ) (arms : Arms Arm) (top : ℕ) (make : Expr → Expr → Expr → Expr) (r : ℕ)
    : Type 0 where
  pub kept : Beside w v at cap top
  pub right : (c t f : Expr) → Slotted w at cap arms top c t f → Is v top r (make c t f)

-- the same where it is known where the condition ends
pub record LeftAsk (w : List ℕ) (at end cap : ℕ) (arms : Arms Arm) (top : ℕ) : Type 0 where
  pub asked : IfAsk w at cap arms top
  pub ends : end ≡ at + size (rose_e asked.tree)

-- ---- a step

-- what remains to be done, in the words v, makes the whole in the words w: if_expr of the part at `part`, which stands
-- in what is left of the slot, with two arms, from `new` on
pub record Onward (w v : List ℕ) (at cap : ℕ) (arms : Arms Arm) (top part : ℕ) (next : Arms Arm) (new : ℕ) : Type 0
  where
    pub past : at < part
    pub within : part ≤ at + cap
    pub ask : IfAsk v part (cap - (part - at)) next new
    pub so : (u : List ℕ) (r : ℕ) → IfDone v u part (cap - (part - at)) next new if_expr r
        → IfDone w u at cap arms top (if_left if_expr) r

abbrev pub StepBy : List ℕ → List ℕ → ℕ → ℕ → Arms Arm → ℕ → Step → Type 0
StepBy w v at n arms top (step.Made r) = IfDone w v at n arms top (if_left if_expr) r
StepBy w v at n arms top (step.Not part) = Onward w v at n arms top part (swapped arms) top
StepBy w v at n arms top (step.Seq part new) = Onward w v at n arms top part arms new

pub record StepDone (w v : List ℕ) (at cap : ℕ) (arms : Arms Arm) (top : ℕ) (r : Step) : Type 0 where
  pub by : StepBy w v at cap arms top r
