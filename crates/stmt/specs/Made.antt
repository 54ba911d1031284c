-- What `expr` and `if_stmt` are asked, of some trees, and what they leave, for whatever trees stood there.
use Rattle.std.specs.Prelude.{Bool, true, ◌&&◌, List, ◌≡◌, ℕ, ◌+◌, ◌≤◌, ◌<◌, ◌^◌, eqb, length}
use Rattle.std.specs.Prelude.{Option, Some, None, IfSome}
use Rattle.spec.specs.Rose.{size, At}
use Rattle.spec.specs.Tree
use Rattle.spec.specs.Tree.{Fresh, Expr, Exprs, fresh, logic, seq, Stmts, expr, count_e, rose_e}
use Rattle.spec.specs.Proper.{ValidExpr}
use Rattle.spec.specs.Pass.{nodes_of}
use Rattle.spec.specs.PassStmts.{one, expr_step, if_stays, if_stmt_left, expr_stmts, if_stmts}
use Rattle.spec.specs.Weight.{weight_e, row_words, made_room}
use Rattle.ir.specs.Standing.{SomeExprs, SkipOf}
use Rattle.buffer.specs.Copy.{Same}
use Rattle.expr_forms.specs.Made.{Is}
use Rattle.expr_bool.specs.Asked.{ExprAt, logic_by}
use Rattle.runs.specs.Held.{Holds, Kept, Within, first_of}
use Rattle.expr_bool.specs.declared.Arms.{Arms}
use Rattle.runs.specs.declared.Run.{Run}
use Rattle.if_expr.specs.Arms.{TestDone}
use Rattle.if_expr.specs.declared.Test.TheVariants as test
use Rattle.stmt.specs.declared.Step.{Step}
use Rattle.stmt.specs.declared.Step.TheVariants as step
use Rattle.stmt.specs.declared.Way.{Way}
use Rattle.stmt.specs.declared.Way.TheVariants as way

-- ---- what is made of an expression statement that is not pure

-- the statements of the part x, which stands at `place` and ends where e does
pub record PartOf (w : List ℕ) (at place : ℕ) (e x : Expr) : Type 0 where
  pub step : (more : Expr → Stmts) (moreIf : Expr → Stmts → Stmts → Stmts) → expr_step more moreIf e ≡ more x
  pub stands : ExprAt w place x
  pub past : at < place
  pub ends : place + size (rose_e x) ≡ at + size (rose_e e)
  pub fewer : nodes_of x < nodes_of e
  pub lighter : weight_e x ≤ weight_e e

pub data WayOf (w : List ℕ) (at : ℕ) : Expr → Way → Type 0 where
  parts : (f : Fresh) (es : Exprs) (first n : ℕ) → first ≡ at + 1 → n ≡ count_e es
      → WayOf w at (fresh f es) (way.Parts first n)
  part : (e x : Expr) (place : ℕ) → PartOf w at place e x → WayOf w at e (way.Part place)
  logical : (o : Bool) (x y : Expr) (first : ℕ) → first ≡ at + 1
      → WayOf w at (logic (logic_by o) x y) (way.Logic first o)
  stays : (e : Expr)
      → ((more : Expr → Stmts) (moreIf : Expr → Stmts → Stmts → Stmts) → expr_step more moreIf e ≡ one (expr e))
      → WayOf w at e way.Stays

pub record WayAsk (w : List ℕ) (at : ℕ) : Type 0 where
  pub tree : Expr
  pub stands : ExprAt w at tree
  pub inside : at + size (rose_e tree) ≤ length w

pub record WayDone (w : List ℕ) (at : ℕ) (r : Way) : Type 0 where
  pub right : (e : Expr) → ExprAt w at e → at + size (rose_e e) ≤ length w → WayOf w at e r

-- ---- where a part ends

-- a part stands there, and is the last one only if it ends at `end`
pub record EndAsk (w : List ℕ) (part end : ℕ) (last : Bool) : Type 0 where
  pub some : SomeExprs w part 1
  pub whole : last ≡ true → SkipOf w part 1 end

-- ---- a condition over which an If statement stays one

-- what is left of the condition c stands from top up to r
pub record Stayed (v : List ℕ) (top r : ℕ) (c : Expr) : Type 0 where
  pub left : Expr
  pub is : Is v top r left
  pub lighter : weight_e left ≤ weight_e c
  pub so : (t f : Stmts) → if_stmts c t f ≡ if_stays expr_stmts left t f

pub record StayDone (w v : List ℕ) (at top : ℕ) (r : Option ℕ) : Type 0 where
  pub frame : Same top w v
  pub right : IfSome r (λ end. (c : Expr) → ExprAt w at c → Stayed v top end c)

-- where the right side's statements begin: in an arm of an If whose condition ends at that place, or at top
abbrev pub ListPlace : ℕ → Option ℕ → Bool → ℕ → Type 0
ListPlace top (Some lists) o r = r ≡ first_of lists o
ListPlace top None o r = r ≡ top

-- ---- expr

-- an expression at the back of its slot from low up to end
pub record AtBack (w : List ℕ) (low at end : ℕ) (e : Expr) : Type 0 where
  pub is : Is w at end e
  pub order : low ≤ at
  pub fits : low + weight_e e ≤ end

pub record ExprAsk (w : List ℕ) (low at end top nodes : ℕ) : Type 0 where
  pub tree : Expr
  pub back : AtBack w low at end tree
  pub below : end ≤ top
  pub room : top + made_room (weight_e tree) ≤ length w
  pub few : nodes_of tree ≤ nodes
  pub short : length w < 2 ^ 32

pub record ExprDone (w v : List ℕ) (low at end top : ℕ) (r : Run) : Type 0 where
  pub kept : Kept low end top w v
  pub begins : r.at ≡ top
  pub right : (e : Expr) → AtBack w low at end e → Holds v r (expr_stmts e)

-- ---- if_stmt

-- both runs stand between the slot and top, and hold these statements
pub record ArmsHold (w : List ℕ) (high : ℕ) (arms : Arms Run) (top : ℕ) (x y : Stmts) : Type 0 where
  pub yes_holds : Holds w arms.yes x
  pub no_holds : Holds w arms.no y
  pub yes_above : high ≤ arms.yes.at
  pub no_above : high ≤ arms.no.at
  pub yes_below : arms.yes.end ≤ top
  pub no_below : arms.no.end ≤ top

pub record IfAsk (w : List ℕ) (low at high : ℕ) (arms : Arms Run) (top nodes : ℕ) : Type 0 where
  pub tree : Expr
  pub yes_list : Stmts
  pub no_list : Stmts
  pub within : Within w low at high tree
  pub held : ArmsHold w high arms top yes_list no_list
  pub below : high ≤ top
  pub room : top + made_room (weight_e tree) + row_words yes_list + row_words no_list ≤ length w
  pub few : nodes_of tree ≤ nodes
  pub short : length w < 2 ^ 32

pub record IfDone (w v : List ℕ) (low at high : ℕ) (arms : Arms Run) (top : ℕ) (r : Run) : Type 0 where
  pub kept : Kept low high top w v
  pub begins : r.at ≡ top
  pub right : (c : Expr) (x y : Stmts) → Within w low at high c → ArmsHold w high arms top x y
      → Holds v r (if_stmts c x y)

-- ---- a step of if_stmt

-- what is left of the condition stands at the back of the slot
pub record Left (w : List ℕ) (low at high : ℕ) (arms : Arms Run) (top nodes : ℕ) (v : List ℕ) (back : ℕ) (e : Expr)
    : Type 0 where
  pub asked : IfAsk w low at high arms top nodes
  pub kept : Kept low high top w v
  pub long : length v ≡ length w
  pub so : (x y : Stmts) → if_stmts asked.tree x y ≡ if_stmt_left expr_stmts if_stmts e x y
  pub valid : ValidExpr e
  pub here : At v back (rose_e e)
  pub ends : high ≡ back + size (rose_e e)
  pub fits : low + weight_e e ≤ high
  pub room : top + made_room (weight_e e) + row_words asked.yes_list + row_words asked.no_list ≤ length v
  pub few : nodes_of e ≤ nodes

-- it is a Not, with its part at `part`
pub record NotLeft (w : List ℕ) (low at high : ℕ) (arms : Arms Run) (top nodes : ℕ) (v : List ℕ) (part : ℕ)
    : Type 0 where
  pub back : ℕ
  pub inner : Expr
  pub left : Left w low at high arms top nodes v back (Tree.not inner)
  pub past : part ≡ back + 1

-- a Seq, with its parts at `first` and `part`
pub record SeqLeft (w : List ℕ) (low at high : ℕ) (arms : Arms Run) (top nodes : ℕ) (v : List ℕ) (first part : ℕ)
    : Type 0 where
  pub back : ℕ
  pub ahead : Expr
  pub rest : Expr
  pub left : Left w low at high arms top nodes v back (seq ahead rest)
  pub past : first ≡ back + 1
  pub skipped : SkipOf v first 1 part

-- neither, and both arms are empty
pub record BareLeft (w : List ℕ) (low at high : ℕ) (arms : Arms Run) (top nodes : ℕ) (v : List ℕ) (back : ℕ)
    : Type 0 where
  pub whole : Expr
  pub left : Left w low at high arms top nodes v back whole
  pub stays : TestDone v back test.Stays
  pub none : (eqb arms.yes.count 0 && eqb arms.no.count 0) ≡ true

abbrev pub StepBy : List ℕ → ℕ → ℕ → ℕ → Arms Run → ℕ → ℕ → List ℕ → Step → Type 0
StepBy w low at high arms top nodes v (step.Made r) = IfDone w v low at high arms top r
StepBy w low at high arms top nodes v (step.Not next) = NotLeft w low at high arms top nodes v next
StepBy w low at high arms top nodes v (step.Seq first next) = SeqLeft w low at high arms top nodes v first next
StepBy w low at high arms top nodes v (step.Bare back) = BareLeft w low at high arms top nodes v back

pub record StepDone (w v : List ℕ) (low at high : ℕ) (arms : Arms Run) (top nodes : ℕ) (r : Step) : Type 0 where
  pub by : StepBy w low at high arms top nodes v r
