-- Runs of statements in words, and what the functions over them are asked, of some trees, and leave, for whatever
-- trees stood there.
use Rattle.std.specs.Prelude.{Bool, true, false, cond, List, ◌≡◌, ℕ, ◌+◌, ◌-◌, ◌≤◌, ◌<◌, ◌^◌, length, get_or}
use Rattle.spec.specs.Rose.{size, At, Ats}
use Rattle.spec.specs.Tree.{Expr, Target, Stmt, Stmts, no_stmts, expr, if_stmt, for, count_s}
use Rattle.spec.specs.Tree.{rose_e, rose_t, rose_s, roses_s, rose_l}
use Rattle.spec.specs.Proper.{ValidExpr}
use Rattle.spec.specs.Pass.{const_condition, expr_condition, new_bool}
use Rattle.spec.specs.Pass as Pass
use Rattle.spec.specs.PassStmts.{one, is_exit, is_terminal, for_stmts}
use Rattle.spec.specs.PassStmts as Stmts·spec
use Rattle.spec.specs.Weight.{weight_e, row_words}
use Rattle.buffer.specs.Copy.{Same}
use Rattle.expr_forms.specs.Made.{Is}
use Rattle.expr_bool.specs.Asked.{ExprAt}
use Rattle.expr_bool.specs.declared.Condition.{Condition}
use Rattle.expr_bool.specs.declared.Condition.TheVariants as condition
use Rattle.expr_bool.specs.declared.Arms.{Arms}
use Rattle.runs.specs.declared.Run.{Run}

-- the run holds the statements ss
pub record Holds (w : List ℕ) (run : Run) (ss : Stmts) : Type 0 where
  pub here : Ats w run.at (roses_s ss)
  pub ends : run.end ≡ run.at + row_words ss
  pub counts : run.count ≡ count_s ss
  pub exits : run.last ≡ is_terminal ss

-- ---- no statement, and one run behind another

pub record EmptyDone (at : ℕ) (r : Run) : Type 0 where
  pub begins : r.at ≡ at
  pub ends : r.end ≡ at
  pub counts : r.count ≡ 0
  pub right : (w : List ℕ) → Holds w r no_stmts

-- one statement that is no exit
pub record SingleDone (at end : ℕ) (r : Run) : Type 0 where
  pub begins : r.at ≡ at
  pub ends : r.end ≡ end
  pub counts : r.count ≡ 1
  pub right : (w : List ℕ) (s : Stmt) → At w at (rose_s s) → end ≡ at + size (rose_s s) → is_exit s ≡ false
      → Holds w r (one s)

pub record ExtendAsk (left behind : Run) : Type 0 where
  pub few : left.count + behind.count < 2 ^ 64

pub record ExtendDone (left behind r : Run) : Type 0 where
  pub begins : r.at ≡ left.at
  pub right : (w : List ℕ) (ss rs : Stmts) → Holds w left ss → Holds w behind rs → behind.at ≡ left.end
      → Holds w r (Stmts·spec.extend ss rs)

pub record PlaceDone (w v : List ℕ) (run : Run) (top : ℕ) (r : Run) : Type 0 where
  pub frame : Same top w v
  pub begins : r.at ≡ top
  pub right : (ss : Stmts) → Holds w run ss → Holds v r ss

-- ---- arms

-- a run is one of them, and there is no statement in the other
pub record OnlyDone (run : Run) (o : Bool) (arms : Arms Run) : Type 0 where
  pub none : Run
  pub nothing : EmptyDone run.end none
  pub yes_is : arms.yes ≡ cond o none run
  pub no_is : arms.no ≡ cond o run none

-- ---- For

-- a For stands from `at` up to `end`, and what it loops over at `over`
pub record Looped (w : List ℕ) (at over end : ℕ) (t : Target) (e : Expr) (body : Stmts) : Type 0 where
  pub valid : ValidExpr e
  pub here : At w at (rose_s (for t e body))
  pub over_is : over ≡ at + 1 + size (rose_t t)
  pub ends : end ≡ at + size (rose_s (for t e body))

pub record ForAsk (w : List ℕ) (at over end : ℕ) : Type 0 where
  pub target : Target
  pub tree : Expr
  pub body : Stmts
  pub looped : Looped w at over end target tree body
  pub inside : end ≤ length w

pub record ForDone (w : List ℕ) (at over end : ℕ) (r : Run) : Type 0 where
  pub begins : r.at ≡ at
  pub right : (t : Target) (e : Expr) (body : Stmts) → Looped w at over end t e body → Holds w r (for_stmts t e body)

-- ---- a condition at the back of its slot

-- only the slot from low up to high, and words from top on, have changed
pub record Kept (low high top : ℕ) (w v : List ℕ) : Type 0 where
  pub frame : Same low w v
  pub beside : (k : ℕ) → high ≤ k → k < top → get_or v k 0 ≡ get_or w k 0

-- an expression within its slot
pub record Within (w : List ℕ) (low at high : ℕ) (e : Expr) : Type 0 where
  pub stands : ExprAt w at e
  pub order : low ≤ at
  pub inner : at + size (rose_e e) ≤ high
  pub fits : low + weight_e e ≤ high

pub record BackAsk (w : List ℕ) (low at high top : ℕ) : Type 0 where
  pub tree : Expr
  pub within : Within w low at high tree
  pub below : high ≤ top
  pub room : top + weight_e tree ≤ length w

abbrev pub Backed : List ℕ → ℕ → Pass.Condition → Condition → Type 0
Backed v high (const_condition b) r = r ≡ condition.Const b
Backed v high (expr_condition e) r =
    (r ≡ condition.Expr (high - size (rose_e e))) × At v (high - size (rose_e e)) (rose_e e)

pub record BackDone (w v : List ℕ) (low at high top : ℕ) (r : Condition) : Type 0 where
  pub kept : Kept low high top w v
  pub right : (e : Expr) → Within w low at high e → Backed v high (new_bool e) r

-- ---- statements that are written

pub record OneAsk (w : List ℕ) (at end top : ℕ) : Type 0 where
  pub tree : Expr
  pub is : Is w at end tree
  pub below : end ≤ top
  pub room : top + 1 + size (rose_e tree) ≤ length w

pub record OneDone (w v : List ℕ) (at end top : ℕ) (r : Run) : Type 0 where
  pub frame : Same top w v
  pub begins : r.at ≡ top
  pub right : (e : Expr) → Is w at end e → Holds v r (one (expr e))

-- a run as a list, with its count word
pub record ListAsk (w : List ℕ) (run : Run) (top : ℕ) : Type 0 where
  pub list : Stmts
  pub holds : Holds w run list
  pub below : run.end ≤ top
  pub room : top + 1 + row_words list ≤ length w
  pub short : length w < 2 ^ 32

pub record ListDone (w v : List ℕ) (run : Run) (top r : ℕ) : Type 0 where
  pub frame : Same top w v
  pub right : (ss : Stmts) → Holds w run ss → At v top (rose_l ss) × (r ≡ top + size (rose_l ss))

pub record WriteAsk (w : List ℕ) (at end : ℕ) (arms : Arms Run) (top : ℕ) : Type 0 where
  pub tree : Expr
  pub yes_list : Stmts
  pub no_list : Stmts
  pub is : Is w at end tree
  pub yes_holds : Holds w arms.yes yes_list
  pub no_holds : Holds w arms.no no_list
  pub below : end ≤ top
  pub yes_below : arms.yes.end ≤ top
  pub no_below : arms.no.end ≤ top
  pub room : top + 3 + size (rose_e tree) + row_words yes_list + row_words no_list ≤ length w
  pub short : length w < 2 ^ 32

pub record WriteDone (w v : List ℕ) (at end : ℕ) (arms : Arms Run) (top : ℕ) (r : Run) : Type 0 where
  pub frame : Same top w v
  pub begins : r.at ≡ top
  pub right : (c : Expr) (t f : Stmts) → Is w at end c → Holds w arms.yes t → Holds w arms.no f
      → Holds v r (one (if_stmt c t f))

-- ---- an If that is written around its condition and one of its arms

-- where the statements of the arm begin: behind its count word, and where it is the second one behind that of the
-- first one, which has nothing in it
abbrev pub first_of : ℕ → Bool → ℕ
first_of arms true = arms + 2
first_of arms false = arms + 1

-- the condition c stands behind the header's place, and the run with the statements ss in the arm's place
pub record Closed (w : List ℕ) (top arms : ℕ) (run : Run) (o : Bool) (c : Expr) (ss : Stmts) : Type 0 where
  pub is : Is w (top + 1) arms c
  pub holds : Holds w run ss
  pub begins : run.at ≡ first_of arms o

pub record CloseAsk (w : List ℕ) (top arms : ℕ) (run : Run) (o : Bool) : Type 0 where
  pub tree : Expr
  pub list : Stmts
  pub closed : Closed w top arms run o tree list
  pub room : run.end + 1 ≤ length w
  pub short : length w < 2 ^ 32

pub record CloseDone (w v : List ℕ) (top arms : ℕ) (run : Run) (o : Bool) (r : Run) : Type 0 where
  pub frame : Same top w v
  pub begins : r.at ≡ top
  pub right : (c : Expr) (ss : Stmts) → Closed w top arms run o c ss
      → Holds v r (one (if_stmt c (cond o no_stmts ss) (cond o ss no_stmts)))
