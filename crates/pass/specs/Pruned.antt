-- What the pass over statements is asked, of some trees, and what it leaves, for whatever trees stood there.
use Rattle.std.specs.Prelude.{Bool, true, false, List, ◌≡◌, ℕ, ◌+◌, ◌≤◌, ◌<◌, ◌^◌, length}
use Rattle.spec.specs.Rose.{size, sizes, At, Ats, parts_of}
use Rattle.spec.specs.Rose.{count as countR}
use Rattle.spec.specs.Grammar.{Valid}
use Rattle.spec.specs.Tree.{Expr, Target, Stmt, Stmts, possible_gc, break, continue, return, expr, assign}
use Rattle.spec.specs.Tree.{assign_modify}
use Rattle.spec.specs.Tree.{if_stmt, for, rose_e, rose_t, rose_s, rose_l}
use Rattle.spec.specs.Proper.{ValidExpr, ValidRule, ProperTarget, ProperStmt}
use Rattle.spec.specs.Pass.{optimize_expr, optimize_target}
use Rattle.spec.specs.PassStmts.{if_stays, expr_stmts, optimize_stmt, optimize}
use Rattle.spec.specs.Foldable.{foldable, foldable_target, foldable_stmt, foldable_count}
use Rattle.spec.specs.Weight.{weights, weight_e, weight_t, weight_s, row_weight, expr_room, stmt_room}
use Rattle.spec.specs.declared.Sort.TheVariants as sort
use Rattle.tables.specs.declared.stmts.StmtKind.{StmtKind}
use Rattle.ir.specs.Standing.{IsStmt}
use Rattle.ir.specs.declared.tree.Node.{Node}
use Rattle.buffer.specs.Copy.{Same}
use Rattle.expr_forms.specs.Made.{Is}
use Rattle.runs.specs.Held.{Holds}
use Rattle.runs.specs.declared.Run.{Run}
use Rattle.optimize.specs.declared.Optimized.{Optimized}
use Rattle.pass.specs.declared.Pair.{Pair}
use Rattle.pass.specs.declared.Pruned.{Pruned}

-- ---- an expression

-- an expression stands at `at` and ends at or below top
pub record ExprBelow (w : List ℕ) (at top : ℕ) (e : Expr) : Type 0 where
  pub valid : ValidExpr e
  pub here : At w at (rose_e e)
  pub below : at + size (rose_e e) ≤ top

-- ---- what is made

-- a tree of so many words at `at` gave the statements ss, with so many foldable places met
pub record Made (v : List ℕ) (at : ℕ) (r : Pruned) (words : ℕ) (ss : Stmts) (n : ℕ) : Type 0 where
  pub from : r.next ≡ at + words
  pub holds : Holds v r.run ss
  pub met : r.foldable ≡ n

-- ---- an expression statement

pub record ExprAsk (w : List ℕ) (at top : ℕ) : Type 0 where
  pub tree : Expr
  pub is : ExprBelow w at top tree
  pub room : top + stmt_room (weight_e tree) ≤ length w
  pub short : length w < 2 ^ 32

pub record ExprDone (w v : List ℕ) (at top : ℕ) (r : Pruned) : Type 0 where
  pub frame : Same top w v
  pub begins : r.run.at ≡ top
  pub right : (e : Expr) → ExprBelow w at top e
      → Made v at r (size (rose_e e)) (expr_stmts (optimize_expr e)) (foldable e)

-- ---- statements

pub record StmtBelow (w : List ℕ) (at top : ℕ) (s : Stmt) : Type 0 where
  pub valid : ProperStmt s × Valid sort.Stmt (rose_s s)
  pub here : At w at (rose_s s)
  pub below : at + size (rose_s s) ≤ top

-- a statement with the room of its pass above top
pub record StmtRoom (w : List ℕ) (at top : ℕ) (s : Stmt) : Type 0 where
  pub is : StmtBelow w at top s
  pub room : top + stmt_room (weight_s s) ≤ length w
  pub short : length w < 2 ^ 32

pub record StmtAsk (w : List ℕ) (at top : ℕ) : Type 0 where
  pub tree : Stmt
  pub asked : StmtRoom w at top tree

pub record StmtDone (w v : List ℕ) (at top : ℕ) (r : Pruned) : Type 0 where
  pub frame : Same top w v
  pub begins : r.run.at ≡ top
  pub right : (s : Stmt) → StmtBelow w at top s → Made v at r (size (rose_s s)) (optimize_stmt s) (foldable_stmt s)

-- ---- a target and an expression

pub record PairBelow (w : List ℕ) (at top : ℕ) (t : Target) (e : Expr) : Type 0 where
  pub target_valid : ProperTarget t × Valid sort.Target (rose_t t)
  pub value_valid : ValidExpr e
  pub target_here : At w at (rose_t t)
  pub value_here : At w (at + size (rose_t t)) (rose_e e)
  pub below : at + size (rose_t t) + size (rose_e e) ≤ top

pub record PairAsk (w : List ℕ) (at top : ℕ) : Type 0 where
  pub target : Target
  pub value : Expr
  pub are : PairBelow w at top target value
  pub room : top + expr_room (weight_t target + weight_e value) ≤ length w

-- optimized, the target stands at top, and the expression behind it
pub record PairMade (v : List ℕ) (at top : ℕ) (r : Pair) (t : Target) (e : Expr) : Type 0 where
  pub from : r.next ≡ at + size (rose_t t) + size (rose_e e)
  pub target_here : At v top (rose_t (optimize_target t))
  pub parted : r.over ≡ top + size (rose_t (optimize_target t))
  pub value_here : At v r.over (rose_e (optimize_expr e))
  pub ends : r.end ≡ r.over + size (rose_e (optimize_expr e))
  pub met : r.foldable ≡ foldable_target t + foldable e

pub record PairDone (w v : List ℕ) (at top : ℕ) (r : Pair) : Type 0 where
  pub frame : Same top w v
  pub right : (t : Target) (e : Expr) → PairBelow w at top t e → PairMade v at top r t e

-- ---- a statement that stays, with its parts optimized

abbrev pub is_simple : Stmt → Bool
is_simple possible_gc = true
is_simple break = true
is_simple continue = true
is_simple (return e) = true
is_simple (expr e) = false
is_simple (assign w t e) = true
is_simple (assign_modify op t e) = true
is_simple (if_stmt c t f) = false
is_simple (for t e b) = false

abbrev pub simplified : Stmt → Stmt
simplified possible_gc = possible_gc
simplified break = break
simplified continue = continue
simplified (return e) = return (optimize_expr e)
simplified (expr e) = expr e
simplified (assign w t e) = assign w (optimize_target t) (optimize_expr e)
simplified (assign_modify op t e) = assign_modify op (optimize_target t) (optimize_expr e)
simplified (if_stmt c t f) = if_stmt c t f
simplified (for t e b) = for t e b

-- the parts of s stand at `at`
pub record PartsBelow (w : List ℕ) (at count top : ℕ) (s : Stmt) : Type 0 where
  pub simple : is_simple s ≡ true
  pub valid : ProperStmt s × Valid sort.Stmt (rose_s s)
  pub here : Ats w at (parts_of (rose_s s))
  pub many : count ≡ countR (parts_of (rose_s s))
  pub below : at + sizes (parts_of (rose_s s)) ≤ top

pub record PartsAsk (w : List ℕ) (at count top : ℕ) : Type 0 where
  pub tree : Stmt
  pub are : PartsBelow w at count top tree
  pub room : top + expr_room (weights (parts_of (rose_s tree))) ≤ length w

pub record PartsMade (v : List ℕ) (at top : ℕ) (r : Optimized) (s : Stmt) : Type 0 where
  pub from : r.next ≡ at + sizes (parts_of (rose_s s))
  pub here : Ats v top (parts_of (rose_s (simplified s)))
  pub ends : r.end ≡ top + sizes (parts_of (rose_s (simplified s)))
  pub met : r.foldable ≡ foldable_stmt s

pub record PartsDone (w v : List ℕ) (at count top : ℕ) (r : Optimized) : Type 0 where
  pub frame : Same top w v
  pub right : (s : Stmt) → PartsBelow w at count top s → PartsMade v at top r s

-- with the statement's node
pub record Simple (w : List ℕ) (at : ℕ) (x : Node StmtKind) (top : ℕ) (s : Stmt) : Type 0 where
  pub asked : StmtRoom w at top s
  pub simple : is_simple s ≡ true
  pub told : IsStmt w at x

pub record SimpleAsk (w : List ℕ) (at : ℕ) (x : Node StmtKind) (top : ℕ) : Type 0 where
  pub tree : Stmt
  pub is : Simple w at x top tree

-- ---- If and For

pub record IfAsk (w : List ℕ) (at top : ℕ) : Type 0 where
  pub test : Expr
  pub yes_list : Stmts
  pub no_list : Stmts
  pub asked : StmtRoom w at top (if_stmt test yes_list no_list)

-- an If whose condition, optimized, stands behind top
pub record Slotted (w : List ℕ) (at : ℕ) (o : Optimized) (top : ℕ) (c : Expr) (t f : Stmts) : Type 0 where
  pub asked : StmtRoom w at top (if_stmt c t f)
  pub from : o.next ≡ at + 1 + size (rose_e c)
  pub made : Is w (top + 1) o.end (optimize_expr c)
  pub met : o.foldable ≡ foldable c

pub record SlottedAsk (w : List ℕ) (at : ℕ) (o : Optimized) (top : ℕ) : Type 0 where
  pub test : Expr
  pub yes_list : Stmts
  pub no_list : Stmts
  pub slotted : Slotted w at o top test yes_list no_list

-- an If stands from `at` up to `end`, and its condition ends where its lists begin
pub record Branched (w : List ℕ) (at lists end : ℕ) (c : Expr) (t f : Stmts) : Type 0 where
  pub valid : ValidExpr c
  pub here : At w at (rose_s (if_stmt c t f))
  pub parted : lists ≡ at + 1 + size (rose_e c)
  pub ends : end ≡ at + size (rose_s (if_stmt c t f))

pub record CloseAsk (w : List ℕ) (at lists end : ℕ) : Type 0 where
  pub test : Expr
  pub yes_list : Stmts
  pub no_list : Stmts
  pub branched : Branched w at lists end test yes_list no_list
  pub room : at + stmt_room (weight_e test) ≤ length w
  pub short : length w < 2 ^ 32

pub record CloseDone (w v : List ℕ) (at lists end : ℕ) (r : Run) : Type 0 where
  pub frame : Same at w v
  pub begins : r.at ≡ at
  pub right : (c : Expr) (t f : Stmts) → Branched w at lists end c t f → Holds v r (if_stays expr_stmts c t f)

pub record ForAsk (w : List ℕ) (at top : ℕ) : Type 0 where
  pub target : Target
  pub over : Expr
  pub body : Stmts
  pub asked : StmtRoom w at top (for target over body)

-- ---- lists

pub record ListBelow (w : List ℕ) (at top : ℕ) (ss : Stmts) : Type 0 where
  pub valid : ValidRule ss
  pub here : At w at (rose_l ss)
  pub below : at + size (rose_l ss) ≤ top

pub record ListAsk (w : List ℕ) (at top : ℕ) : Type 0 where
  pub tree : Stmts
  pub is : ListBelow w at top tree
  pub room : top + stmt_room (row_weight tree) ≤ length w
  pub short : length w < 2 ^ 32

pub record ListDone (w v : List ℕ) (at top : ℕ) (r : Pruned) : Type 0 where
  pub frame : Same top w v
  pub begins : r.run.at ≡ top
  pub right : (ss : Stmts) → ListBelow w at top ss → Made v at r (size (rose_l ss)) (optimize ss) (foldable_count ss)

-- ---- a list with its count word

pub record BodyAsk (w : List ℕ) (at top : ℕ) : Type 0 where
  pub tree : Stmts
  pub is : ListBelow w at top tree
  pub room : top + 1 + stmt_room (row_weight tree) ≤ length w
  pub short : length w < 2 ^ 32

pub record BodyMade (v : List ℕ) (at top : ℕ) (r : Optimized) (ss : Stmts) : Type 0 where
  pub from : r.next ≡ at + size (rose_l ss)
  pub here : At v top (rose_l (optimize ss))
  pub ends : r.end ≡ top + size (rose_l (optimize ss))
  pub met : r.foldable ≡ foldable_count ss

pub record BodyDone (w v : List ℕ) (at top : ℕ) (r : Optimized) : Type 0 where
  pub frame : Same top w v
  pub right : (ss : Stmts) → ListBelow w at top ss → BodyMade v at top r ss
