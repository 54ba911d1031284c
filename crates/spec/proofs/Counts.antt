-- Against the words of a tree: there are no more foldable places than words, no more nodes, and no more statements.
-- Assumes nothing.
use mathlib.Core.Bool.{Bool, true, false, cond}
use Prim.Native.Nat.{ℕ, ◌+◌, ◌≤◌}
use native.Mathlib.Omega.{arith}
use lib.ListN.{length}
use Rattle.spec.specs.Rose.{size, sizes}
use Rattle.spec.specs.Tree
use Rattle.spec.specs.Tree.{Const, boolean, int, string, type_function, len_function, other, const_words}
use Rattle.spec.specs.Tree.{Place, local, captured, module', def, place_words}
use Rattle.spec.specs.Tree.{Expr, const, read, fresh, dict, if_then, type_is, logic, seq, oper, call, rose_e, bit_of}
use Rattle.spec.specs.Tree.{Exprs, no_exprs, more_exprs, roses_e}
use Rattle.spec.specs.Tree.{Target, dot, index, tuple_target, slot, Targets, no_targets, more_targets, rose_t, roses_t}
use Rattle.spec.specs.Tree.{Stmt, possible_gc, break, continue, return, expr, assign, assign_modify, if_stmt, for}
use Rattle.spec.specs.Tree.{Stmts, no_stmts, more_stmts, count_s, rose_s, rose_l}
use Rattle.spec.specs.Pass.{nodes_of, nodes_in, optimize_expr, optimize_exprs}
use Rattle.spec.specs.PassStmts.{is_terminal, extend, optimize_stmt}
use Rattle.spec.specs.Foldable.{fresh_folds, oper_folds, call_folds, foldable, foldables}
use Rattle.spec.specs.Foldable.{foldable_target, foldable_targets}
use Rattle.spec.specs.Foldable.{foldable_stmt, foldable_behind, foldable_count}
use Rattle.spec.specs.Weight.{row_words}

-- ---- foldable places

pub bit_one : (b : Bool) → bit_of b ≤ 1
bit_one true = omega arith
bit_one false = omega arith

mutual
  unfolding foldable

  pub expr_places : (e : Expr) → foldable e ≤ size (rose_e e)
  expr_places (const c) = omega arith
  expr_places (read p) = omega arith
  expr_places (fresh f es) = omega (arith, exprs_places es, bit_one (fresh_folds f (optimize_exprs es)))
  expr_places (dict es) = omega (arith, exprs_places es)
  expr_places (if_then c t f) = omega (arith, expr_places c, expr_places t, expr_places f)
  expr_places (Tree.not e) = omega (arith, expr_places e)
  expr_places (type_is t e) = omega (arith, expr_places e)
  expr_places (logic l x y) = omega (arith, expr_places x, expr_places y)
  expr_places (seq x y) = omega (arith, expr_places x, expr_places y)
  expr_places (oper h pay es) = omega (arith, exprs_places es, bit_one (oper_folds h (optimize_exprs es)))
  expr_places (call names args kwargs f es) =
      omega (
        arith,
        expr_places f,
        exprs_places es,
        bit_one (call_folds names args kwargs (optimize_expr f) (optimize_exprs es)),
      )

  pub exprs_places : (es : Exprs) → foldables es ≤ sizes (roses_e es)
  exprs_places no_exprs = omega arith
  exprs_places (more_exprs e es) = omega (arith, expr_places e, exprs_places es)

mutual
  unfolding foldable_target

  pub target_places : (t : Target) → foldable_target t ≤ size (rose_t t)
  target_places (dot t e) = omega (arith, expr_places e)
  target_places (index x y) = omega (arith, expr_places x, expr_places y)
  target_places (tuple_target ts) = omega (arith, targets_places ts)
  target_places (slot s) = omega arith

  pub targets_places : (ts : Targets) → foldable_targets ts ≤ sizes (roses_t ts)
  targets_places no_targets = omega arith
  targets_places (more_targets t ts) = omega (arith, target_places t, targets_places ts)

-- none, or so many
cond_places : (b : Bool) (n m : ℕ) → n ≤ m → cond b 0 n ≤ m
cond_places true n m l = omega arith
cond_places false n m l = l

mutual
  unfolding foldable_stmt

  pub stmt_places : (s : Stmt) → foldable_stmt s ≤ size (rose_s s)
  stmt_places (return e) = omega (arith, expr_places e)
  stmt_places (expr e) = omega (arith, expr_places e)
  stmt_places (assign w t e) = omega (arith, target_places t, expr_places e)
  stmt_places (assign_modify op t e) = omega (arith, target_places t, expr_places e)
  stmt_places (if_stmt c t f) = omega (arith, expr_places c, behind_places t no_stmts, behind_places f no_stmts)
  stmt_places (for t e b) = omega (arith, target_places t, expr_places e, behind_places b no_stmts)
  stmt_places _ = omega arith

  pub behind_places : (ss before : Stmts) → foldable_behind ss before ≤ row_words ss
  behind_places no_stmts before = omega arith
  behind_places (more_stmts s ss) before =
      cond_places (is_terminal before) (foldable_stmt s + foldable_behind ss (extend before (optimize_stmt s))) _
      (omega (arith, stmt_places s, behind_places ss (extend before (optimize_stmt s))))

pub list_places : (ss : Stmts) → foldable_count ss ≤ row_words ss
unfolding foldable_count
list_places ss = behind_places ss no_stmts

-- ---- nodes

const_words_lem : (c : Const) → 1 ≤ length (const_words c)
const_words_lem Tree.none = omega arith
const_words_lem _ = omega arith

place_words_lem : (p : Place) → 1 ≤ length (place_words p)
place_words_lem (local n) = omega arith
place_words_lem _ = omega arith

mutual
  unfolding nodes_of

  pub expr_nodes : (e : Expr) → nodes_of e ≤ size (rose_e e)
  expr_nodes (const c) = omega (arith, const_words_lem c)
  expr_nodes (read p) = omega (arith, place_words_lem p)
  expr_nodes (fresh f es) = omega (arith, exprs_nodes es)
  expr_nodes (dict es) = omega (arith, exprs_nodes es)
  expr_nodes (if_then c t f) = omega (arith, expr_nodes c, expr_nodes t, expr_nodes f)
  expr_nodes (Tree.not e) = omega (arith, expr_nodes e)
  expr_nodes (type_is t e) = omega (arith, expr_nodes e)
  expr_nodes (logic l x y) = omega (arith, expr_nodes x, expr_nodes y)
  expr_nodes (seq x y) = omega (arith, expr_nodes x, expr_nodes y)
  expr_nodes (oper h pay es) = omega (arith, exprs_nodes es)
  expr_nodes (call names args kwargs f es) = omega (arith, expr_nodes f, exprs_nodes es)

  exprs_nodes : (es : Exprs) → nodes_in es ≤ sizes (roses_e es)
  exprs_nodes no_exprs = omega arith
  exprs_nodes (more_exprs e es) = omega (arith, expr_nodes e, exprs_nodes es)

-- ---- statements

-- a statement has a word
pub stmt_words : (s : Stmt) → 1 ≤ size (rose_s s)
stmt_words possible_gc = omega arith
stmt_words _ = omega arith

pub row_counts : (ss : Stmts) → count_s ss ≤ row_words ss
row_counts no_stmts = omega arith
row_counts (more_stmts s ss) = omega (arith, stmt_words s, row_counts ss)
