-- Trees that words can say. A tree's type allows two things more: an operator with another kind's header, as 779,
-- which is Not's, and a type text above 65,535, which runs into the bits behind it. A tree without them, all through,
-- is proper. What words mean always is, and valid words of a proper tree mean that tree.
use Rattle.std.specs.Prelude.{Bool, true, not, cond, ◌||◌, ◌≡◌, ℕ, ◌<◌, eqb}
use Rattle.spec.specs.Grammar.{kind_in, detail_in, within, Valid}
use Rattle.spec.specs.Tree
use Rattle.spec.specs.Tree.{Const, boolean, int, string, type_function, len_function, other}
use Rattle.spec.specs.Tree.{Expr, const, read, fresh, dict, if_then, type_is, logic, seq, oper, call, rose_e}
use Rattle.spec.specs.Tree.{Exprs, no_exprs, more_exprs}
use Rattle.spec.specs.Tree.{Target, dot, index, tuple_target, slot, Targets, no_targets, more_targets}
use Rattle.spec.specs.Tree.{Stmt, possible_gc, break, continue, return, expr, assign, assign_modify, if_stmt, for}
use Rattle.spec.specs.Tree.{Stmts, no_stmts, more_stmts, rose_l}
use Rattle.spec.specs.declared.Sort.TheVariants as sort

-- Slice, Builtin1 but Not and TypeIs, Builtin2, Index2
abbrev pub is_operator : ℕ → ℕ → Bool
is_operator k d = cond (eqb k 11) (not (within 3 4 d)) (eqb k 10 || within 14 15 k)

-- "type text in bits 0 to 15"
abbrev pub ProperConst : Const → Type 0
ProperConst Tree.none = Unit {0}
ProperConst (boolean b) = Unit {0}
ProperConst (int n) = Unit {0}
ProperConst (string t) = Unit {0}
ProperConst type_function = Unit {0}
ProperConst len_function = Unit {0}
ProperConst (other n t b e) = t < 65536

-- an expression and its parts
abbrev mutual
  pub Proper : Expr → Type 0
  Proper (const c) = ProperConst c
  Proper (read p) = Unit {0}
  Proper (fresh f es) = Propers es
  Proper (dict es) = Propers es
  Proper (if_then c t f) = Proper c × Proper t × Proper f
  Proper (Tree.not e) = Proper e
  Proper (type_is t e) = Proper e
  Proper (logic l x y) = Proper x × Proper y
  Proper (seq x y) = Proper x × Proper y
  Proper (oper h pay es) = (is_operator (kind_in h) (detail_in h) ≡ true) × Propers es
  Proper (call names args kwargs f es) = Proper f × Propers es

  pub Propers : Exprs → Type 0
  Propers no_exprs = Unit {0}
  Propers (more_exprs e es) = Proper e × Propers es

-- targets, then statements
abbrev mutual
  pub ProperTarget : Target → Type 0
  ProperTarget (dot t e) = Proper e
  ProperTarget (index x y) = Proper x × Proper y
  ProperTarget (tuple_target ts) = ProperTargets ts
  ProperTarget (slot s) = Unit {0}

  pub ProperTargets : Targets → Type 0
  ProperTargets no_targets = Unit {0}
  ProperTargets (more_targets t ts) = ProperTarget t × ProperTargets ts

abbrev mutual
  pub ProperStmt : Stmt → Type 0
  ProperStmt possible_gc = Unit {0}
  ProperStmt break = Unit {0}
  ProperStmt continue = Unit {0}
  ProperStmt (return e) = Proper e
  ProperStmt (expr e) = Proper e
  ProperStmt (assign w t e) = ProperTarget t × Proper e
  ProperStmt (assign_modify op t e) = ProperTarget t × Proper e
  ProperStmt (if_stmt c t f) = Proper c × ProperStmts t × ProperStmts f
  ProperStmt (for t e b) = ProperTarget t × Proper e × ProperStmts b

  pub ProperStmts : Stmts → Type 0
  ProperStmts no_stmts = Unit {0}
  ProperStmts (more_stmts s ss) = ProperStmt s × ProperStmts ss

-- an expression that words can say and whose words are valid
abbrev pub ValidExpr : Expr → Type 0
ValidExpr e = Proper e × Valid sort.Expr (rose_e e)

-- a rule that words can say and whose words are valid
abbrev pub ValidRule : Stmts → Type 0
ValidRule ss = ProperStmts ss × Valid sort.List (rose_l ss)
