-- "Nothing dead left standing": document 02, 2.7. `NothingDead` says of any rule what 02 asks of a pruned one, and
-- `nothing_dead` is a test of the same that computes. That the two say the same, and that what one pass makes of any
-- rule has it, are the theorems of proofs/NothingDead.antt.
use Rattle.std.specs.Prelude.{Bool, true, false, not, cond, ◌&&◌, ◌≡◌}
use Rattle.spec.specs.Tree
use Rattle.spec.specs.Tree.{Expr, const, read, fresh, dict, if_then, type_is, logic, seq, oper, call, Target}
use Rattle.spec.specs.Tree.{Stmt, possible_gc, break, continue, return, expr, assign, assign_modify, if_stmt, for}
use Rattle.spec.specs.Tree.{Stmts, no_stmts, more_stmts}
use Rattle.spec.specs.Verdict.{pure, empty_iterable}
use Rattle.spec.specs.PassStmts.{is_empty, is_exit}

-- ---- what it says

-- "For every list in a pruned rule, at any depth": the statement stands in one of these lists, the rule's own, an arm's
-- or a loop body's, and `behind` is what stands after it in the same list
pub data Occurs : Stmts → Stmt → Stmts → Type 0 where
  first : {s : Stmt} {behind : Stmts} → Occurs (more_stmts s behind) s behind
  later : {r s : Stmt} {ss behind : Stmts} → Occurs ss s behind → Occurs (more_stmts r ss) s behind
  in_then : {c : Expr} {t f ss : Stmts} {s : Stmt} {behind : Stmts} → Occurs t s behind
      → Occurs (more_stmts (if_stmt c t f) ss) s behind
  in_else : {c : Expr} {t f ss : Stmts} {s : Stmt} {behind : Stmts} → Occurs f s behind
      → Occurs (more_stmts (if_stmt c t f) ss) s behind
  in_loop : {x : Target} {e : Expr} {b ss : Stmts} {s : Stmt} {behind : Stmts} → Occurs b s behind
      → Occurs (more_stmts (for x e b) ss) s behind

pub record NothingDead (rule : Stmts) : Type 0 where
  -- "no statement after Break, Continue or Return"
  pub after_break : (behind : Stmts) → Occurs rule break behind → behind ≡ no_stmts
  pub after_continue : (behind : Stmts) → Occurs rule continue behind → behind ≡ no_stmts
  pub after_return : (e : Expr) (behind : Stmts) → Occurs rule (return e) behind → behind ≡ no_stmts
  -- "no pure expression statement"
  pub no_pure : (e : Expr) (behind : Stmts) → Occurs rule (expr e) behind → pure e ≡ false
  -- "no If statement with both arms empty"
  pub no_empty_if : (c : Expr) (behind : Stmts) → Occurs rule (if_stmt c no_stmts no_stmts) behind → ⊥
  -- "or whose condition is Not or Seq"
  pub no_not : (e : Expr) (t f behind : Stmts) → Occurs rule (if_stmt (Tree.not e) t f) behind → ⊥
  pub no_seq : (x y : Expr) (t f behind : Stmts) → Occurs rule (if_stmt (seq x y) t f) behind → ⊥
  -- "no loop over an empty iterable"
  pub no_empty_loop : (x : Target) (e : Expr) (b behind : Stmts) → Occurs rule (for x e b) behind
      → empty_iterable e ≡ false

-- ---- the same as a test: it asks is_exit and is_empty of the pass, `NothingDead` does not, and the two are proved to
-- say the same

-- "Not or Seq"
abbrev pub is_not_or_seq : Expr → Bool
is_not_or_seq (const c) = false
is_not_or_seq (read p) = false
is_not_or_seq (fresh f es) = false
is_not_or_seq (dict es) = false
is_not_or_seq (if_then c t f) = false
is_not_or_seq (Tree.not e) = true
is_not_or_seq (type_is t e) = false
is_not_or_seq (logic l x y) = false
is_not_or_seq (seq x y) = true
is_not_or_seq (oper h pay es) = false
is_not_or_seq (call names args kwargs f es) = false

unfoldable mutual
  -- a list, with all lists within it
  pub nothing_dead : Stmts → Bool
  nothing_dead no_stmts = true
  nothing_dead (more_stmts s ss) = cond (is_exit s) (is_empty ss) true && (alive s && nothing_dead ss)

  -- a statement, with all lists within it
  pub alive : Stmt → Bool
  alive possible_gc = true
  alive break = true
  alive continue = true
  alive (return e) = true
  alive (expr e) = not (pure e)
  alive (assign w t e) = true
  alive (assign_modify op t e) = true
  alive (if_stmt c t f) =
      not (is_empty t && is_empty f) && (not (is_not_or_seq c) && (nothing_dead t && nothing_dead f))
  alive (for t e b) = not (empty_iterable e) && nothing_dead b
