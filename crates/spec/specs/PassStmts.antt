-- The pass on statements: document 01, 'Pruned lists', with the Rust's structure and names (stmt.rs, StmtsCompiled).
use Rattle.std.specs.Prelude.{Bool, true, false, cond, ◌&&◌, List, ℕ, zero, suc, ◌+◌}
use Rattle.spec.specs.Tree
use Rattle.spec.specs.Tree.{
  Logic,
  and,
  or,
  Expr,
  const,
  read,
  fresh,
  dict,
  if_then,
  type_is,
  logic,
  seq,
  oper,
  call,
}
use Rattle.spec.specs.Tree.{Exprs, no_exprs, more_exprs, Target}
use Rattle.spec.specs.Tree.{
  Stmt,
  possible_gc,
  break,
  continue,
  return,
  expr,
  assign,
  assign_modify,
  if_stmt,
  for,
  Stmts,
  no_stmts,
  more_stmts,
}
use Rattle.spec.specs.Verdict.{is_type_function, is_plain, pure, empty_iterable}
use Rattle.spec.specs.Pass.{
  Condition,
  const_condition,
  expr_condition,
  new_bool,
  nodes_of,
  optimize_expr,
  optimize_target,
}

unfoldable pub one : Stmt → Stmts
one s = more_stmts s no_stmts

unfoldable pub is_empty : Stmts → Bool
is_empty no_stmts = true
is_empty (more_stmts s ss) = false

-- "Break, Continue or Return"; an If is no exit
unfoldable pub is_exit : Stmt → Bool
is_exit possible_gc = false
is_exit break = true
is_exit continue = true
is_exit (return e) = true
is_exit (expr e) = false
is_exit (assign w t e) = false
is_exit (assign_modify op t e) = false
is_exit (if_stmt c t f) = false
is_exit (for t e b) = false

-- is_terminal: the last statement exits
unfoldable pub is_terminal : Stmts → Bool
is_terminal no_stmts = false
is_terminal (more_stmts s no_stmts) = is_exit s
is_terminal (more_stmts s (more_stmts r rs)) = is_terminal (more_stmts r rs)

unfoldable pub join_stmts : Stmts → Stmts → Stmts
join_stmts no_stmts rs = rs
join_stmts (more_stmts s ss) rs = more_stmts s (join_stmts ss rs)

-- "`extend` drops its right when the left's last statement is Break, Continue or Return"
unfoldable pub extend : Stmts → Stmts → Stmts
extend ss rs = cond (is_terminal ss) ss (join_stmts ss rs)

-- ---- expr and if_stmt: "`StmtsCompiled::expr` and `if_stmt` call each other"

-- "a list or tuple gives its parts in order", behind `before`
unfoldable pub part_stmts : (Expr → Stmts) → Stmts → Exprs → Stmts
part_stmts more before no_exprs = before
part_stmts more before (more_exprs e es) = part_stmts more (extend before (more e)) es

-- "And is if_stmt(left, right's statements, none), Or the reverse"
unfoldable pub logic_stmts : (Expr → Stmts → Stmts → Stmts) → Logic → Expr → Stmts → Stmts
logic_stmts moreIf and x right = moreIf x right no_stmts
logic_stmts moreIf or x right = moreIf x no_stmts right

-- "type calls give their part"
unfoldable pub call_stmts : (Expr → Stmts) → List ℕ → Bool → Bool → Expr → Exprs → Stmts
call_stmts more names args kwargs f no_exprs = one (expr (call names args kwargs f no_exprs))
call_stmts more names args kwargs f (more_exprs e no_exprs) =
    cond (is_type_function f && is_plain names args kwargs) (more e)
    (one (expr (call names args kwargs f (more_exprs e no_exprs))))
call_stmts more names args kwargs f (more_exprs e (more_exprs x xs)) =
    one (expr (call names args kwargs f (more_exprs e (more_exprs x xs))))

-- an expression statement that is not pure, `more` and `moreIf` being expr and if_stmt of something smaller: "a list or
-- tuple gives its parts in order; Not, TypeIs and type calls give their part; And is .., Or the reverse; else it stays"
unfoldable pub expr_step : (Expr → Stmts) → (Expr → Stmts → Stmts → Stmts) → Expr → Stmts
expr_step more moreIf (const c) = one (expr (const c))
expr_step more moreIf (read p) = one (expr (read p))
expr_step more moreIf (fresh f es) = part_stmts more no_stmts es
expr_step more moreIf (dict es) = one (expr (dict es))
expr_step more moreIf (if_then c t f) = one (expr (if_then c t f))
expr_step more moreIf (Tree.not e) = more e
expr_step more moreIf (type_is t e) = more e
expr_step more moreIf (logic l x y) = logic_stmts moreIf l x (more y)
expr_step more moreIf (seq x y) = one (expr (seq x y))
expr_step more moreIf (oper h pay es) = one (expr (oper h pay es))
expr_step more moreIf (call names args kwargs f es) = call_stmts more names args kwargs f es

-- "with both arms empty the condition becomes an expression statement"
unfoldable pub if_stays : (Expr → Stmts) → Expr → Stmts → Stmts → Stmts
if_stays more e t f = cond (is_empty t && is_empty f) (more e) (one (if_stmt e t f))

-- "`if_stmt` does as `if_expr` over lists; Seq's left becomes statements ahead"
unfoldable pub if_stmt_left : (Expr → Stmts) → (Expr → Stmts → Stmts → Stmts) → Expr → Stmts → Stmts → Stmts
if_stmt_left more moreIf (Tree.not e) t f = moreIf e f t
if_stmt_left more moreIf (seq p e) t f = extend (more p) (moreIf e t f)
if_stmt_left more moreIf (const c) t f = if_stays more (const c) t f
if_stmt_left more moreIf (read p) t f = if_stays more (read p) t f
if_stmt_left more moreIf (fresh k es) t f = if_stays more (fresh k es) t f
if_stmt_left more moreIf (dict es) t f = if_stays more (dict es) t f
if_stmt_left more moreIf (if_then c x y) t f = if_stays more (if_then c x y) t f
if_stmt_left more moreIf (type_is u e) t f = if_stays more (type_is u e) t f
if_stmt_left more moreIf (logic l x y) t f = if_stays more (logic l x y) t f
if_stmt_left more moreIf (oper h pay es) t f = if_stays more (oper h pay es) t f
if_stmt_left more moreIf (call names args kwargs g es) t f = if_stays more (call names args kwargs g es) t f

unfoldable pub if_stmt_step : (Expr → Stmts) → (Expr → Stmts → Stmts → Stmts) → Condition → Stmts → Stmts → Stmts
if_stmt_step more moreIf (const_condition b) t f = cond b t f
if_stmt_step more moreIf (expr_condition e) t f = if_stmt_left more moreIf e t f

-- bounded by twice the nodes and which of the two; proofs/Unroll.antt proves the equations without the bound
unfoldable mutual
  pub expr_bounded : ℕ → Expr → Stmts
  expr_bounded zero e = one (expr e)
  expr_bounded (suc n) e =
      cond (pure e) no_stmts (expr_step (λ x. expr_bounded n x) (λ c t f. if_stmt_bounded n c t f) e)

  pub if_stmt_bounded : ℕ → Expr → Stmts → Stmts → Stmts
  if_stmt_bounded zero c t f = one (if_stmt c t f)
  if_stmt_bounded (suc n) c t f =
      if_stmt_step (λ x. expr_bounded n x) (λ d x y. if_stmt_bounded n d x y) (new_bool c) t f

-- StmtsCompiled::expr: "An expression statement: pure gives nothing; .."
unfoldable pub expr_stmts : Expr → Stmts
expr_stmts e = expr_bounded (nodes_of e + nodes_of e) e

-- StmtsCompiled::if_stmt
unfoldable pub if_stmts : Expr → Stmts → Stmts → Stmts
if_stmts c t f = if_stmt_bounded (suc (nodes_of c + nodes_of c)) c t f

-- "`for_stmt` over an empty iterable gives nothing"
unfoldable pub for_stmts : Target → Expr → Stmts → Stmts
for_stmts t e b = cond (empty_iterable e) no_stmts (one (for t e b))

-- ---- optimize

unfoldable mutual
  pub optimize_stmt : Stmt → Stmts
  optimize_stmt possible_gc = one possible_gc
  optimize_stmt break = one break
  optimize_stmt continue = one continue
  optimize_stmt (return e) = one (return (optimize_expr e))
  optimize_stmt (expr e) = expr_stmts (optimize_expr e)
  optimize_stmt (assign w t e) = one (assign w (optimize_target t) (optimize_expr e))
  optimize_stmt (assign_modify op t e) = one (assign_modify op (optimize_target t) (optimize_expr e))
  optimize_stmt (if_stmt c t f) = if_stmts (optimize_expr c) (optimize_behind t no_stmts) (optimize_behind f no_stmts)
  optimize_stmt (for t e b) = for_stmts (optimize_target t) (optimize_expr e) (optimize_behind b no_stmts)

  -- the rest of a list, behind what is made already: "the pass leaves its list there"
  pub optimize_behind : Stmts → Stmts → Stmts
  optimize_behind no_stmts before = before
  optimize_behind (more_stmts s ss) before =
      cond (is_terminal before) before (optimize_behind ss (extend before (optimize_stmt s)))

-- StmtsCompiled::optimize: one pass over a rule
unfoldable pub optimize : Stmts → Stmts
optimize ss = optimize_behind ss no_stmts
