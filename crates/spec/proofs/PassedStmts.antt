-- The pass keeps validity, for statements: what StmtsCompiled::expr, if_stmt and for_stmt make of valid parts is valid
-- (`expr_stmts_valid`, `if_stmts_valid`, `for_stmts_valid`), and so is a pruned rule (`rule_passed`).
-- A list's count word may be any number (Grammar.Counted), so that no list is too long to be valid.
-- Assumes nothing.
use mathlib.Core.Bool.{Bool, true, false, cond, ◌&&◌}
use mathlib.Core.List.{List}
use mathlib.Core.Path.{◌≡◌, refl, ap}
use Prim.Native.Nat.{ℕ, zero, suc, ◌+◌}
use native.Mathlib.Omega.{arith}
use Rattle.std.proofs.lemmas.Grind.{common_steps}
use Rattle.spec.specs.Rose.{count}
use Rattle.spec.specs.Grammar.{Valid, Valids}
use Rattle.spec.specs.Tree.{Logic, and, or}
use Rattle.spec.specs.Tree.{Expr, fresh, not, type_is, logic, seq, call}
use Rattle.spec.specs.Tree.{Exprs, no_exprs, more_exprs, Target}
use Rattle.spec.specs.Tree.{Stmt, return, expr, assign, assign_modify, if_stmt, for}
use Rattle.spec.specs.Tree.{Stmts, no_stmts, more_stmts, count_s, rose_s, roses_s}
use Rattle.spec.specs.Proper.{ProperStmt, ProperStmts, ValidExpr, ValidRule}
use Rattle.spec.specs.Verdict.{is_type_function, is_plain, pure, empty_iterable}
use Rattle.spec.specs.Pass.{Condition, const_condition, expr_condition, new_bool, nodes_of}
use Rattle.spec.specs.Pass.{optimize_expr, optimize_target}
use Rattle.spec.specs.PassStmts.{one, is_empty, is_terminal, join_stmts, extend, part_stmts, logic_stmts, call_stmts}
use Rattle.spec.specs.PassStmts.{expr_step, if_stays, if_stmt_left, if_stmt_step, expr_bounded, if_stmt_bounded}
use Rattle.spec.specs.PassStmts.{expr_stmts, if_stmts, for_stmts, optimize_stmt, optimize_behind, optimize}
use Rattle.spec.specs.declared.Sort.TheVariants as sort
use Rattle.spec.proofs.Passed.{valids_from, ValidExprs, first_exprs, valid_parts}
use Rattle.spec.proofs.Passed.{one_part, two_parts, argument_valid, ValidCondition, new_condition_valid}
use Rattle.spec.proofs.Passed.{optimize_valid, ValidTarget, optimize_target_valid}

-- ---- statements

-- a statement that words can say and whose words are valid
abbrev pub ValidStmt : Stmt → Type 0
ValidStmt s = ProperStmt s × Valid sort.Stmt (rose_s s)

-- statements that are valid whenever their parts are
pub return_node : (e : Expr) → ValidExpr e → ValidStmt (return e)
return_node e v = (v.0, (refl, record { head = refl; ruled = tt; many = refl }, (v.1, tt)))

pub expr_node : (e : Expr) → ValidExpr e → ValidStmt (expr e)
expr_node e v = (v.0, (refl, record { head = refl; ruled = tt; many = refl }, (v.1, tt)))

pub assign_node : (w : ℕ) (t : Target) (e : Expr) → ValidTarget sort.Target t → ValidExpr e → ValidStmt (assign w t e)
assign_node w t e u v =
    ((u.0, v.0), (refl, record { head = refl; ruled = (refl, tt); many = refl }, (u.1, (v.1, tt))))

pub if_stmt_node : (c : Expr) (t f : Stmts) → ValidExpr c → ValidRule t → ValidRule f → ValidStmt (if_stmt c t f)
if_stmt_node c t f u v w = grind (arith, common_steps)

pub for_node : (t : Target) (e : Expr) (b : Stmts) → ValidTarget sort.Target t → ValidExpr e → ValidRule b
    → ValidStmt (for t e b)
for_node t e b u v w = grind (arith, common_steps)

-- the parts of AssignModify, and others in their place: the target is no tuple
pub modify_parts : (op : ℕ) (t : Target) (e : Expr) → ValidStmt (assign_modify op t e)
    → ValidTarget sort.Single t × ValidExpr e
modify_parts op t e v = grind (arith, common_steps)

pub modify_kept : (op : ℕ) (t u : Target) (e x : Expr) → ValidStmt (assign_modify op t e) → ValidTarget sort.Single u
    → ValidExpr x → ValidStmt (assign_modify op u x)
modify_kept op t u e x v p q = grind (arith, common_steps)

-- ---- lists of statements

count_stmt_roses : (ss : Stmts) → count (roses_s ss) ≡ count_s ss
count_stmt_roses no_stmts = refl
count_stmt_roses (more_stmts s ss) = ap suc (count_stmt_roses ss)

-- a list's count is right by itself
pub list_valid : (ss : Stmts) → ProperStmts ss → Valids (λ i. sort.Stmt) 0 (roses_s ss) → ValidRule ss
list_valid ss p v = (p, (refl, record { alone = refl; many = count_stmt_roses ss }, v))

pub none_valid : ValidRule no_stmts
none_valid = list_valid no_stmts tt tt

pub more_valid : (s : Stmt) (ss : Stmts) → ValidStmt s → ValidRule ss → ValidRule (more_stmts s ss)
more_valid s ss v w =
    list_valid (more_stmts s ss) (v.0, w.0) (v.1, valids_from sort.Stmt (roses_s ss) 0 1 w.1.2)

pub first_valid : (s : Stmt) (ss : Stmts) → ValidRule (more_stmts s ss) → ValidStmt s × ValidRule ss
first_valid s ss v =
    let (first, rest) = v.1.2 in
    ((v.0.0, first), list_valid ss v.0.1 (valids_from sort.Stmt (roses_s ss) 1 0 rest))

pub one_valid : (s : Stmt) → ValidStmt s → ValidRule (one s)
unfolding one
one_valid s v = more_valid s no_stmts v none_valid

-- one of two valid choices
cond_valid : (b : Bool) (ss rs : Stmts) → ValidRule ss → ValidRule rs → ValidRule (cond b ss rs)
cond_valid true ss rs v w = v
cond_valid false ss rs v w = w

join_valid : (ss rs : Stmts) → ValidRule ss → ValidRule rs → ValidRule (join_stmts ss rs)
unfolding join_stmts
join_valid no_stmts rs v w = w
join_valid (more_stmts s ss) rs v w =
    let (first, rest) = first_valid s ss v in
    more_valid s (join_stmts ss rs) first (join_valid ss rs rest w)

pub extend_valid : (ss rs : Stmts) → ValidRule ss → ValidRule rs → ValidRule (extend ss rs)
unfolding extend
extend_valid ss rs v w = cond_valid (is_terminal ss) ss (join_stmts ss rs) v (join_valid ss rs v w)

-- ---- expr and if_stmt

-- an expression as one statement
stays_valid : (e : Expr) → ValidExpr e → ValidRule (one (expr e))
stays_valid e v = one_valid (expr e) (expr_node e v)

-- one step, if what it asks for is valid
module _ (more : Expr → Stmts) (moreIf : Expr → Stmts → Stmts → Stmts)
    (ih : (x : Expr) → ValidExpr x → ValidRule (more x))
    (ihIf : (c : Expr) (t f : Stmts) → ValidExpr c → ValidRule t → ValidRule f → ValidRule (moreIf c t f))
  where
    part_valid : (before : Stmts) (es : Exprs) → ValidRule before → ValidExprs es
        → ValidRule (part_stmts more before es)
    unfolding part_stmts
    part_valid before no_exprs v w = v
    part_valid before (more_exprs e es) v w =
        let (first, rest) = first_exprs e es w in
        part_valid (extend before (more e)) es (extend_valid before (more e) v (ih e first)) rest

    logic_valid : (l : Logic) (x : Expr) (right : Stmts) → ValidExpr x → ValidRule right
        → ValidRule (logic_stmts moreIf l x right)
    unfolding logic_stmts
    logic_valid and x right v w = ihIf x right no_stmts v w none_valid
    logic_valid or x right v w = ihIf x no_stmts right v none_valid w

    call_valid : (names : List ℕ) (args kwargs : Bool) (f : Expr) (es : Exprs)
        → ValidExpr (call names args kwargs f es) → ValidRule (call_stmts more names args kwargs f es)
    unfolding call_stmts
    call_valid names args kwargs f no_exprs v = stays_valid (call names args kwargs f no_exprs) v
    call_valid names args kwargs f (more_exprs e no_exprs) v =
        cond_valid (is_type_function f && is_plain names args kwargs) (more e)
        (one (expr (call names args kwargs f (more_exprs e no_exprs))))
        (ih e (argument_valid names args kwargs f e v))
        (stays_valid (call names args kwargs f (more_exprs e no_exprs)) v)
    call_valid names args kwargs f (more_exprs e (more_exprs x xs)) v =
        stays_valid (call names args kwargs f (more_exprs e (more_exprs x xs))) v

    step_valid : (e : Expr) → ValidExpr e → ValidRule (expr_step more moreIf e)
    unfolding expr_step
    step_valid (fresh f es) v = part_valid no_stmts es none_valid (valid_parts (fresh f es) v)
    step_valid (not e) v = ih e (one_part e (valid_parts (not e) v))
    step_valid (type_is t e) v = ih e (one_part e (valid_parts (type_is t e) v))
    step_valid (logic l x y) v =
        let (left, right) = two_parts x y (valid_parts (logic l x y) v) in
        logic_valid l x (more y) left (ih y right)
    step_valid (call names args kwargs f es) v = call_valid names args kwargs f es v
    step_valid e v = stays_valid e v

    if_stays_valid : (e : Expr) (t f : Stmts) → ValidExpr e → ValidRule t → ValidRule f
        → ValidRule (if_stays more e t f)
    unfolding if_stays
    if_stays_valid e t f u v w =
        cond_valid (is_empty t && is_empty f) (more e) (one (if_stmt e t f)) (ih e u)
        (one_valid (if_stmt e t f) (if_stmt_node e t f u v w))

    if_left_valid : (e : Expr) (t f : Stmts) → ValidExpr e → ValidRule t → ValidRule f
        → ValidRule (if_stmt_left more moreIf e t f)
    unfolding if_stmt_left
    if_left_valid (not e) t f u v w = ihIf e f t (one_part e (valid_parts (not e) u)) w v
    if_left_valid (seq p e) t f u v w =
        let (left, right) = two_parts p e (valid_parts (seq p e) u) in
        extend_valid (more p) (moreIf e t f) (ih p left) (ihIf e t f right v w)
    if_left_valid e t f u v w = if_stays_valid e t f u v w

    if_step_valid : (s : Condition) (t f : Stmts) → ValidCondition s → ValidRule t → ValidRule f
        → ValidRule (if_stmt_step more moreIf s t f)
    unfolding if_stmt_step
    if_step_valid (const_condition b) t f u v w = cond_valid b t f v w
    if_step_valid (expr_condition e) t f u v w = if_left_valid e t f u v w

-- at every bound
mutual
  unfolding expr_bounded

  pub expr_bounded_valid : (n : ℕ) (e : Expr) → ValidExpr e → ValidRule (expr_bounded n e)
  expr_bounded_valid zero e v = stays_valid e v
  expr_bounded_valid (suc n) e v =
      cond_valid (pure e) no_stmts (expr_step (λ x. expr_bounded n x) (λ c t f. if_stmt_bounded n c t f) e) none_valid
      (step_valid (λ x. expr_bounded n x) (λ c t f. if_stmt_bounded n c t f) (λ x w. expr_bounded_valid n x w)
      (λ c t f x y z. if_stmt_bounded_valid n c t f x y z) e v)

  pub if_stmt_bounded_valid : (n : ℕ) (c : Expr) (t f : Stmts) → ValidExpr c → ValidRule t → ValidRule f
      → ValidRule (if_stmt_bounded n c t f)
  if_stmt_bounded_valid zero c t f u v w = one_valid (if_stmt c t f) (if_stmt_node c t f u v w)
  if_stmt_bounded_valid (suc n) c t f u v w =
      if_step_valid (λ x. expr_bounded n x) (λ d x y. if_stmt_bounded n d x y) (λ x y. expr_bounded_valid n x y)
      (λ d a b x y z. if_stmt_bounded_valid n d a b x y z) (new_bool c) t f (new_condition_valid c u) v w

pub expr_stmts_valid : (e : Expr) → ValidExpr e → ValidRule (expr_stmts e)
unfolding expr_stmts
expr_stmts_valid e v = expr_bounded_valid (nodes_of e + nodes_of e) e v

pub if_stmts_valid : (c : Expr) (t f : Stmts) → ValidExpr c → ValidRule t → ValidRule f → ValidRule (if_stmts c t f)
unfolding if_stmts
if_stmts_valid c t f u v w = if_stmt_bounded_valid (suc (nodes_of c + nodes_of c)) c t f u v w

pub for_stmts_valid : (t : Target) (e : Expr) (b : Stmts) → ValidTarget sort.Target t → ValidExpr e → ValidRule b
    → ValidRule (for_stmts t e b)
unfolding for_stmts
for_stmts_valid t e b u v w =
    cond_valid (empty_iterable e) no_stmts (one (for t e b)) none_valid
    (one_valid (for t e b) (for_node t e b u v w))

-- ---- optimize

mutual
  unfolding optimize_stmt

  pub optimize_stmt_valid : (s : Stmt) → ValidStmt s → ValidRule (optimize_stmt s)
  optimize_stmt_valid (return e) v =
      one_valid (return (optimize_expr e)) (return_node (optimize_expr e) (optimize_valid e (v.0, v.1.2.0)))
  optimize_stmt_valid (expr e) v = expr_stmts_valid (optimize_expr e) (optimize_valid e (v.0, v.1.2.0))
  optimize_stmt_valid (assign w t e) v =
      one_valid (assign w (optimize_target t) (optimize_expr e))
      (assign_node w (optimize_target t) (optimize_expr e)
      (optimize_target_valid sort.Target t (v.0.0, v.1.2.0)) (optimize_valid e (v.0.1, v.1.2.1.0)))
  optimize_stmt_valid (assign_modify op t e) v =
      let (target, value) = modify_parts op t e v in
      one_valid (assign_modify op (optimize_target t) (optimize_expr e))
      (modify_kept op t (optimize_target t) e (optimize_expr e) v (optimize_target_valid sort.Single t target)
      (optimize_valid e value))
  optimize_stmt_valid (if_stmt c t f) v =
      if_stmts_valid (optimize_expr c) (optimize_behind t no_stmts) (optimize_behind f no_stmts)
      (optimize_valid c (v.0.0, v.1.2.0)) (behind_valid t no_stmts (v.0.1, v.1.2.1.0) none_valid)
      (behind_valid f no_stmts (v.0.2, v.1.2.1.1.0) none_valid)
  optimize_stmt_valid (for t e b) v =
      for_stmts_valid (optimize_target t) (optimize_expr e) (optimize_behind b no_stmts)
      (optimize_target_valid sort.Target t (v.0.0, v.1.2.0)) (optimize_valid e (v.0.1, v.1.2.1.0))
      (behind_valid b no_stmts (v.0.2, v.1.2.1.1.0) none_valid)
  optimize_stmt_valid e v = one_valid e v

  -- the rest of a list, behind what is made already
  pub behind_valid : (ss before : Stmts) → ValidRule ss → ValidRule before → ValidRule (optimize_behind ss before)
  behind_valid no_stmts before v w = w
  behind_valid (more_stmts s ss) before v w =
      let (first, rest) = first_valid s ss v in
      cond_valid (is_terminal before) before (optimize_behind ss (extend before (optimize_stmt s))) w
      (behind_valid ss (extend before (optimize_stmt s)) rest
      (extend_valid before (optimize_stmt s) w (optimize_stmt_valid s first)))

-- a pruned rule is valid
pub rule_passed : (ss : Stmts) → ValidRule ss → ValidRule (optimize ss)
unfolding optimize
rule_passed ss v = behind_valid ss no_stmts v none_valid
