-- How many words statements take that the pass makes, against the weight of what they are made of. Twice the words of
-- what StmtsCompiled::expr makes are at most three times the expression's weight (`made_words`); if_stmt adds its arms
-- with a count word each (`if_words`). A pruned rule has at most one and a half times its weight in words
-- (`pruned_weight`), which is at most three times its words (`pruned_words`).
-- Assumes nothing.
use mathlib.Core.Bool.{Bool, true, false, cond, ◌&&◌}
use mathlib.Core.List.{List}
use Prim.Native.Nat.{ℕ, zero, suc, ◌+◌, ◌*◌, ◌≤◌}
use native.Mathlib.Omega.{arith}
use Rattle.spec.specs.Rose.{size}
use Rattle.spec.specs.Tree.{Logic, and, or}
use Rattle.spec.specs.Tree.{Expr, fresh, not, type_is, logic, seq, call}
use Rattle.spec.specs.Tree.{Exprs, no_exprs, more_exprs, Target, rose_e, rose_t, rose_l}
use Rattle.spec.specs.Tree.{Stmt, return, expr, assign, assign_modify, if_stmt, for}
use Rattle.spec.specs.Tree.{Stmts, no_stmts, more_stmts}
use Rattle.spec.specs.Verdict.{is_type_function, is_plain, pure, empty_iterable}
use Rattle.spec.specs.Pass.{Condition, const_condition, expr_condition, new_bool, nodes_of}
use Rattle.spec.specs.Pass.{optimize_expr, optimize_target}
use Rattle.spec.specs.PassStmts.{one, is_empty, is_terminal, join_stmts, extend, part_stmts, logic_stmts, call_stmts}
use Rattle.spec.specs.PassStmts.{expr_step, if_stays, if_stmt_left, if_stmt_step, expr_bounded, if_stmt_bounded}
use Rattle.spec.specs.PassStmts.{expr_stmts, if_stmts, for_stmts, optimize_stmt, optimize_behind, optimize}
use Rattle.spec.specs.Weight.{weight_e, weight_es, weight_c, weight_t, weight_s, weight_ss, row_weight, row_words}
use Rattle.spec.proofs.Weights.{expr_weight, target_weight, rule_weight, some_weight, new_weight}
use Rattle.spec.proofs.Weights.{optimize_weight, optimize_target_weight}

-- ---- rows

-- the longer of two choices
cond_words : (b : Bool) (ss rs : Stmts) (n : ℕ) → 2 * row_words ss ≤ n → 2 * row_words rs ≤ n
    → 2 * row_words (cond b ss rs) ≤ n
cond_words true ss rs n p q = p
cond_words false ss rs n p q = q

join_words : (ss rs : Stmts) → row_words (join_stmts ss rs) ≤ row_words ss + row_words rs
unfolding join_stmts
join_words no_stmts rs = omega arith
join_words (more_stmts s ss) rs = omega (arith, join_words ss rs)

pub extend_words : (ss rs : Stmts) → row_words (extend ss rs) ≤ row_words ss + row_words rs
unfolding extend
extend_words ss rs = go (is_terminal ss)
  where
    go : (b : Bool) → row_words (cond b ss (join_stmts ss rs)) ≤ row_words ss + row_words rs
    go true = omega arith
    go false = join_words ss rs

-- ---- expr and if_stmt

-- an expression as one statement
one_words : (e : Expr) → 2 * row_words (one (expr e)) ≤ 3 * weight_e e
unfolding one
one_words e = omega (arith, expr_weight e, some_weight e)

-- one step, if what it asks for keeps the bounds
module _ (more : Expr → Stmts) (moreIf : Expr → Stmts → Stmts → Stmts)
    (ih : (x : Expr) → 2 * row_words (more x) ≤ 3 * weight_e x)
    (ihIf : (c : Expr) (t f : Stmts) → 2 * row_words (moreIf c t f) ≤ 3 * weight_e c + 2
    * (2 + row_words t + row_words f))
  where
    part_words : (before : Stmts) (es : Exprs)
        → 2 * row_words (part_stmts more before es) ≤ 2 * row_words before + 3 * weight_es es
    unfolding part_stmts
    part_words before no_exprs = omega arith
    part_words before (more_exprs e es) =
        omega (arith, part_words (extend before (more e)) es, extend_words before (more e), ih e)

    logic_words : (l : Logic) (x y : Expr) → 2 * row_words (logic_stmts moreIf l x (more y)) ≤ 3 * weight_e
        (logic l x y)
    unfolding logic_stmts
    logic_words and x y = omega (arith, ihIf x (more y) no_stmts, ih y)
    logic_words or x y = omega (arith, ihIf x no_stmts (more y), ih y)

    call_words : (names : List ℕ) (args kwargs : Bool) (f : Expr) (es : Exprs)
        → 2 * row_words (call_stmts more names args kwargs f es) ≤ 3 * weight_e (call names args kwargs f es)
    unfolding call_stmts
    call_words names args kwargs f no_exprs = one_words (call names args kwargs f no_exprs)
    call_words names args kwargs f (more_exprs e no_exprs) =
        cond_words (is_type_function f && is_plain names args kwargs) (more e)
        (one (expr (call names args kwargs f (more_exprs e no_exprs)))) _
        (omega (arith, ih e)) (one_words (call names args kwargs f (more_exprs e no_exprs)))
    call_words names args kwargs f (more_exprs e (more_exprs x xs)) =
        one_words (call names args kwargs f (more_exprs e (more_exprs x xs)))

    step_words : (e : Expr) → 2 * row_words (expr_step more moreIf e) ≤ 3 * weight_e e
    unfolding expr_step
    step_words (fresh f es) = omega (arith, part_words no_stmts es)
    step_words (not e) = omega (arith, ih e)
    step_words (type_is t e) = omega (arith, ih e)
    step_words (logic l x y) = logic_words l x y
    step_words (call names args kwargs f es) = call_words names args kwargs f es
    step_words e = one_words e

    stays_words : (e : Expr) (t f : Stmts)
        → 2 * row_words (if_stays more e t f) ≤ 3 * weight_e e + 2 * (2 + row_words t + row_words f)
    unfolding if_stays one
    stays_words e t f =
        cond_words (is_empty t && is_empty f) (more e) (one (if_stmt e t f)) _ (omega (arith, ih e))
        (omega (arith, expr_weight e, some_weight e))

    left_words : (e : Expr) (t f : Stmts)
        → 2 * row_words (if_stmt_left more moreIf e t f) ≤ 3 * weight_e e + 2 * (2 + row_words t + row_words f)
    unfolding if_stmt_left
    left_words (not e) t f = omega (arith, ihIf e f t)
    left_words (seq p e) t f = omega (arith, extend_words (more p) (moreIf e t f), ih p, ihIf e t f)
    left_words e t f = stays_words e t f

    if_step_words : (s : Condition) (t f : Stmts)
        → 2 * row_words (if_stmt_step more moreIf s t f) ≤ 3 * weight_c s + 2 * (2 + row_words t + row_words f)
    unfolding if_stmt_step
    if_step_words (const_condition b) t f = cond_words b t f _ (omega arith) (omega arith)
    if_step_words (expr_condition e) t f = left_words e t f

-- at every bound
mutual
  unfolding expr_bounded one

  expr_bounded_words : (n : ℕ) (e : Expr) → 2 * row_words (expr_bounded n e) ≤ 3 * weight_e e
  expr_bounded_words zero e = one_words e
  expr_bounded_words (suc n) e =
      cond_words (pure e) no_stmts _ _ (omega arith)
      (step_words (λ x. expr_bounded n x) (λ c t f. if_stmt_bounded n c t f) (λ x. expr_bounded_words n x)
      (λ c t f. if_bounded_words n c t f) e)

  if_bounded_words : (n : ℕ) (c : Expr) (t f : Stmts)
      → 2 * row_words (if_stmt_bounded n c t f) ≤ 3 * weight_e c + 2 * (2 + row_words t + row_words f)
  if_bounded_words zero c t f = omega (arith, expr_weight c, some_weight c)
  if_bounded_words (suc n) c t f =
      omega (
        arith,
        new_weight c,
        if_step_words (λ x. expr_bounded n x) (λ d x y. if_stmt_bounded n d x y) (λ x. expr_bounded_words n x)
            (λ d x y. if_bounded_words n d x y) (new_bool c) t f,
      )

-- statements made of an expression: at most one and a half times its weight
pub made_words : (e : Expr) → 2 * row_words (expr_stmts e) ≤ 3 * weight_e e
unfolding expr_stmts
made_words e = expr_bounded_words (nodes_of e + nodes_of e) e

-- statements made of a condition and two arms: one and a half times its weight, and the arms with their count words
pub if_words : (c : Expr) (t f : Stmts)
    → 2 * row_words (if_stmts c t f) ≤ 3 * weight_e c + 2 * (size (rose_l t) + size (rose_l f))
unfolding if_stmts
if_words c t f = omega (arith, if_bounded_words (suc (nodes_of c + nodes_of c)) c t f)

-- ---- optimize

-- a target and an expression become no longer than they weigh
placed_words : (t : Target) (e : Expr)
    → size (rose_t (optimize_target t)) + size (rose_e (optimize_expr e)) ≤ weight_t t + weight_e e
placed_words t e =
    omega (
      arith,
      expr_weight (optimize_expr e),
      optimize_weight e,
      target_weight (optimize_target t),
      optimize_target_weight t,
    )

-- what a statement becomes: at most one and a half times its weight
mutual
  unfolding optimize_stmt one for_stmts

  pub optimize_stmt_words : (s : Stmt) → 2 * row_words (optimize_stmt s) ≤ 3 * weight_s s
  optimize_stmt_words (return e) = omega (arith, expr_weight (optimize_expr e), optimize_weight e)
  optimize_stmt_words (expr e) = omega (arith, made_words (optimize_expr e), optimize_weight e)
  optimize_stmt_words (assign w t e) = omega (arith, placed_words t e)
  optimize_stmt_words (assign_modify op t e) = omega (arith, placed_words t e)
  optimize_stmt_words (if_stmt c t f) =
      omega (
        arith,
        if_words (optimize_expr c) (optimize_behind t no_stmts) (optimize_behind f no_stmts),
        optimize_weight c,
        behind_words t no_stmts,
        behind_words f no_stmts,
      )
  optimize_stmt_words (for t e b) =
      cond_words (empty_iterable (optimize_expr e)) no_stmts _ _ (omega arith)
      (omega (arith, placed_words t e, behind_words b no_stmts))
  optimize_stmt_words _ = omega arith

  -- the rest of a list, behind what is made already
  pub behind_words : (ss before : Stmts)
      → 2 * row_words (optimize_behind ss before) ≤ 2 * row_words before + 3 * row_weight ss
  behind_words no_stmts before = omega arith
  behind_words (more_stmts s ss) before =
      cond_words (is_terminal before) before _ _ (omega arith)
      (omega (
        arith,
        behind_words ss (extend before (optimize_stmt s)),
        extend_words before (optimize_stmt s),
        optimize_stmt_words s,
      ))

-- a pruned rule, with its count word: at most one and a half times the rule's weight
pub pruned_weight : (ss : Stmts) → 2 * size (rose_l (optimize ss)) ≤ 3 * weight_ss ss
unfolding optimize
pruned_weight ss = omega (arith, behind_words ss no_stmts)

-- at most three times the rule's words
pub pruned_words : (ss : Stmts) → size (rose_l (optimize ss)) ≤ 3 * size (rose_l ss)
pruned_words ss = omega (arith, pruned_weight ss, rule_weight ss)
