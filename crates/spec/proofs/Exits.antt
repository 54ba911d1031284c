-- `extend` by whether the left exits, and that what is made of an expression ends in no Break, Continue or Return
-- (`expr_stmts_exit`): so nothing is dropped behind the statements of a Seq's left part (also for the crates above).
-- Assumes nothing.
use mathlib.Core.Bool.{Bool, true, false, cond, ◌&&◌}
use mathlib.Core.List.{List}
use mathlib.Core.Path.{◌≡◌, refl, ap, sym, ◌∙◌}
use Prim.Native.Nat.{ℕ, zero, suc, ◌+◌}
use Rattle.spec.specs.Tree.{Logic, and, or}
use Rattle.spec.specs.Tree.{Expr, fresh, not, type_is, logic, seq, call}
use Rattle.spec.specs.Tree.{Exprs, no_exprs, more_exprs, expr, if_stmt, Stmts, no_stmts, more_stmts}
use Rattle.spec.specs.Verdict.{is_type_function, is_plain, pure}
use Rattle.spec.specs.Pass.{Condition, const_condition, expr_condition, new_bool, nodes_of}
use Rattle.spec.specs.PassStmts.{one, is_empty, is_exit, is_terminal, join_stmts, extend, part_stmts, logic_stmts}
use Rattle.spec.specs.PassStmts.{call_stmts, expr_step, if_stays, if_stmt_left, if_stmt_step, expr_bounded}
use Rattle.spec.specs.PassStmts.{if_stmt_bounded, expr_stmts}

-- ---- a list behind another

join_assoc : (ss rs qs : Stmts) → join_stmts (join_stmts ss rs) qs ≡ join_stmts ss (join_stmts rs qs)
unfolding join_stmts
join_assoc no_stmts rs qs = refl
join_assoc (more_stmts s ss) rs qs = ap (λ (x : Stmts). more_stmts s x) (join_assoc ss rs qs)

pub join_last : (ss rs : Stmts) → is_terminal ss ≡ false → is_terminal (join_stmts ss rs) ≡ is_terminal rs
unfolding join_stmts is_terminal
join_last no_stmts rs e = refl
join_last (more_stmts s no_stmts) no_stmts e = e
join_last (more_stmts s no_stmts) (more_stmts r rs) e = refl
join_last (more_stmts s (more_stmts r ss)) rs e = join_last (more_stmts r ss) rs e

-- ---- extend, by whether the left exits

pub extend_exits : (ss rs : Stmts) → is_terminal ss ≡ true → extend ss rs ≡ ss
unfolding extend
extend_exits ss rs e = rw e

pub extend_joins : (ss rs : Stmts) → is_terminal ss ≡ false → extend ss rs ≡ join_stmts ss rs
unfolding extend
extend_joins ss rs e = rw e

pub extend_none : (rs : Stmts) → extend no_stmts rs ≡ rs
unfolding extend is_terminal join_stmts
extend_none rs = refl

pub extend_last : (ss rs : Stmts) → is_terminal ss ≡ false → is_terminal (extend ss rs) ≡ is_terminal rs
extend_last ss rs e = ap is_terminal (extend_joins ss rs e) ∙ join_last ss rs e

-- what stands ahead and does not exit may be put together first
pub extend_assoc : (ss rs qs : Stmts) → is_terminal ss ≡ false → extend (extend ss rs) qs ≡ extend ss (extend rs qs)
extend_assoc ss rs qs e = pick (is_terminal rs) refl
  where
    pick : (b : Bool) → is_terminal rs ≡ b → extend (extend ss rs) qs ≡ extend ss (extend rs qs)
    pick true t =
        extend_exits (extend ss rs) qs (extend_last ss rs e ∙ t)
        ∙ ap (λ (x : Stmts). extend ss x) (sym (extend_exits rs qs t))
    pick false t =
        extend_joins (extend ss rs) qs (extend_last ss rs e ∙ t)
        ∙ ap (λ (x : Stmts). join_stmts x qs) (extend_joins ss rs e)
        ∙ join_assoc ss rs qs
        ∙ sym (extend_joins ss (join_stmts rs qs) e)
        ∙ ap (λ (x : Stmts). extend ss x) (sym (extend_joins rs qs t))

-- ---- what is made of an expression

-- the last statement, if there is one, is no exit
abbrev Open : Stmts → Type 0
Open ss = is_terminal ss ≡ false

cond_open : (b : Bool) (ss rs : Stmts) → Open ss → Open rs → Open (cond b ss rs)
cond_open true ss rs p q = p
cond_open false ss rs p q = q

none_open : Open no_stmts
unfolding is_terminal
none_open = refl

expr_open : (e : Expr) → Open (one (expr e))
unfolding one is_terminal is_exit
expr_open e = refl

if_open : (e : Expr) (t f : Stmts) → Open (one (if_stmt e t f))
unfolding one is_terminal is_exit
if_open e t f = refl

extend_open : (ss rs : Stmts) → Open ss → Open rs → Open (extend ss rs)
extend_open ss rs p q = extend_last ss rs p ∙ q

-- one step of `expr` and if_stmt, where both do so of parts
module _ (more : Expr → Stmts) (moreIf : Expr → Stmts → Stmts → Stmts) (ih : (x : Expr) → Open (more x))
    (ihIf : (c : Expr) (t f : Stmts) → Open t → Open f → Open (moreIf c t f))
  where
    part_open : (before : Stmts) (es : Exprs) → Open before → Open (part_stmts more before es)
    unfolding part_stmts
    part_open before no_exprs p = p
    part_open before (more_exprs e es) p = part_open (extend before (more e)) es (extend_open before (more e) p (ih e))

    logic_open : (l : Logic) (x : Expr) (right : Stmts) → Open right → Open (logic_stmts moreIf l x right)
    unfolding logic_stmts
    logic_open and x right p = ihIf x right no_stmts p none_open
    logic_open or x right p = ihIf x no_stmts right none_open p

    call_open : (names : List ℕ) (args kwargs : Bool) (f : Expr) (es : Exprs)
        → Open (call_stmts more names args kwargs f es)
    unfolding call_stmts
    call_open names args kwargs f no_exprs = expr_open (call names args kwargs f no_exprs)
    call_open names args kwargs f (more_exprs e no_exprs) =
        cond_open (is_type_function f && is_plain names args kwargs) (more e)
        (one (expr (call names args kwargs f (more_exprs e no_exprs)))) (ih e)
        (expr_open (call names args kwargs f (more_exprs e no_exprs)))
    call_open names args kwargs f (more_exprs e (more_exprs x xs)) =
        expr_open (call names args kwargs f (more_exprs e (more_exprs x xs)))

    step_open : (e : Expr) → Open (expr_step more moreIf e)
    unfolding expr_step
    step_open (fresh f es) = part_open no_stmts es none_open
    step_open (not e) = ih e
    step_open (type_is t e) = ih e
    step_open (logic l x y) = logic_open l x (more y) (ih y)
    step_open (call names args kwargs f es) = call_open names args kwargs f es
    step_open e = expr_open e

    stays_open : (e : Expr) (t f : Stmts) → Open (if_stays more e t f)
    unfolding if_stays
    stays_open e t f = cond_open (is_empty t && is_empty f) (more e) (one (if_stmt e t f)) (ih e) (if_open e t f)

    left_open : (e : Expr) (t f : Stmts) → Open t → Open f → Open (if_stmt_left more moreIf e t f)
    unfolding if_stmt_left
    left_open (not e) t f p q = ihIf e f t q p
    left_open (seq x e) t f p q = extend_open (more x) (moreIf e t f) (ih x) (ihIf e t f p q)
    left_open e t f p q = stays_open e t f

    if_step_open : (s : Condition) (t f : Stmts) → Open t → Open f → Open (if_stmt_step more moreIf s t f)
    unfolding if_stmt_step
    if_step_open (const_condition b) t f p q = cond_open b t f p q
    if_step_open (expr_condition e) t f p q = left_open e t f p q

-- at every bound
mutual
  unfolding expr_bounded

  expr_bounded_open : (n : ℕ) (e : Expr) → Open (expr_bounded n e)
  expr_bounded_open zero e = expr_open e
  expr_bounded_open (suc n) e =
      cond_open (pure e) no_stmts (expr_step (λ x. expr_bounded n x) (λ c t f. if_stmt_bounded n c t f) e) none_open
      (step_open (λ x. expr_bounded n x) (λ c t f. if_stmt_bounded n c t f) (λ x. expr_bounded_open n x)
      (λ c t f p q. if_bounded_open n c t f p q) e)

  if_bounded_open : (n : ℕ) (c : Expr) (t f : Stmts) → Open t → Open f → Open (if_stmt_bounded n c t f)
  if_bounded_open zero c t f p q = if_open c t f
  if_bounded_open (suc n) c t f p q =
      if_step_open (λ x. expr_bounded n x) (λ d x y. if_stmt_bounded n d x y) (λ x. expr_bounded_open n x)
      (λ d x y r s. if_bounded_open n d x y r s) (new_bool c) t f p q

pub expr_stmts_exit : (e : Expr) → is_terminal (expr_stmts e) ≡ false
unfolding expr_stmts
expr_stmts_exit e = expr_bounded_open (nodes_of e + nodes_of e) e
