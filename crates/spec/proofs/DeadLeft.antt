-- Wrong passes that leave something dead standing (document 02, 2.7). Each is the pass with one of its parts exchanged,
-- and has rules in whose pruned form nothing is dead, while something dead is left in what the wrong pass makes of
-- them; both are computed. `own_pass`: with its own parts it is the pass.
-- Assumes nothing.
use mathlib.Core.Bool.{Bool, true, false, cond}
use mathlib.Core.Path.{◌≡◌, refl, ap, ap₂, ◌∙◌, fun_ext}
use Prim.Native.Nat.{ℕ, zero, suc, ◌+◌}
use Rattle.spec.specs.Tree
use Rattle.spec.specs.Tree.{and, Expr, logic, seq, Target}
use Rattle.spec.specs.Tree.{Stmt, possible_gc, break, continue, return, expr, assign, assign_modify, if_stmt, for}
use Rattle.spec.specs.Tree.{Stmts, no_stmts, more_stmts}
use Rattle.spec.specs.Verdict.{pure}
use Rattle.spec.specs.Pass.{Condition, const_condition, expr_condition, new_bool, nodes_of}
use Rattle.spec.specs.Pass.{optimize_expr, optimize_target}
use Rattle.spec.specs.PassStmts.{one, is_terminal, join_stmts, extend, expr_step, if_stays, if_stmt_left, if_stmt_step}
use Rattle.spec.specs.PassStmts.{expr_bounded, if_stmt_bounded, expr_stmts, if_stmts, for_stmts}
use Rattle.spec.specs.PassStmts.{optimize_stmt, optimize_behind, optimize}
use Rattle.spec.specs.NothingDead.{is_not_or_seq, nothing_dead}
use Rattle.spec.specs.Cases.{a_local, a_true, a_false, no_list, call_a, single, double, arm_a, loop_over}
use Rattle.spec.specs.Cases.{if_local, loop_local}
use Rattle.spec.proofs.Exits.{extend_exits}
use Rattle.spec.proofs.Computing.{computing_cases}

-- ---- the pass, by its parts

-- where a list stands: it is the rule's own, or an arm or a loop's body in a list
data Where : Type 0 where
  outermost : Where
  in_arm in_body : Where → Where

-- the parts that may be exchanged: how a list goes on; which expression statements are dropped, by where they stand;
-- what is made of an If whose condition, simplified, is no constant; what becomes of a loop.
-- Here a list goes on by `extend` alone: it drops what stands behind an exit, so that leaving the list there changes
-- nothing. Where the statements of one expression are put together, `extend` never meets an exit (Exits.antt).
record Parts : Type 0 where
  goes_on : Stmts → Stmts → Stmts
  drops : Where → Expr → Bool
  settles : (Expr → Stmts) → (Expr → Stmts → Stmts → Stmts) → Expr → Stmts → Stmts → Stmts
  loops : Target → Expr → Stmts → Stmts

-- the pass's own
abbrev own : Parts
own = record { goes_on = extend; drops = λ place e. pure e; settles = if_stmt_left; loops = for_stmts }

module _ (parts : Parts) where
  -- if_stmt of a simplified condition
  abbrev if_by : (Expr → Stmts) → (Expr → Stmts → Stmts → Stmts) → Condition → Stmts → Stmts → Stmts
  if_by more moreIf (const_condition b) t f = cond b t f
  if_by more moreIf (expr_condition e) t f = parts.settles more moreIf e t f

  abbrev mutual
    expr_at : Where → ℕ → Expr → Stmts
    expr_at place zero e = one (expr e)
    expr_at place (suc n) e =
        cond (parts.drops place e) no_stmts (expr_step (λ x. expr_at place n x) (λ c t f. if_at place n c t f) e)

    if_at : Where → ℕ → Expr → Stmts → Stmts → Stmts
    if_at place zero c t f = one (if_stmt c t f)
    if_at place (suc n) c t f =
        if_by (λ x. expr_at place n x) (λ d x y. if_at place n d x y) (new_bool c) t f

  abbrev mutual
    stmt_at : Where → Stmt → Stmts
    stmt_at place possible_gc = one possible_gc
    stmt_at place break = one break
    stmt_at place continue = one continue
    stmt_at place (return e) = one (return (optimize_expr e))
    stmt_at place (expr e) = expr_at place (nodes_of (optimize_expr e) + nodes_of (optimize_expr e)) (optimize_expr e)
    stmt_at place (assign w t e) = one (assign w (optimize_target t) (optimize_expr e))
    stmt_at place (assign_modify op t e) = one (assign_modify op (optimize_target t) (optimize_expr e))
    stmt_at place (if_stmt c t f) =
        if_at place (suc (nodes_of (optimize_expr c) + nodes_of (optimize_expr c))) (optimize_expr c)
        (list_at (in_arm place) t no_stmts) (list_at (in_arm place) f no_stmts)
    stmt_at place (for t e b) =
        parts.loops (optimize_target t) (optimize_expr e) (list_at (in_body place) b no_stmts)

    -- the rest of a list, behind what is made already
    list_at : Where → Stmts → Stmts → Stmts
    list_at place no_stmts before = before
    list_at place (more_stmts s ss) before = list_at place ss (parts.goes_on before (stmt_at place s))

  abbrev pass : Stmts → Stmts
  pass ss = list_at outermost ss no_stmts

-- ---- with its own parts it is the pass

if_by_own : (more : Expr → Stmts) (moreIf : Expr → Stmts → Stmts → Stmts) (s : Condition) (t f : Stmts)
    → if_by own more moreIf s t f ≡ if_stmt_step more moreIf s t f
unfolding if_stmt_step
if_by_own more moreIf (const_condition b) t f = refl
if_by_own more moreIf (expr_condition e) t f = refl

mutual
  unfolding expr_bounded

  expr_own : (place : Where) (n : ℕ) (e : Expr) → expr_at own place n e ≡ expr_bounded n e
  expr_own place zero e = refl
  expr_own place (suc n) e =
      ap₂ (λ (more : Expr → Stmts) (moreIf : Expr → Stmts → Stmts → Stmts).
      cond (pure e) no_stmts (expr_step more moreIf e))
      (fun_ext (λ x. expr_own place n x)) (fun_ext (λ c. fun_ext (λ t. fun_ext (λ f. if_own place n c t f))))

  if_own : (place : Where) (n : ℕ) (c : Expr) (t f : Stmts) → if_at own place n c t f ≡ if_stmt_bounded n c t f
  if_own place zero c t f = refl
  if_own place (suc n) c t f =
      if_by_own (λ x. expr_at own place n x) (λ d x y. if_at own place n d x y) (new_bool c) t f
      ∙ ap₂ (λ (more : Expr → Stmts) (moreIf : Expr → Stmts → Stmts → Stmts).
      if_stmt_step more moreIf (new_bool c) t f)
      (fun_ext (λ x. expr_own place n x)) (fun_ext (λ d. fun_ext (λ x. fun_ext (λ y. if_own place n d x y))))

-- behind an exit the pass leaves its list
behind_exit : (ss before : Stmts) → is_terminal before ≡ true → optimize_behind ss before ≡ before
unfolding optimize_behind
behind_exit no_stmts before e = refl
behind_exit (more_stmts s ss) before e = rw e

-- one statement more, where the rest of the list is made as the pass makes it
next_own : (place : Where) (s : Stmt) (ss before : Stmts) (exits : Bool) → is_terminal before ≡ exits
    → stmt_at own place s ≡ optimize_stmt s
    → ((made : Stmts) → list_at own place ss made ≡ optimize_behind ss made)
    → list_at own place ss (extend before (stmt_at own place s)) ≡ optimize_behind (more_stmts s ss) before
unfolding optimize_behind
next_own place s ss before true e p rest =
    ap (λ (x : Stmts). list_at own place ss x) (extend_exits before (stmt_at own place s) e)
    ∙ rest before
    ∙ behind_exit ss before e
    ∙ rw e
next_own place s ss before false e p rest =
    ap (λ (x : Stmts). list_at own place ss (extend before x)) p
    ∙ rest (extend before (optimize_stmt s))
    ∙ rw e

mutual
  unfolding optimize_stmt expr_stmts if_stmts

  stmt_own : (place : Where) (s : Stmt) → stmt_at own place s ≡ optimize_stmt s
  stmt_own place (expr e) = expr_own place (nodes_of (optimize_expr e) + nodes_of (optimize_expr e)) (optimize_expr e)
  stmt_own place (if_stmt c t f) =
      if_own place (suc (nodes_of (optimize_expr c) + nodes_of (optimize_expr c))) (optimize_expr c)
      (list_at own (in_arm place) t no_stmts) (list_at own (in_arm place) f no_stmts)
      ∙ ap₂ (λ (x y : Stmts). if_stmts (optimize_expr c) x y) (list_own (in_arm place) t no_stmts)
      (list_own (in_arm place) f no_stmts)
  stmt_own place (for t e b) =
      ap (λ (x : Stmts). for_stmts (optimize_target t) (optimize_expr e) x) (list_own (in_body place) b no_stmts)
  stmt_own place s = refl

  list_own : (place : Where) (ss before : Stmts) → list_at own place ss before ≡ optimize_behind ss before
  list_own place no_stmts before = refl
  list_own place (more_stmts s ss) before =
      next_own place s ss before (is_terminal before) refl (stmt_own place s) (λ made. list_own place ss made)

own_pass : (ss : Stmts) → pass own ss ≡ optimize ss
unfolding optimize
own_pass ss = list_own outermost ss no_stmts

-- ---- wrong passes

-- nothing is dead in the pruned rule, and something is in what the wrong pass makes of the rule
abbrev Leaves : Parts → Stmts → Type 0
Leaves parts rule = (nothing_dead (optimize rule) ≡ true) × (nothing_dead (pass parts rule) ≡ false)

-- `extend` goes on behind an exit
abbrev passes_exits : Parts
passes_exits = record { goes_on = join_stmts; drops = own.drops; settles = own.settles; loops = own.loops }

left_behind_exits : Leaves passes_exits (double break (expr call_a))
    × Leaves passes_exits (double continue (expr call_a)) × Leaves passes_exits (double (return call_a) (expr call_a))
unfolding computing_cases
left_behind_exits = ((refl, refl), (refl, refl), (refl, refl))

-- a pure statement is kept
abbrev keeps_pure : Parts
keeps_pure =
    record { goes_on = own.goes_on; drops = λ place e. false; settles = own.settles; loops = own.loops }

left_pure : Leaves keeps_pure (single (expr a_true))
unfolding computing_cases
left_pure = (refl, refl)

-- it is kept in the body of a loop that stands in an arm, and nowhere else
abbrev drops_outside : Where → Expr → Bool
drops_outside outermost e = pure e
drops_outside (in_arm place) e = pure e
drops_outside (in_body outermost) e = pure e
drops_outside (in_body (in_arm place)) e = false
drops_outside (in_body (in_body place)) e = pure e

abbrev keeps_pure_inside : Parts
keeps_pure_inside =
    record { goes_on = own.goes_on; drops = drops_outside; settles = own.settles; loops = own.loops }

left_pure_inside : Leaves keeps_pure_inside (if_local (loop_local (single (expr a_true))) no_stmts)
    × (nothing_dead (pass keeps_pure_inside (if_local (single (expr a_true)) no_stmts)) ≡ true)
    × (nothing_dead (pass keeps_pure_inside (loop_local (single (expr a_true)))) ≡ true)
unfolding computing_cases
left_pure_inside = ((refl, refl), refl, refl)

-- an If with both arms empty is kept
abbrev with_empty_arms : (Expr → Stmts) → (Expr → Stmts → Stmts → Stmts) → Expr → Stmts → Stmts → Stmts
with_empty_arms more moreIf e t f = cond (is_not_or_seq e) (if_stmt_left more moreIf e t f) (one (if_stmt e t f))

abbrev keeps_empty_if : Parts
keeps_empty_if = record { goes_on = own.goes_on; drops = own.drops; settles = with_empty_arms; loops = own.loops }

left_empty_if : Leaves keeps_empty_if (if_local no_stmts no_stmts)
unfolding computing_cases
left_empty_if = (refl, refl)

-- Not is not taken off
abbrev with_not : (Expr → Stmts) → (Expr → Stmts → Stmts → Stmts) → Expr → Stmts → Stmts → Stmts
with_not more moreIf (Tree.not e) t f = if_stays more (Tree.not e) t f
with_not more moreIf e t f = if_stmt_left more moreIf e t f

abbrev keeps_not : Parts
keeps_not = record { goes_on = own.goes_on; drops = own.drops; settles = with_not; loops = own.loops }

left_not : Leaves keeps_not (single (if_stmt (Tree.not a_local) arm_a no_stmts))
unfolding computing_cases
left_not = (refl, refl)

-- a Seq is kept as a condition: that of And(L,False), and one that the rule has
abbrev with_seq : (Expr → Stmts) → (Expr → Stmts → Stmts → Stmts) → Expr → Stmts → Stmts → Stmts
with_seq more moreIf (seq p e) t f = if_stays more (seq p e) t f
with_seq more moreIf e t f = if_stmt_left more moreIf e t f

abbrev keeps_seq : Parts
keeps_seq = record { goes_on = own.goes_on; drops = own.drops; settles = with_seq; loops = own.loops }

left_seq : Leaves keeps_seq (single (if_stmt (logic and a_local a_false) arm_a no_stmts))
    × Leaves keeps_seq (single (if_stmt (seq call_a a_local) arm_a no_stmts))
unfolding computing_cases
left_seq = ((refl, refl), (refl, refl))

-- a loop over an empty iterable is kept
abbrev keeps_empty_loop : Parts
keeps_empty_loop =
    record { goes_on = own.goes_on; drops = own.drops; settles = own.settles; loops = λ x e b. one (for x e b) }

left_empty_loop : Leaves keeps_empty_loop (single (loop_over no_list))
unfolding computing_cases
left_empty_loop = (refl, refl)
