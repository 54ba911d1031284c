-- Pruning statements changes nothing of their run: extend, expr_stmts, if_stmts, for_stmts, and the pass over a list.
-- Assumes nothing.
use mathlib.Core.Path.{◌≡◌, refl, sym, ap, ap₂, ◌∙◌, fun_ext}
use mathlib.Core.Bool.{Bool, true, false, not, cond, ◌&&◌}
use mathlib.Core.List.{List}
use Prim.Native.Nat.{ℕ, zero, suc, ◌+◌}
use lib.Dec.{eqb}
use Rattle.spec.specs.Tree
use Rattle.spec.specs.Tree.{boolean, string, Fresh, Logic, and, or}
use Rattle.spec.specs.Tree.{Expr, const, read, fresh, dict, if_then, type_is, logic, seq, oper, call}
use Rattle.spec.specs.Tree.{Exprs, no_exprs, more_exprs, Target}
use Rattle.spec.specs.Tree.{Stmt, possible_gc, break, continue, return, expr, assign, assign_modify, if_stmt, for}
use Rattle.spec.specs.Tree.{Stmts, no_stmts, more_stmts}
use Rattle.spec.specs.Verdict.{is_type_function, is_plain, pure, empty_iterable}
use Rattle.spec.specs.Value.{Shape, shape, Operation, assign_op, modify_op, round_op, take_op, Value, constant}
use Rattle.spec.specs.Value.{no_values, more_values, Choice, join_values, value_truth, value_type, value_empty}
use Rattle.spec.specs.Value.{rounds_of}
use Rattle.spec.specs.Running.{Step, next, give, bind, started, make, decides, Flow, normal, broke, continued}
use Rattle.spec.specs.Running.{returned, then, loop, perform, test, run, runs, start_loop, assigned, round}
use Rattle.spec.specs.Running.{run_stmt, run_stmts}
use Rattle.spec.specs.Pass.{Condition, const_condition, expr_condition, new_bool, nodes_of, optimize_expr}
use Rattle.spec.specs.Pass.{optimize_target}
use Rattle.spec.specs.PassStmts.{one, is_empty, is_exit, is_terminal, join_stmts, extend, part_stmts, logic_stmts}
use Rattle.spec.specs.PassStmts.{call_stmts, expr_step, if_stays, if_stmt_left, if_stmt_step, expr_bounded}
use Rattle.spec.specs.PassStmts.{if_stmt_bounded}
use Rattle.spec.specs.PassStmts.{expr_stmts, if_stmts, for_stmts, optimize_stmt, optimize_behind, optimize}
use Rattle.spec.proofs.Outcomes.{both}
use Rattle.spec.proofs.Steps.{bind_give, give_bind, bind_ext, bind_to, bind_both, bind_assoc, Quiet, quiet_give}
use Rattle.spec.proofs.Steps.{bind_at, quiet_drop, test_bind}
use Rattle.spec.proofs.Quiet.{empty_no_string, quiet_make, text_of, type_call_lem, pure_quiet}
use Rattle.spec.proofs.Quiet.{empty_right}
use Rattle.spec.proofs.PreservedExprs.{tested, new_bool_right, test_swap, test_seq, optimize_expr_right}
use Rattle.spec.proofs.PreservedExprs.{optimize_target_right, shape_right}

-- ---- flows

-- one list of statements, then another
unfoldable pub follow : Step Flow → Step Flow → Step Flow
follow m n = bind m (λ f. then f n)

-- a step for its effect alone
unfoldable pub effect : {A : Type 0} → Step A → Step Flow
effect m = bind m (λ a. give normal)

-- nothing to follow
then_give : (f : Flow) → then f (give normal) ≡ give f
unfolding then
then_give normal = refl
then_give _ = refl

follow_end : (m : Step Flow) → follow m (give normal) ≡ m
unfolding follow
follow_end m = bind_ext m then_give ∙ bind_give m

-- nothing to be followed
follow_normal : (n : Step Flow) → follow (give normal) n ≡ n
unfolding follow then
follow_normal n = give_bind normal (λ f. then f n)

-- three lists in a row
then_follow : (f : Flow) (m n : Step Flow) → follow (then f m) n ≡ then f (follow m n)
unfolding follow then
then_follow normal m n = refl
then_follow e m n = give_bind e (λ f. then f n)

follow_assoc : (m n k : Step Flow) → follow (follow m n) k ≡ follow m (follow n k)
unfolding follow
follow_assoc m n k = bind_assoc m (λ f. then f n) (λ f. then f k) ∙ bind_ext m (λ f. then_follow f n k)

-- equal steps in one place
then_ext : (f : Flow) {m n : Step Flow} → m ≡ n → then f m ≡ then f n
then_ext f e = ap (λ (m : Step Flow). then f m) e

follow_to : {m n : Step Flow} (k : Step Flow) → m ≡ n → follow m k ≡ follow n k
follow_to k e = ap (λ (m : Step Flow). follow m k) e

follow_ext : (m : Step Flow) {n k : Step Flow} → n ≡ k → follow m n ≡ follow m k
follow_ext m e = ap (λ (n : Step Flow). follow m n) e

-- an effect, and what follows
effect_follow : {A : Type 0} (m : Step A) (n : Step Flow) → follow (effect m) n ≡ bind m (λ a. n)
unfolding effect follow
effect_follow m n = bind_assoc m (λ a. give normal) (λ f. then f n) ∙ bind_ext m (λ a. follow_normal n)

effect_bind : {A B : Type 0} (m : Step A) (k : A → Step B) → effect (bind m k) ≡ bind m (λ a. effect (k a))
unfolding effect
effect_bind m k = bind_assoc m k (λ b. give normal)

-- a quiet step has none, so steps that end in quiet ones have the effect of what is before
effect_quiet : {A : Type 0} (m : Step A) → Quiet m → effect m ≡ give normal
unfolding effect
effect_quiet m q = quiet_drop m (give normal) q

effect_tail : {A B : Type 0} (m : Step A) (k : A → Step B) → ((a : A) → Quiet (k a)) → effect (bind m k) ≡ effect m
unfolding effect
effect_tail m k q = effect_bind m k ∙ bind_ext m (λ a. effect_quiet (k a) (q a))

module _ (C : Choice) where
  -- ---- lists

  -- no statement, one, one of two lists, one list behind another
  run_none : run_stmts C no_stmts ≡ give normal
  unfolding run_stmt
  run_none = refl

  one_right : (s : Stmt) → run_stmts C (one s) ≡ run_stmt C s
  unfolding one run_stmt follow
  one_right s = follow_end (run_stmt C s)

  stmts_cond : (b : Bool) (x y : Stmts) → run_stmts C (cond b x y) ≡ cond b (run_stmts C x) (run_stmts C y)
  stmts_cond true x y = refl
  stmts_cond false x y = refl

  join_right : (ss rs : Stmts) → run_stmts C (join_stmts ss rs) ≡ follow (run_stmts C ss) (run_stmts C rs)
  unfolding join_stmts run_stmt follow
  join_right no_stmts rs = sym (follow_normal (run_stmts C rs))
  join_right (more_stmts s ss) rs =
      bind_ext (run_stmt C s) (λ f. then_ext f (join_right ss rs))
      ∙ sym (follow_assoc (run_stmt C s) (run_stmts C ss) (run_stmts C rs))

  -- what follows a list that ends in Break, Continue or Return is not run
  exit_right : (s : Stmt) (n : Step Flow) → is_exit s ≡ true → follow (run_stmt C s) n ≡ run_stmt C s
  unfolding is_exit run_stmt follow then
  exit_right break n e = give_bind broke (λ f. then f n)
  exit_right continue n e = give_bind continued (λ f. then f n)
  exit_right (return x) n e =
      bind_assoc (run C x) (λ v. give (returned v)) (λ f. then f n)
      ∙ bind_ext (run C x) (λ v. give_bind (returned v) (λ f. then f n))
  exit_right _ n e = cc

  terminal_more : (s : Stmt) (ss : Stmts) (n : Step Flow) → follow (run_stmts C ss) n ≡ run_stmts C ss
      → follow (run_stmts C (more_stmts s ss)) n ≡ run_stmts C (more_stmts s ss)
  unfolding run_stmt follow
  terminal_more s ss n e =
      follow_assoc (run_stmt C s) (run_stmts C ss) n ∙ bind_ext (run_stmt C s) (λ f. then_ext f e)

  terminal_right : (ss : Stmts) (n : Step Flow) → is_terminal ss ≡ true → follow (run_stmts C ss) n ≡ run_stmts C ss
  unfolding is_terminal one
  terminal_right no_stmts n e = cc
  terminal_right (more_stmts s no_stmts) n e = follow_to n (one_right s) ∙ exit_right s n e ∙ sym (one_right s)
  terminal_right (more_stmts s (more_stmts r rs)) n e =
      terminal_more s (more_stmts r rs) n (terminal_right (more_stmts r rs) n e)

  -- extend
  extend_pick : (d : Bool) (ss rs : Stmts) → is_terminal ss ≡ d
      → run_stmts C (cond d ss (join_stmts ss rs)) ≡ follow (run_stmts C ss) (run_stmts C rs)
  extend_pick true ss rs e = sym (terminal_right ss (run_stmts C rs) e)
  extend_pick false ss rs e = join_right ss rs

  pub extend_right : (ss rs : Stmts) → run_stmts C (extend ss rs) ≡ follow (run_stmts C ss) (run_stmts C rs)
  unfolding extend
  extend_right ss rs = extend_pick (is_terminal ss) ss rs refl

  -- ---- effects of expressions

  -- a test, a list or tuple, Not and TypeIs have their parts'
  effect_test : (m : Step Value) → effect (test C m) ≡ effect m
  unfolding test
  effect_test m = effect_tail m (λ v. give (value_truth C v)) (λ v. quiet_give (value_truth C v))

  effect_fresh : (f : Fresh) (es : Exprs) → effect (run C (fresh f es)) ≡ effect (runs C es)
  unfolding run
  effect_fresh f es = effect_tail (runs C es) (λ vs. make f vs) (λ vs. quiet_make f vs)

  effect_not : (e : Expr) → effect (run C (Tree.not e)) ≡ effect (run C e)
  unfolding run
  effect_not e =
      effect_tail (test C (run C e)) (λ b. give (constant (boolean (not b))))
      (λ b. quiet_give (constant (boolean (not b))))
      ∙ effect_test (run C e)

  effect_type_is : (t : ℕ) (e : Expr) → effect (run C (type_is t e)) ≡ effect (run C e)
  unfolding run
  effect_type_is t e =
      effect_tail (run C e) (λ v. give (constant (boolean (eqb (value_type C v) t))))
      (λ v. quiet_give (constant (boolean (eqb (value_type C v) t))))

  -- a type call has its argument's
  effect_type : (names : List ℕ) (args kwargs : Bool) (f e : Expr)
      → is_type_function f && is_plain names args kwargs ≡ true
      → effect (run C (call names args kwargs f (more_exprs e no_exprs))) ≡ effect (run C e)
  effect_type names args kwargs f e p =
      ap (λ (m : Step Value). effect m)
      (type_call_lem C names args kwargs (both (is_type_function f) (is_plain names args kwargs) p).1 f e
      (both (is_type_function f) (is_plain names args kwargs) p).0)
      ∙ effect_tail (run C e) (text_of C) (λ v. quiet_give (constant (string (value_type C v))))

  -- parts in order
  effect_none : effect (runs C no_exprs) ≡ give normal
  unfolding run
  effect_none = effect_quiet (give no_values) (quiet_give no_values)

  effect_more : (e : Expr) (es : Exprs)
      → effect (runs C (more_exprs e es)) ≡ follow (effect (run C e)) (effect (runs C es))
  unfolding run
  effect_more e es =
      effect_bind (run C e) (λ v. bind (runs C es) (λ vs. give (more_values v vs)))
      ∙ bind_ext (run C e)
      (λ v. effect_tail (runs C es) (λ vs. give (more_values v vs)) (λ vs. quiet_give (more_values v vs)))
      ∙ sym (effect_follow (run C e) (effect (runs C es)))

  -- And and Or
  effect_pick : (d : Bool) (v : Value) (m : Step Value) → effect (cond d (give v) m) ≡ cond d (give normal) (effect m)
  effect_pick true v m = effect_quiet (give v) (quiet_give v)
  effect_pick false v m = refl

  effect_logic : (l : Logic) (x y : Expr)
      → effect (run C (logic l x y))
      ≡ bind (test C (run C x)) (λ b. cond (decides l b) (give normal) (effect (run C y)))
  unfolding run
  effect_logic l x y =
      effect_bind (run C x) (λ v. cond (decides l (value_truth C v)) (give v) (run C y))
      ∙ bind_ext (run C x) (λ v. effect_pick (decides l (value_truth C v)) v (run C y))
      ∙ sym (test_bind C (run C x) (λ b. cond (decides l b) (give normal) (effect (run C y))))

  -- ---- expression statements and if statements

  -- an expression statement that stays
  expr_right : (e : Expr) → run_stmts C (one (expr e)) ≡ effect (run C e)
  unfolding run_stmt effect
  expr_right e = one_right (expr e)

  -- an If's run, by its arms'
  abbrev pub branch : Expr → Step Flow → Step Flow → Step Flow
  branch c m n = bind (test C (run C c)) (λ b. cond b m n)

  if_one_right : (c : Expr) (t f : Stmts) → run_stmts C (one (if_stmt c t f)) ≡ branch c (run_stmts C t) (run_stmts C f)
  unfolding run_stmt
  if_one_right c t f = one_right (if_stmt c t f)

  -- with both arms empty
  cond_same : (b : Bool) (m : Step Flow) → cond b m m ≡ m
  cond_same true m = refl
  cond_same false m = refl

  empty_run : (ss : Stmts) → is_empty ss ≡ true → run_stmts C ss ≡ give normal
  unfolding is_empty
  empty_run no_stmts e = run_none
  empty_run (more_stmts s ss) e = cc

  branch_empty : (e : Expr) (t f : Stmts) → is_empty t ≡ true → is_empty f ≡ true
      → branch e (run_stmts C t) (run_stmts C f) ≡ effect (run C e)
  unfolding effect
  branch_empty e t f p q =
      bind_ext (test C (run C e))
      (λ b. ap₂ (λ (m n : Step Flow). cond b m n) (empty_run t p) (empty_run f q) ∙ cond_same b (give normal))
      ∙ effect_test (run C e)

  -- one step, where expr and if_stmt of something smaller run as they should
  module _ (more : Expr → Stmts) (moreIf : Expr → Stmts → Stmts → Stmts)
      (right : (e : Expr) → run_stmts C (more e) ≡ effect (run C e))
      (rightIf : (c : Expr) (t f : Stmts) → run_stmts C (moreIf c t f) ≡ branch c (run_stmts C t) (run_stmts C f)) where
    -- the parts of a list or tuple
    parts_right : (before : Stmts) (es : Exprs)
        → run_stmts C (part_stmts more before es) ≡ follow (run_stmts C before) (effect (runs C es))
    unfolding part_stmts
    parts_right before no_exprs =
        sym (follow_ext (run_stmts C before) effect_none ∙ follow_end (run_stmts C before))
    parts_right before (more_exprs e es) =
        parts_right (extend before (more e)) es
        ∙ follow_to (effect (runs C es)) (extend_right before (more e) ∙ follow_ext (run_stmts C before) (right e))
        ∙ follow_assoc (run_stmts C before) (effect (run C e)) (effect (runs C es))
        ∙ follow_ext (run_stmts C before) (sym (effect_more e es))

    -- And and Or
    and_arms : (b : Bool) (y : Expr)
        → cond b (run_stmts C (more y)) (run_stmts C no_stmts) ≡ cond (decides and b) (give normal) (effect (run C y))
    unfolding decides
    and_arms true y = right y
    and_arms false y = run_none

    or_arms : (b : Bool) (y : Expr)
        → cond b (run_stmts C no_stmts) (run_stmts C (more y)) ≡ cond (decides or b) (give normal) (effect (run C y))
    unfolding decides
    or_arms true y = run_none
    or_arms false y = right y

    logic_right : (l : Logic) (x y : Expr)
        → run_stmts C (logic_stmts moreIf l x (more y)) ≡ effect (run C (logic l x y))
    unfolding logic_stmts
    logic_right and x y =
        rightIf x (more y) no_stmts ∙ bind_ext (test C (run C x)) (λ b. and_arms b y) ∙ sym (effect_logic and x y)
    logic_right or x y =
        rightIf x no_stmts (more y) ∙ bind_ext (test C (run C x)) (λ b. or_arms b y) ∙ sym (effect_logic or x y)

    -- calls
    module _ (names : List ℕ) (args kwargs : Bool) where
      call_pick : (b : Bool) (f e : Expr) → is_type_function f && is_plain names args kwargs ≡ b
          → run_stmts C (cond b (more e) (one (expr (call names args kwargs f (more_exprs e no_exprs)))))
          ≡ effect (run C (call names args kwargs f (more_exprs e no_exprs)))
      call_pick true f e p = right e ∙ sym (effect_type names args kwargs f e p)
      call_pick false f e p = expr_right (call names args kwargs f (more_exprs e no_exprs))

      call_right : (f : Expr) (es : Exprs)
          → run_stmts C (call_stmts more names args kwargs f es) ≡ effect (run C (call names args kwargs f es))
      unfolding call_stmts
      call_right f no_exprs = expr_right (call names args kwargs f no_exprs)
      call_right f (more_exprs e no_exprs) = call_pick (is_type_function f && is_plain names args kwargs) f e refl
      call_right f (more_exprs e (more_exprs x xs)) = expr_right
          (call names args kwargs f (more_exprs e (more_exprs x xs)))

    -- an expression statement that is not pure
    expr_step_lem : (e : Expr) → run_stmts C (expr_step more moreIf e) ≡ effect (run C e)
    unfolding expr_step
    expr_step_lem (fresh f es) =
        parts_right no_stmts es ∙ follow_to (effect (runs C es)) run_none ∙ follow_normal (effect (runs C es))
        ∙ sym (effect_fresh f es)
    expr_step_lem (Tree.not e) = right e ∙ sym (effect_not e)
    expr_step_lem (type_is t e) = right e ∙ sym (effect_type_is t e)
    expr_step_lem (logic l x y) = logic_right l x y
    expr_step_lem (call names args kwargs f es) = call_right names args kwargs f es
    expr_step_lem e = expr_right e

    -- an If that stays, or becomes its condition
    stays_pick : (e : Expr) (t f : Stmts) (b : Bool) → is_empty t && is_empty f ≡ b
        → run_stmts C (cond b (more e) (one (if_stmt e t f))) ≡ branch e (run_stmts C t) (run_stmts C f)
    stays_pick e t f true p =
        right e ∙ sym (branch_empty e t f (both (is_empty t) (is_empty f) p).0
        (both (is_empty t) (is_empty f) p).1)
    stays_pick e t f false p = if_one_right e t f

    stays_right : (e : Expr) (t f : Stmts)
        → run_stmts C (if_stays more e t f) ≡ branch e (run_stmts C t) (run_stmts C f)
    unfolding if_stays
    stays_right e t f = stays_pick e t f (is_empty t && is_empty f) refl

    -- what is left of a condition
    if_left_lem : (e : Expr) (t f : Stmts)
        → run_stmts C (if_stmt_left more moreIf e t f) ≡ branch e (run_stmts C t) (run_stmts C f)
    unfolding if_stmt_left
    if_left_lem (Tree.not e) t f = rightIf e f t ∙ sym (test_swap C e (run_stmts C t) (run_stmts C f))
    if_left_lem (seq p e) t f =
        extend_right (more p) (moreIf e t f)
        ∙ ap₂ (λ (m n : Step Flow). follow m n) (right p) (rightIf e t f)
        ∙ effect_follow (run C p) (branch e (run_stmts C t) (run_stmts C f))
        ∙ sym (test_seq C p e (λ b. cond b (run_stmts C t) (run_stmts C f)))
    if_left_lem e t f = stays_right e t f

    if_step_lem : (c : Condition) (t f : Stmts)
        → run_stmts C (if_stmt_step more moreIf c t f) ≡ bind (tested C c) (λ b. cond b (run_stmts C t) (run_stmts C f))
    unfolding if_stmt_step tested
    if_step_lem (const_condition b) t f =
        stmts_cond b t f ∙ sym (give_bind b (λ c. cond c (run_stmts C t) (run_stmts C f)))
    if_step_lem (expr_condition e) t f = if_left_lem e t f

  -- at every bound
  pure_pick : (b : Bool) (e : Expr) (ss : Stmts) → pure e ≡ b → run_stmts C ss ≡ effect (run C e)
      → run_stmts C (cond b no_stmts ss) ≡ effect (run C e)
  pure_pick true e ss p q = run_none ∙ sym (effect_quiet (run C e) (pure_quiet C e p))
  pure_pick false e ss p q = q

  mutual
    unfolding expr_bounded

    expr_bounded_lem : (n : ℕ) (e : Expr) → run_stmts C (expr_bounded n e) ≡ effect (run C e)
    expr_bounded_lem zero e = expr_right e
    expr_bounded_lem (suc n) e =
        pure_pick (pure e) e (expr_step (λ x. expr_bounded n x) (λ c t f. if_stmt_bounded n c t f) e) refl
        (expr_step_lem (λ x. expr_bounded n x) (λ c t f. if_stmt_bounded n c t f) (λ x. expr_bounded_lem n x)
        (λ c t f. if_bounded_lem n c t f) e)

    if_bounded_lem : (n : ℕ) (c : Expr) (t f : Stmts)
        → run_stmts C (if_stmt_bounded n c t f) ≡ branch c (run_stmts C t) (run_stmts C f)
    if_bounded_lem zero c t f = if_one_right c t f
    if_bounded_lem (suc n) c t f =
        if_step_lem (λ x. expr_bounded n x) (λ d x y. if_stmt_bounded n d x y) (λ x. expr_bounded_lem n x)
        (λ d x y. if_bounded_lem n d x y) (new_bool c) t f
        ∙ bind_to (λ b. cond b (run_stmts C t) (run_stmts C f)) (new_bool_right C c)

  -- StmtsCompiled::expr and if_stmt
  pub expr_stmts_right : (e : Expr) → run_stmts C (expr_stmts e) ≡ effect (run C e)
  unfolding expr_stmts
  expr_stmts_right e = expr_bounded_lem (nodes_of e + nodes_of e) e

  pub if_stmts_right : (c : Expr) (t f : Stmts)
      → run_stmts C (if_stmts c t f) ≡ branch c (run_stmts C t) (run_stmts C f)
  unfolding if_stmts
  if_stmts_right c t f = if_bounded_lem (suc (nodes_of c + nodes_of c)) c t f

  -- ---- loops

  -- a loop over an empty value
  hollow_loop : (v : Value) (m : Step Flow) → value_empty v ≡ true → bind (start_loop C v) (λ n. loop n m) ≡ give normal
  unfolding bind next start_loop started rounds_of loop
  hollow_loop v m p = fun_ext λ h. rw (empty_no_string v p, p)

  hollow_for : (t : Target) (e : Expr) (b : Stmts) → empty_iterable e ≡ true → run_stmt C (for t e b) ≡ give normal
  unfolding run_stmt
  hollow_for t e b p = fun_ext λ h.
      let (v, q, z) = empty_right C e p h in
      bind_at (run C e) (λ u. bind (start_loop C u) (λ n. loop n (round C t u (run_stmts C b)))) h v q
      ∙ ap (λ (m : Step Flow). m h) (hollow_loop v (round C t v (run_stmts C b)) z)

  -- for_stmt
  for_pick : (d : Bool) (t : Target) (e : Expr) (b : Stmts) → empty_iterable e ≡ d
      → run_stmts C (cond d no_stmts (one (for t e b))) ≡ run_stmt C (for t e b)
  for_pick true t e b p = run_none ∙ sym (hollow_for t e b p)
  for_pick false t e b p = one_right (for t e b)

  pub for_stmts_right : (t : Target) (e : Expr) (b : Stmts) → run_stmts C (for_stmts t e b) ≡ run_stmt C (for t e b)
  unfolding for_stmts
  for_stmts_right t e b = for_pick (empty_iterable e) t e b refl

  -- ---- the pass over statements

  -- an assignment to a simplified target
  assigned_right : (o : Shape → Operation) (t : Target) (v : Value)
      → assigned C (o (shape (optimize_target t))) (optimize_target t) v ≡ assigned C (o (shape t)) t v
  unfolding assigned
  assigned_right o t v = rw (shape_right t, optimize_target_right C t)

  -- a round with a simplified target, its body running alike
  round_right : (t : Target) (v : Value) {m n : Step Flow} → m ≡ n
      → round C (optimize_target t) v m ≡ round C t v n
  unfolding round
  round_right t v p =
      bind_ext (perform C round_op (more_values v no_values))
      (λ item. bind_both (assigned_right (λ s. take_op s) t item) (λ w. p))

  -- an expression statement simplified
  expr_again : (e : Expr) → run_stmts C (expr_stmts (optimize_expr e)) ≡ bind (run C e) (λ v. give normal)
  unfolding effect
  expr_again e = expr_stmts_right (optimize_expr e) ∙ ap (λ (m : Step Value). effect m) (optimize_expr_right C e)

  -- one step of the list, behind what is made already
  behind_pick : (d : Bool) (before ss rs : Stmts) → is_terminal before ≡ d
      → run_stmts C rs ≡ follow (run_stmts C before) (run_stmts C ss)
      → run_stmts C (cond d before rs) ≡ follow (run_stmts C before) (run_stmts C ss)
  behind_pick true before ss rs p q = sym (terminal_right before (run_stmts C ss) p)
  behind_pick false before ss rs p q = q

  behind_step : (before : Stmts) (s : Stmt) (ss made rs : Stmts) → run_stmts C made ≡ run_stmt C s
      → run_stmts C rs ≡ follow (run_stmts C (extend before made)) (run_stmts C ss)
      → run_stmts C rs ≡ follow (run_stmts C before) (run_stmts C (more_stmts s ss))
  unfolding run_stmt follow
  behind_step before s ss made rs p q =
      q ∙ follow_to (run_stmts C ss) (extend_right before made ∙ follow_ext (run_stmts C before) p)
      ∙ follow_assoc (run_stmts C before) (run_stmt C s) (run_stmts C ss)

  behind_none : (ss rs : Stmts) → run_stmts C rs ≡ follow (run_stmts C no_stmts) (run_stmts C ss)
      → run_stmts C rs ≡ run_stmts C ss
  behind_none ss rs p = p ∙ follow_to (run_stmts C ss) run_none ∙ follow_normal (run_stmts C ss)

  -- optimize_stmt and optimize_behind
  mutual
    unfolding optimize_stmt run_stmt

    pub optimize_stmt_right : (s : Stmt) → run_stmts C (optimize_stmt s) ≡ run_stmt C s
    optimize_stmt_right (return e) =
        one_right (return (optimize_expr e)) ∙ bind_to (λ v. give (returned v)) (optimize_expr_right C e)
    optimize_stmt_right (expr e) = expr_again e
    optimize_stmt_right (assign w t e) =
        one_right (assign w (optimize_target t) (optimize_expr e))
        ∙ bind_both (optimize_expr_right C e)
        (λ v. bind_to (λ r. give normal) (assigned_right (λ s. assign_op w s) t v))
    optimize_stmt_right (assign_modify op t e) =
        one_right (assign_modify op (optimize_target t) (optimize_expr e))
        ∙ bind_both (optimize_target_right C t)
        (λ vs. bind_both (optimize_expr_right C e)
        (λ v. ap
        (λ (s : Shape). bind (perform C (modify_op op s) (join_values vs (more_values v no_values))) (λ r. give normal))
        (shape_right t)))
    optimize_stmt_right (if_stmt c t f) =
        if_stmts_right (optimize_expr c) (optimize_behind t no_stmts) (optimize_behind f no_stmts)
        ∙ bind_both (ap (λ (m : Step Value). test C m) (optimize_expr_right C c))
        (λ b. ap₂ (λ (m n : Step Flow). cond b m n)
        (behind_none t (optimize_behind t no_stmts) (optimize_behind_right t no_stmts))
        (behind_none f (optimize_behind f no_stmts) (optimize_behind_right f no_stmts)))
    optimize_stmt_right (for t e b) =
        for_stmts_right (optimize_target t) (optimize_expr e) (optimize_behind b no_stmts)
        ∙ bind_both (optimize_expr_right C e)
        (λ v. bind_ext (start_loop C v) (λ n. ap (λ (m : Step Flow). loop n m)
        (round_right t v (behind_none b (optimize_behind b no_stmts) (optimize_behind_right b no_stmts)))))
    optimize_stmt_right e = one_right e

    pub optimize_behind_right : (ss before : Stmts)
        → run_stmts C (optimize_behind ss before) ≡ follow (run_stmts C before) (run_stmts C ss)
    optimize_behind_right no_stmts before = sym (follow_end (run_stmts C before))
    optimize_behind_right (more_stmts s ss) before =
        let rest = optimize_behind ss (extend before (optimize_stmt s)) in
        behind_pick (is_terminal before) before (more_stmts s ss) rest refl
        (behind_step before s ss (optimize_stmt s) rest (optimize_stmt_right s)
        (optimize_behind_right ss (extend before (optimize_stmt s))))

  -- the pass over a rule
  pub optimize_right : (ss : Stmts) → run_stmts C (optimize ss) ≡ run_stmts C ss
  unfolding optimize
  optimize_right ss = behind_none ss (optimize_behind ss no_stmts) (optimize_behind_right ss no_stmts)
