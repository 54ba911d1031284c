-- Pruning an expression or a target changes nothing of its run: what new_bool leaves of a condition tests the same, and
-- each constructor of the pass, optimize_expr and optimize_target run alike.
-- Assumes nothing.
use mathlib.Core.Path.{◌≡◌, refl, sym, ap, ap₂, ◌∙◌, fun_ext}
use mathlib.Core.Bool.{Bool, true, false, not, cond, ◌&&◌, not-not}
use mathlib.Core.List.{List}
use Prim.Native.Nat.{ℕ, zero, suc}
use lib.Dec.{eqb}
use native.Mathlib.Omega.{arith}
use Rattle.std.proofs.lemmas.Grind.{common_steps}
use Rattle.spec.specs.Tree
use Rattle.spec.specs.Tree.{Const, boolean, string, Fresh, Logic, and, or}
use Rattle.spec.specs.Tree.{Expr, const, read, fresh, dict, if_then, type_is, logic, seq, oper, call}
use Rattle.spec.specs.Tree.{Exprs, no_exprs, more_exprs, Target, dot, index, tuple_target, slot}
use Rattle.spec.specs.Tree.{Targets, no_targets, more_targets}
use Rattle.spec.specs.Verdict.{is_none, const_truth, is_type_function, is_plain, pure, pures, truth_of, definitely_bool}
use Rattle.spec.specs.Value.{tuple_shape, more_shapes, shape, shapes, oper_op, call_op, Value, constant, fresh_value}
use Rattle.spec.specs.Value.{empty_dict, no_values, more_values, Record, Choice, const_type, fresh_type}
use Rattle.spec.specs.Value.{join_values, value_truth, value_type, is_type_value}
use Rattle.spec.specs.Running.{done, Step, next, give, bind, make, decides, perform, test, make_dict, call_with}
use Rattle.spec.specs.Running.{run, runs, run_target, run_targets}
use Rattle.spec.specs.Pass.{seq_expr, not_expr, type_is_expr, logical_by, logical_bin_op, typ, call_expr}
use Rattle.spec.specs.Pass.{Condition, const_condition, expr_condition, decided, not_condition, logic_condition}
use Rattle.spec.specs.Pass.{new_bool, if_left, if_step, nodes_of, if_bounded, if_expr, optimize_expr, optimize_exprs}
use Rattle.spec.specs.Pass.{optimize_target, optimize_targets}
use Rattle.spec.specs.declared.Truth.{Truth}
use Rattle.spec.specs.declared.Truth.TheVariants as truth
use Rattle.spec.proofs.Outcomes.{both}
use Rattle.spec.proofs.Steps.{bind_give, give_bind, bind_ext, bind_to, bind_both, bind_assoc, Quiet, bind_at}
use Rattle.spec.proofs.Steps.{quiet_drop, quiet_test, test_knows, test_bind}
use Rattle.spec.proofs.Quiet.{text_of, type_call_lem, run_no_pairs, pure_quiet, pures_quiet}
use Rattle.spec.proofs.Quiet.{Says, logic_left, truth_right, Boolean, definitely_right}

-- the opposite of the opposite
module _ (C : Choice) where
  -- one of two expressions
  run_cond : (b : Bool) (x y : Expr) → run C (cond b x y) ≡ cond b (run C x) (run C y)
  run_cond true x y = refl
  run_cond false x y = refl

  -- ---- seq

  -- a pure left side may be dropped
  seq_pick : (p : Bool) (x y : Expr) → pure x ≡ p → run C (cond p y (seq x y)) ≡ run C (seq x y)
  unfolding run
  seq_pick true x y e = sym (quiet_drop (run C x) (run C y) (pure_quiet C x e))
  seq_pick false x y e = refl

  pub seq_right : (x y : Expr) → run C (seq_expr x y) ≡ run C (seq x y)
  unfolding seq_expr
  seq_right x y = seq_pick (pure x) x y refl

  -- ---- not

  -- the opposite of a value's truth
  abbrev opposed : Value → Step Value
  opposed v = give (constant (boolean (not (value_truth C v))))

  -- Not gives it, and twice gives a bool back
  run_not : (e : Expr) → run C (Tree.not e) ≡ bind (run C e) opposed
  unfolding run
  run_not e = test_bind C (run C e) (λ b. give (constant (boolean (not b))))

  not_twice : (e : Expr) → definitely_bool e ≡ true → run C e ≡ run C (Tree.not (Tree.not e))
  unfolding value_truth Boolean
  not_twice e s = sym (
      run_not (Tree.not e)
      ∙ bind_to opposed (run_not e)
      ∙ bind_assoc (run C e) opposed opposed
      ∙ bind_ext (run C e) (λ v. give_bind (constant (boolean (not (value_truth C v)))) opposed
      ∙ ap (λ (b : Bool). give (constant (boolean b))) (not-not (value_truth C v)))
      ∙ definitely_right C e s)

  -- the cases of `not`
  not_pick : (b : Bool) (e : Expr) → definitely_bool e ≡ b
      → run C (cond b e (Tree.not (Tree.not e))) ≡ run C (Tree.not (Tree.not e))
  not_pick true e s = not_twice e s
  not_pick false e s = refl

  not_const : (c : Const) → run C (const (boolean (not (const_truth c)))) ≡ run C (Tree.not (const c))
  unfolding run bind give next test value_truth
  not_const c = refl

  pub not_right : (e : Expr) → run C (not_expr e) ≡ run C (Tree.not e)
  unfolding not_expr
  not_right (const c) = not_const c
  not_right (Tree.not e) = not_pick (definitely_bool e) e refl
  not_right _ = refl

  -- ---- type_is

  -- the cases of `type_is`
  type_is_const_lem : (t : ℕ) (c : Const) → run C (const (boolean (eqb (const_type c) t))) ≡ run C (type_is t (const c))
  unfolding run bind give next value_type
  type_is_const_lem t c = refl

  pub type_is_right : (t : ℕ) (e : Expr) → run C (type_is_expr t e) ≡ run C (type_is t e)
  unfolding type_is_expr
  type_is_right t (const c) = type_is_const_lem t c
  type_is_right t _ = refl

  -- ---- logical_bin_op

  -- by the left side's truth
  logical_by_lem : (l : Logic) (t : Truth) (x y : Expr) → Says C t (run C x)
      → run C (logical_by l t x y) ≡ run C (logic l x y)
  unfolding logical_by
  logical_by_lem l truth.Yes x y q = run_cond (decides l true) x y ∙ sym (logic_left C l x y true q)
  logical_by_lem l truth.No x y q = run_cond (decides l false) x y ∙ sym (logic_left C l x y false q)
  logical_by_lem l truth.Unknown x y q = refl

  pub logical_right : (l : Logic) (x y : Expr) → run C (logical_bin_op l x y) ≡ run C (logic l x y)
  unfolding logical_bin_op
  logical_right l x y = logical_by_lem l (truth_of x) x y (truth_right C x)

  -- ---- typ and calls

  -- a quiet step whose value has the type text t
  unfoldable Typed : Step Value → ℕ → Type 0
  Typed m t = (h : Record) → (v : Value) × (m h ≡ done v h) × (value_type C v ≡ t)

  -- its text, and the steps that `typ` knows
  typed_text : (m : Step Value) (t : ℕ) → Typed m t → bind m (text_of C) ≡ give (constant (string t))
  unfolding Typed give
  typed_text m t q =
      fun_ext λ h. bind_at m (text_of C) h (q h).0 (q h).1 ∙ ap (λ (n : ℕ). done (constant (string n)) h) (q h).2

  typed_fresh : (f : Fresh) (es : Exprs) → pures es ≡ true → Typed (run C (fresh f es)) (fresh_type f)
  unfolding Typed run make value_type
  typed_fresh f es p h =
      let (vs, e) = pures_quiet C es p h in
      (fresh_value f vs h, bind_at (runs C es) (λ ws. make f ws) h vs e, refl)

  typed_dict : (es : Exprs) → is_none es ≡ true → Typed (run C (dict es)) 8
  unfolding Typed value_type
  typed_dict no_exprs p h = (empty_dict h, run_no_pairs C h, refl)
  typed_dict (more_exprs e es) p h = cc

  typed_bool : {A : Type 0} (m : Step A) (k : A → Bool) → Quiet m
      → Typed (bind m (λ a. give (constant (boolean (k a))))) 2
  unfolding Typed give value_type
  typed_bool m k q h =
      (constant (boolean (k (q h).0)), bind_at m (λ a. give (constant (boolean (k a)))) h (q h).0 (q h).1, refl)

  -- the first runs as a type call of the second
  unfoldable IsTypeOf : Expr → Expr → Type 0
  IsTypeOf whole e = run C whole ≡ bind (run C e) (text_of C)

  -- the cases of `typ`
  typ_pick : (b : Bool) (t : ℕ) (e whole : Expr) → (b ≡ true → Typed (run C e) t) → IsTypeOf whole e
      → run C (cond b (const (string t)) whole) ≡ run C whole
  unfolding IsTypeOf run
  typ_pick true t e whole q r = sym (r ∙ typed_text (run C e) t (q refl))
  typ_pick false t e whole q r = refl

  typ_const : (c : Const) → run C (const (string (const_type c))) ≡ bind (run C (const c)) (text_of C)
  unfolding run bind give next value_type
  typ_const c = refl

  typ_right : (e whole : Expr) → IsTypeOf whole e → run C (typ e whole) ≡ run C whole
  unfolding typ IsTypeOf run
  typ_right (const c) whole r = typ_const c ∙ sym r
  typ_right (fresh f es) whole r = typ_pick (pures es) (fresh_type f) (fresh f es) whole (typed_fresh f es) r
  typ_right (dict es) whole r = typ_pick (is_none es) 8 (dict es) whole (typed_dict es) r
  typ_right (Tree.not e) whole r =
      typ_pick (pure e) 2 (Tree.not e) whole
      (λ p. typed_bool (test C (run C e)) not (quiet_test C (run C e) (pure_quiet C e p))) r
  typ_right (type_is t e) whole r =
      typ_pick (pure e) 2 (type_is t e) whole
      (λ p. typed_bool (run C e) (λ v. eqb (value_type C v) t) (pure_quiet C e p)) r
  typ_right _ whole r = refl

  -- calls: type calls go to `typ`, others stay
  module _ (names : List ℕ) (args kwargs : Bool) where
    call_pick : (b : Bool) (f e : Expr) → is_type_function f && is_plain names args kwargs ≡ b
        → run C (cond b (typ e (call names args kwargs f (more_exprs e no_exprs)))
        (call names args kwargs f (more_exprs e no_exprs)))
        ≡ run C (call names args kwargs f (more_exprs e no_exprs))
    unfolding IsTypeOf
    call_pick true f e p =
        typ_right e (call names args kwargs f (more_exprs e no_exprs))
        (type_call_lem C names args kwargs (both (is_type_function f) (is_plain names args kwargs) p).1 f e
        (both (is_type_function f) (is_plain names args kwargs) p).0)
    call_pick false f e p = refl

    pub call_right : (f : Expr) (es : Exprs)
        → run C (call_expr names args kwargs f es) ≡ run C (call names args kwargs f es)
    unfolding call_expr
    call_right f no_exprs = refl
    call_right f (more_exprs e no_exprs) = call_pick (is_type_function f && is_plain names args kwargs) f e refl
    call_right f (more_exprs e (more_exprs x xs)) = refl

  -- ---- conditions

  -- what testing a condition does
  unfoldable pub tested : Condition → Step Bool
  tested (const_condition b) = give b
  tested (expr_condition e) = test C (run C e)

  -- a known truth is a constant
  decided_right : (t : Truth) (e : Expr) (c : Condition) → Says C t (run C e) → tested c ≡ test C (run C e)
      → tested (decided t c) ≡ test C (run C e)
  unfolding decided tested
  decided_right truth.Yes e c s q = sym (test_knows C (run C e) true s)
  decided_right truth.No e c s q = sym (test_knows C (run C e) false s)
  decided_right truth.Unknown e c s q = q

  -- the truth of Not, And and Or by their sides' truths
  test_not : (e : Expr) → test C (run C (Tree.not e)) ≡ bind (test C (run C e)) (λ b. give (not b))
  unfolding run test value_truth
  test_not e =
      bind_assoc (test C (run C e)) (λ b. give (constant (boolean (not b)))) (λ v. give (value_truth C v))
      ∙ bind_ext (test C (run C e)) (λ b. give_bind (constant (boolean (not b))) (λ v. give (value_truth C v)))

  test_pick : (d : Bool) (v : Value) (m : Step Value)
      → bind (cond d (give v) m) (λ w. give (value_truth C w)) ≡ cond d (give (value_truth C v)) (test C m)
  unfolding test
  test_pick true v m = give_bind v (λ w. give (value_truth C w))
  test_pick false v m = refl

  test_logic : (l : Logic) (x y : Expr)
      → test C (run C (logic l x y))
      ≡ bind (test C (run C x)) (λ b. cond (decides l b) (give b) (test C (run C y)))
  unfolding run test
  test_logic l x y =
      bind_assoc (run C x) (λ v. cond (decides l (value_truth C v)) (give v) (run C y)) (λ v. give (value_truth C v))
      ∙ bind_ext (run C x) (λ v. test_pick (decides l (value_truth C v)) v (run C y))
      ∙ sym (test_bind C (run C x) (λ b. cond (decides l b) (give b) (test C (run C y))))

  -- Not of a condition
  not_condition_lem : (c : Condition) → tested (not_condition c) ≡ bind (tested c) (λ b. give (not b))
  unfolding not_condition tested
  not_condition_lem (const_condition b) = sym (give_bind b (λ c. give (not c)))
  not_condition_lem (expr_condition e) = test_not e

  -- one of two conditions
  tested_cond : (d : Bool) (x y : Condition) → tested (cond d x y) ≡ cond d (tested x) (tested y)
  tested_cond true x y = refl
  tested_cond false x y = refl

  -- a right side is given itself where it decides, and else the left one
  right_picks : (l : Logic) (b c : Bool)
      → cond (decides l c) (give c) (give b) ≡ give {A = Bool} (cond (decides l b) b c)
  unfolding decides
  right_picks l b c = grind (arith, common_steps)

  -- And and Or of an expression and a constant: seq where it decides, else the expression
  test_seq_const : (x : Expr) (b : Bool)
      → test C (run C (seq_expr x (const (boolean b)))) ≡ bind (test C (run C x)) (λ c. give b)
  unfolding run test value_truth
  test_seq_const x b =
      ap (λ (m : Step Value). test C m) (seq_right x (const (boolean b)))
      ∙ bind_assoc (run C x) (λ v. give (constant (boolean b))) (λ v. give (value_truth C v))
      ∙ bind_ext (run C x) (λ v. give_bind (constant (boolean b)) (λ w. give (value_truth C w)))
      ∙ sym (test_bind C (run C x) (λ c. give b))

  right_known : (d : Bool) (l : Logic) (x : Expr) (b : Bool) → decides l b ≡ d
      → tested (cond d (expr_condition (seq_expr x (const (boolean b)))) (expr_condition x))
      ≡ bind (test C (run C x)) (λ c. cond (decides l c) (give c) (give b))
  unfolding tested
  right_known true l x b e = test_seq_const x b ∙ bind_ext (test C (run C x)) (λ c. sym (rw e at (right_picks l b c)))
  right_known false l x b e =
      sym (bind_ext (test C (run C x)) (λ c. rw e at (right_picks l b c)) ∙ bind_give (test C (run C x)))

  -- And and Or of two conditions
  logic_condition_lem : (l : Logic) (x y : Condition)
      → tested (logic_condition l x y) ≡ bind (tested x) (λ b. cond (decides l b) (give b) (tested y))
  unfolding logic_condition tested
  logic_condition_lem l (const_condition b) y =
      tested_cond (decides l b) (const_condition b) y
      ∙ sym (give_bind b (λ c. cond (decides l c) (give c) (tested y)))
  logic_condition_lem l (expr_condition x) (const_condition b) = right_known (decides l b) l x b refl
  logic_condition_lem l (expr_condition x) (expr_condition y) = test_logic l x y

  -- new_bool: what is left of an expression as a condition tests as the expression does
  new_by : (e : Expr) (c : Condition) → tested c ≡ test C (run C e)
      → tested (decided (truth_of e) c) ≡ test C (run C e)
  new_by e c q = decided_right (truth_of e) e c (truth_right C e) q

  pub new_bool_right : (e : Expr) → tested (new_bool e) ≡ test C (run C e)
  unfolding new_bool tested
  new_bool_right (Tree.not e) =
      new_by (Tree.not e) (not_condition (new_bool e))
      (not_condition_lem (new_bool e) ∙ bind_to (λ b. give (not b)) (new_bool_right e) ∙ sym (test_not e))
  new_bool_right (logic l x y) =
      new_by (logic l x y) (logic_condition l (new_bool x) (new_bool y))
      (logic_condition_lem l (new_bool x) (new_bool y)
      ∙ bind_both (new_bool_right x) (λ b. ap (λ (m : Step Bool). cond (decides l b) (give b) m) (new_bool_right y))
      ∙ sym (test_logic l x y))
  new_bool_right e = new_by e (expr_condition e) refl

  -- ---- if_expr

  -- a condition that is Not swaps the arms, one that is Seq runs its left side ahead
  pub test_swap : {A : Type 0} (e : Expr) (m n : Step A)
      → bind (test C (run C (Tree.not e))) (λ b. cond b m n) ≡ bind (test C (run C e)) (λ b. cond b n m)
  test_swap e m n =
      bind_to (λ b. cond b m n) (test_not e)
      ∙ bind_assoc (test C (run C e)) (λ b. give (not b)) (λ b. cond b m n)
      ∙ bind_ext (test C (run C e)) (λ b. give_bind (not b) (λ c. cond c m n) ∙ cond_not b)
    where
      cond_not : (b : Bool) → cond (not b) m n ≡ cond b n m
      cond_not true = refl
      cond_not false = refl

  pub test_seq : {A : Type 0} (p e : Expr) (k : Bool → Step A)
      → bind (test C (run C (seq p e))) k ≡ bind (run C p) (λ v. bind (test C (run C e)) k)
  unfolding run test
  test_seq p e k =
      bind_to k (bind_assoc (run C p) (λ v. run C e) (λ v. give (value_truth C v)))
      ∙ bind_assoc (run C p) (λ v. test C (run C e)) k

  -- one step, where if_expr of smaller conditions runs as an If
  module _ (more : Expr → Expr → Expr → Expr)
      (right : (c t f : Expr) → run C (more c t f) ≡ run C (if_then c t f)) where
    if_left_lem : (e t f : Expr) → run C (if_left more e t f) ≡ run C (if_then e t f)
    unfolding if_left run
    if_left_lem (Tree.not e) t f = right e f t ∙ sym (test_swap e (run C t) (run C f))
    if_left_lem (seq p e) t f =
        seq_right p (more e t f)
        ∙ bind_ext (run C p) (λ v. right e t f)
        ∙ sym (test_seq p e (λ b. cond b (run C t) (run C f)))
    if_left_lem _ t f = refl

    if_step_lem : (c : Condition) (t f : Expr)
        → run C (if_step more c t f) ≡ bind (tested c) (λ b. cond b (run C t) (run C f))
    unfolding if_step tested run
    if_step_lem (const_condition b) t f = run_cond b t f ∙ sym (give_bind b (λ c. cond c (run C t) (run C f)))
    if_step_lem (expr_condition e) t f = if_left_lem e t f

  -- at every bound
  if_bounded_lem : (n : ℕ) (c t f : Expr) → run C (if_bounded n c t f) ≡ run C (if_then c t f)
  unfolding if_bounded run
  if_bounded_lem zero c t f = refl
  if_bounded_lem (suc n) c t f =
      if_step_lem (if_bounded n) (if_bounded_lem n) (new_bool c) t f
      ∙ bind_to (λ b. cond b (run C t) (run C f)) (new_bool_right c)

  pub if_right : (c t f : Expr) → run C (if_expr c t f) ≡ run C (if_then c t f)
  unfolding if_expr
  if_right c t f = if_bounded_lem (nodes_of c) c t f

  -- ---- the pass over expressions

  -- optimize_expr
  mutual
    unfolding optimize_expr run

    pub optimize_expr_right : (e : Expr) → run C (optimize_expr e) ≡ run C e
    optimize_expr_right (const c) = refl
    optimize_expr_right (read p) = refl
    optimize_expr_right (fresh f es) = bind_to (λ vs. make f vs) (optimize_exprs_right es)
    optimize_expr_right (dict es) = bind_to (λ vs. make_dict C vs) (optimize_exprs_right es)
    optimize_expr_right (if_then c t f) =
        if_right (optimize_expr c) (optimize_expr t) (optimize_expr f)
        ∙ bind_both (ap (λ (m : Step Value). test C m) (optimize_expr_right c))
        (λ b. ap₂ (λ (m n : Step Value). cond b m n) (optimize_expr_right t) (optimize_expr_right f))
    optimize_expr_right (Tree.not e) =
        not_right (optimize_expr e)
        ∙ ap (λ (m : Step Value). bind (test C m) (λ b. give (constant (boolean (not b))))) (optimize_expr_right e)
    optimize_expr_right (type_is t e) =
        type_is_right t (optimize_expr e)
        ∙ bind_to (λ v. give (constant (boolean (eqb (value_type C v) t)))) (optimize_expr_right e)
    optimize_expr_right (logic l x y) =
        logical_right l (optimize_expr x) (optimize_expr y)
        ∙ bind_both (optimize_expr_right x)
        (λ v. ap (λ (m : Step Value). cond (decides l (value_truth C v)) (give v) m) (optimize_expr_right y))
    optimize_expr_right (seq x y) =
        seq_right (optimize_expr x) (optimize_expr y) ∙ bind_both (optimize_expr_right x) (λ v. optimize_expr_right y)
    optimize_expr_right (oper h pay es) = bind_to (λ vs. perform C (oper_op h pay) vs) (optimize_exprs_right es)
    optimize_expr_right (call names args kwargs f es) =
        call_right names args kwargs (optimize_expr f) (optimize_exprs es)
        ∙ bind_both (optimize_expr_right f)
        (λ v. bind_to
        (λ vs. call_with C (is_type_value v && is_plain names args kwargs) (call_op names args kwargs) v vs)
        (optimize_exprs_right es))

    pub optimize_exprs_right : (es : Exprs) → runs C (optimize_exprs es) ≡ runs C es
    optimize_exprs_right no_exprs = refl
    optimize_exprs_right (more_exprs e es) =
        bind_both (optimize_expr_right e) (λ v. bind_to (λ vs. give (more_values v vs)) (optimize_exprs_right es))

  -- ---- the pass over targets

  -- optimize_target
  mutual
    unfolding optimize_target run_target

    pub optimize_target_right : (t : Target) → run_target C (optimize_target t) ≡ run_target C t
    optimize_target_right (dot t e) = bind_to (λ v. give (more_values v no_values)) (optimize_expr_right e)
    optimize_target_right (index x y) =
        bind_both (optimize_expr_right x)
        (λ v. bind_to (λ w. give (more_values v (more_values w no_values))) (optimize_expr_right y))
    optimize_target_right (tuple_target ts) = optimize_targets_right ts
    optimize_target_right (slot s) = refl

    pub optimize_targets_right : (ts : Targets) → run_targets C (optimize_targets ts) ≡ run_targets C ts
    optimize_targets_right no_targets = refl
    optimize_targets_right (more_targets t ts) =
        bind_both (optimize_target_right t)
        (λ vs. bind_to (λ ws. give (join_values vs ws)) (optimize_targets_right ts))

-- a target keeps its shape
mutual
  unfolding optimize_target shape

  pub shape_right : (t : Target) → shape (optimize_target t) ≡ shape t
  shape_right (tuple_target ts) = ap tuple_shape (shapes_right ts)
  shape_right _ = refl

  shapes_right : (ts : Targets) → shapes (optimize_targets ts) ≡ shapes ts
  shapes_right no_targets = refl
  shapes_right (more_targets t ts) = ap₂ more_shapes (shape_right t) (shapes_right ts)
