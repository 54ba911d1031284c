-- Weights against words, and what the pass does to them. Words are at most as many as the weight, and the weight at
-- most twice the words (`expr_weight`, `target_weight`, `rule_weight`). ExprCompiledBool::new, each
-- constructor and the whole pass on expressions and targets never raise a weight (`new_weight`, `if_weight`,
-- `optimize_weight`, `optimize_target_weight`).
-- Assumes nothing.
use mathlib.Core.Bool.{Bool, true, false, cond, ◌&&◌}
use mathlib.Core.List.{List, [], ◌∷◌}
use mathlib.Core.Path.{◌≡◌}
use Prim.Native.Nat.{ℕ, zero, suc, ◌+◌, ◌*◌, ◌≤◌}
use native.Mathlib.Omega.{arith}
use lib.ListN.{length}
use Rattle.std.proofs.lemmas.Grind.{common_steps}
use Rattle.spec.specs.Rose.{Rose, Roses, node, nil, cons, size, sizes}
use Rattle.spec.specs.Tree
use Rattle.spec.specs.Tree.{boolean, int, string, type_function, len_function, other, Logic}
use Rattle.spec.specs.Tree.{local, captured, module', def}
use Rattle.spec.specs.Tree.{Expr, const, read, fresh, dict, if_then, not, type_is, logic, seq, oper, call}
use Rattle.spec.specs.Tree.{Exprs, no_exprs, more_exprs}
use Rattle.spec.specs.Tree.{Target, dot, index, tuple_target, slot, Targets, no_targets, more_targets}
use Rattle.spec.specs.Tree.{Stmt, Stmts, rose_e, rose_t, rose_s, rose_l}
use Rattle.spec.specs.Verdict.{is_none, is_type_function, is_plain, pure, pures, truth_of}
use Rattle.spec.specs.Running.{decides}
use Rattle.spec.specs.Pass.{Condition, const_condition, expr_condition, decided, not_condition, logic_condition}
use Rattle.spec.specs.Pass.{new_bool, seq_expr, not_expr, type_is_expr, logical_by, logical_bin_op, typ, call_expr}
use Rattle.spec.specs.Pass.{if_left, if_step, nodes_of, if_bounded, if_expr}
use Rattle.spec.specs.Pass.{optimize_expr, optimize_exprs, optimize_target, optimize_targets}
use Rattle.spec.specs.Weight.{own_weight, weight, weights, weight_e, weight_es, weight_c, weight_t, weight_ts}
use Rattle.spec.specs.Weight.{weight_ss}
use Rattle.spec.specs.declared.Truth.{Truth}

-- ---- words and weight

own_weight_lem : (own : List ℕ) → (length own ≤ own_weight own) × (own_weight own ≤ 2 * length own)
own_weight_lem (w ∷ []) = (omega arith, omega arith)
own_weight_lem _ = (omega arith, omega arith)

-- no more words than weight, and no more weight than twice the words
mutual
  pub rose_weight : (r : Rose) → (size r ≤ weight r) × (weight r ≤ 2 * size r)
  rose_weight (node s own ps) =
      let h = own_weight_lem own in
      let k = roses_weight ps in
      (omega arith, omega arith)

  pub roses_weight : (ps : Roses) → (sizes ps ≤ weights ps) × (weights ps ≤ 2 * sizes ps)
  roses_weight nil = (omega arith, omega arith)
  roses_weight (cons p ps) =
      let h = rose_weight p in
      let k = roses_weight ps in
      (omega arith, omega arith)

pub expr_weight : (e : Expr) → (size (rose_e e) ≤ weight_e e) × (weight_e e ≤ 2 * size (rose_e e))
expr_weight e = rose_weight (rose_e e)

pub target_weight : (t : Target) → (size (rose_t t) ≤ weight_t t) × (weight_t t ≤ 2 * size (rose_t t))
target_weight t = rose_weight (rose_t t)

pub rule_weight : (ss : Stmts) → (size (rose_l ss) ≤ weight_ss ss) × (weight_ss ss ≤ 2 * size (rose_l ss))
rule_weight ss = rose_weight (rose_l ss)

-- every expression weighs two at least
own_some : (w : ℕ) (ws : List ℕ) → 2 ≤ own_weight (w ∷ ws)
own_some w [] = omega arith
own_some w (v ∷ vs) = omega arith

pub some_weight : (e : Expr) → 2 ≤ weight_e e
some_weight (const Tree.none) = omega arith
some_weight (read (local n)) = omega arith
some_weight (oper h pay es) = omega (arith, own_some h pay)
some_weight _ = omega arith

-- ---- constructors

-- the lighter of two choices
cond_weight : (b : Bool) (x y : Expr) (n : ℕ) → weight_e x ≤ n → weight_e y ≤ n → weight_e (cond b x y) ≤ n
cond_weight true x y n p q = p
cond_weight false x y n p q = q

pub seq_weight : (x y : Expr) → weight_e (seq_expr x y) ≤ weight_e (seq x y)
unfolding seq_expr
seq_weight x y = cond_weight (pure x) y (seq x y) (weight_e (seq x y)) (omega arith) (omega arith)

pub not_weight : (e : Expr) → weight_e (not_expr e) ≤ weight_e (not e)
unfolding not_expr
not_weight e = grind (arith, common_steps)

pub type_is_weight : (t : ℕ) (e : Expr) → weight_e (type_is_expr t e) ≤ weight_e (type_is t e)
unfolding type_is_expr
type_is_weight t (const c) = omega arith
type_is_weight t _ = omega arith

logical_by_weight : (l : Logic) (t : Truth) (x y : Expr) → weight_e (logical_by l t x y) ≤ weight_e (logic l x y)
unfolding logical_by
logical_by_weight l t x y = grind (arith, common_steps)

pub logical_weight : (l : Logic) (x y : Expr) → weight_e (logical_bin_op l x y) ≤ weight_e (logic l x y)
unfolding logical_bin_op
logical_weight l x y = logical_by_weight l (truth_of x) x y

-- a type's name, or the whole
name_weight : (b : Bool) (t : ℕ) (whole : Expr) → weight_e (cond b (const (string t)) whole) ≤ weight_e whole
name_weight b t whole =
    cond_weight b (const (string t)) whole (weight_e whole) (omega (arith, some_weight whole)) (omega arith)

pub typ_weight : (e whole : Expr) → weight_e (typ e whole) ≤ weight_e whole
unfolding typ
typ_weight (const c) whole = omega (arith, some_weight whole)
typ_weight (fresh f es) whole = name_weight (pures es) _ whole
typ_weight (dict es) whole = name_weight (is_none es) _ whole
typ_weight (not e) whole = name_weight (pure e) _ whole
typ_weight (type_is t e) whole = name_weight (pure e) _ whole
typ_weight _ whole = omega arith

pub call_weight : (names : List ℕ) (args kwargs : Bool) (f : Expr) (es : Exprs)
    → weight_e (call_expr names args kwargs f es) ≤ weight_e (call names args kwargs f es)
unfolding call_expr
call_weight names args kwargs f no_exprs = omega arith
call_weight names args kwargs f (more_exprs e no_exprs) =
    let whole = call names args kwargs f (more_exprs e no_exprs) in
    cond_weight (is_type_function f && is_plain names args kwargs) (typ e whole) whole (weight_e whole)
    (typ_weight e whole) (omega arith)
call_weight names args kwargs f (more_exprs e (more_exprs x xs)) = omega arith

-- ---- conditions

decided_weight : (t : Truth) (c : Condition) (n : ℕ) → 2 ≤ n → weight_c c ≤ n → weight_c (decided t c) ≤ n
unfolding decided
decided_weight t c n p q = grind (arith, common_steps)

whole_weight : (t : Truth) (e : Expr) → weight_c (decided t (expr_condition e)) ≤ weight_e e
whole_weight t e = decided_weight t (expr_condition e) (weight_e e) (some_weight e) (omega arith)

not_condition_weight : (c : Condition) → weight_c (not_condition c) ≤ 2 + weight_c c
unfolding not_condition
not_condition_weight (const_condition b) = omega arith
not_condition_weight (expr_condition e) = omega arith

-- a constant on the left of And and Or, and one on the right
left_weight : (d b : Bool) (y : Condition) → weight_c (cond d (const_condition b) y) ≤ 2 + 2 + weight_c y
left_weight true b y = omega arith
left_weight false b y = omega arith

right_weight : (d b : Bool) (x : Expr)
    → weight_c (cond d (expr_condition (seq_expr x (const (boolean b)))) (expr_condition x)) ≤ 2 + weight_e x + 2
right_weight true b x = omega (arith, seq_weight x (const (boolean b)))
right_weight false b x = omega arith

logic_condition_weight : (l : Logic) (x y : Condition) → weight_c (logic_condition l x y) ≤ 2 + weight_c x + weight_c y
unfolding logic_condition
logic_condition_weight l (const_condition b) y = left_weight (decides l b) b y
logic_condition_weight l (expr_condition x) (const_condition b) = right_weight (decides l b) b x
logic_condition_weight l (expr_condition x) (expr_condition y) = omega arith

-- a simplified condition is no heavier
pub new_weight : (e : Expr) → weight_c (new_bool e) ≤ weight_e e
unfolding new_bool
new_weight (not e) =
    decided_weight (truth_of (not e)) (not_condition (new_bool e)) (weight_e (not e)) (omega arith)
    (omega (arith, not_condition_weight (new_bool e), new_weight e))
new_weight (logic l x y) =
    decided_weight (truth_of (logic l x y)) (logic_condition l (new_bool x) (new_bool y)) (weight_e (logic l x y))
    (omega arith) (omega (arith, logic_condition_weight l (new_bool x) (new_bool y), new_weight x, new_weight y))
new_weight e = whole_weight (truth_of e) e

-- the same, where an expression is left
pub new_expr_weight : (e x : Expr) → new_bool e ≡ expr_condition x → weight_e x ≤ weight_e e
new_expr_weight e x p = rw p at (new_weight e)

-- ---- if_expr

module _ (more : Expr → Expr → Expr → Expr)
    (ih : (c t f : Expr) → weight_e (more c t f) ≤ weight_e (if_then c t f))
  where
    if_left_weight : (e t f : Expr) → weight_e (if_left more e t f) ≤ weight_e (if_then e t f)
    unfolding if_left
    if_left_weight (not e) t f = omega (arith, ih e f t)
    if_left_weight (seq p e) t f = omega (arith, seq_weight p (more e t f), ih e t f)
    if_left_weight _ t f = omega arith

    if_step_weight : (s : Condition) (t f : Expr)
        → weight_e (if_step more s t f) ≤ 2 + weight_c s + weight_e t + weight_e f
    unfolding if_step
    if_step_weight (const_condition b) t f = cond_weight b t f _ (omega arith) (omega arith)
    if_step_weight (expr_condition e) t f = omega (arith, if_left_weight e t f)

bounded_weight : (n : ℕ) (c t f : Expr) → weight_e (if_bounded n c t f) ≤ weight_e (if_then c t f)
unfolding if_bounded
bounded_weight zero c t f = omega arith
bounded_weight (suc n) c t f =
    omega (arith, if_step_weight (if_bounded n) (bounded_weight n) (new_bool c) t f, new_weight c)

pub if_weight : (c t f : Expr) → weight_e (if_expr c t f) ≤ weight_e (if_then c t f)
unfolding if_expr
if_weight c t f = bounded_weight (nodes_of c) c t f

-- ---- optimize

-- an expression is no heavier after the pass
mutual
  unfolding optimize_expr

  pub optimize_weight : (e : Expr) → weight_e (optimize_expr e) ≤ weight_e e
  optimize_weight (const c) = omega arith
  optimize_weight (read p) = omega arith
  optimize_weight (fresh f es) = omega (arith, optimize_weights es)
  optimize_weight (dict es) = omega (arith, optimize_weights es)
  optimize_weight (if_then c t f) =
      omega (
        arith,
        if_weight (optimize_expr c) (optimize_expr t) (optimize_expr f),
        optimize_weight c,
        optimize_weight t,
        optimize_weight f,
      )
  optimize_weight (not e) = omega (arith, not_weight (optimize_expr e), optimize_weight e)
  optimize_weight (type_is t e) = omega (arith, type_is_weight t (optimize_expr e), optimize_weight e)
  optimize_weight (logic l x y) =
      omega (arith, logical_weight l (optimize_expr x) (optimize_expr y), optimize_weight x, optimize_weight y)
  optimize_weight (seq x y) =
      omega (arith, seq_weight (optimize_expr x) (optimize_expr y), optimize_weight x, optimize_weight y)
  optimize_weight (oper h pay es) = omega (arith, optimize_weights es)
  optimize_weight (call names args kwargs f es) =
      omega (
        arith,
        call_weight names args kwargs (optimize_expr f) (optimize_exprs es),
        optimize_weight f,
        optimize_weights es,
      )

  pub optimize_weights : (es : Exprs) → weight_es (optimize_exprs es) ≤ weight_es es
  optimize_weights no_exprs = omega arith
  optimize_weights (more_exprs e es) = omega (arith, optimize_weight e, optimize_weights es)

-- nor is a target
mutual
  unfolding optimize_target

  pub optimize_target_weight : (t : Target) → weight_t (optimize_target t) ≤ weight_t t
  optimize_target_weight (dot t e) = omega (arith, optimize_weight e)
  optimize_target_weight (index x y) = omega (arith, optimize_weight x, optimize_weight y)
  optimize_target_weight (tuple_target ts) = omega (arith, optimize_target_weights ts)
  optimize_target_weight (slot s) = omega arith

  pub optimize_target_weights : (ts : Targets) → weight_ts (optimize_targets ts) ≤ weight_ts ts
  optimize_target_weights no_targets = omega arith
  optimize_target_weights (more_targets t ts) = omega (arith, optimize_target_weight t, optimize_target_weights ts)
