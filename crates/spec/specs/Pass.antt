-- The pass on expressions and targets: document 01, 'Conditions' and the end of 'Pruned lists', with the Rust's
-- structure and names (expr_bool.rs, expr.rs, call.rs).
use Rattle.std.specs.Prelude.{Bool, true, false, not, cond, ◌&&◌, List, ℕ, zero, suc, ◌+◌, eqb}
use Rattle.spec.specs.Tree
use Rattle.spec.specs.Tree.{
  boolean,
  string,
  Logic,
  and,
  or,
  Expr,
  const,
  read,
  fresh,
  dict,
  if_then,
  type_is,
  logic,
  seq,
  oper,
  call,
}
use Rattle.spec.specs.Tree.{
  Exprs,
  no_exprs,
  more_exprs,
  Target,
  dot,
  index,
  tuple_target,
  slot,
  Targets,
  no_targets,
  more_targets,
}
use Rattle.spec.specs.Verdict.{is_none, const_truth, is_type_function, is_plain, pure, pures, truth_of, definitely_bool}
use Rattle.spec.specs.Value.{const_type, fresh_type}
use Rattle.spec.specs.Running.{decides}
use Rattle.spec.specs.declared.Truth.{Truth}
use Rattle.spec.specs.declared.Truth.TheVariants as truth

-- ---- constructors

-- "`seq` drops a pure left"
unfoldable pub seq_expr : Expr → Expr → Expr
seq_expr x y = cond (pure x) y (seq x y)

-- "`not` folds a constant and strips Not(Not(e)) if e is definitely bool"
unfoldable pub not_expr : Expr → Expr
not_expr (const c) = const (boolean (not (const_truth c)))
not_expr (read p) = Tree.not (read p)
not_expr (fresh f es) = Tree.not (fresh f es)
not_expr (dict es) = Tree.not (dict es)
not_expr (if_then c t f) = Tree.not (if_then c t f)
not_expr (Tree.not e) = cond (definitely_bool e) e (Tree.not (Tree.not e))
not_expr (type_is t e) = Tree.not (type_is t e)
not_expr (logic l x y) = Tree.not (logic l x y)
not_expr (seq x y) = Tree.not (seq x y)
not_expr (oper h pay es) = Tree.not (oper h pay es)
not_expr (call names args kwargs f es) = Tree.not (call names args kwargs f es)

-- "`type_is` folds a constant"
unfoldable pub type_is_expr : ℕ → Expr → Expr
type_is_expr t (const c) = const (boolean (eqb (const_type c) t))
type_is_expr t (read p) = type_is t (read p)
type_is_expr t (fresh f es) = type_is t (fresh f es)
type_is_expr t (dict es) = type_is t (dict es)
type_is_expr t (if_then c x y) = type_is t (if_then c x y)
type_is_expr t (Tree.not e) = type_is t (Tree.not e)
type_is_expr t (type_is u e) = type_is t (type_is u e)
type_is_expr t (logic l x y) = type_is t (logic l x y)
type_is_expr t (seq x y) = type_is t (seq x y)
type_is_expr t (oper h pay es) = type_is t (oper h pay es)
type_is_expr t (call names args kwargs f es) = type_is t (call names args kwargs f es)

-- "`logical_bin_op` with a known left gives the left if it decides, else the right"
unfoldable pub logical_by : Logic → Truth → Expr → Expr → Expr
logical_by l truth.Yes x y = cond (decides l true) x y
logical_by l truth.No x y = cond (decides l false) x y
logical_by l truth.Unknown x y = logic l x y

unfoldable pub logical_bin_op : Logic → Expr → Expr → Expr
logical_bin_op l x y = logical_by l (truth_of x) x y

-- "`typ` of a constant, all-pure tuple or list, empty dict, or Not/TypeIs of pure gives the type's name"; whole is the
-- type call as it stands
unfoldable pub typ : Expr → Expr → Expr
typ (const c) whole = const (string (const_type c))
typ (read p) whole = whole
typ (fresh f es) whole = cond (pures es) (const (string (fresh_type f))) whole
typ (dict es) whole = cond (is_none es) (const (string 8)) whole
typ (if_then c t f) whole = whole
typ (Tree.not e) whole = cond (pure e) (const (string 2)) whole
typ (type_is t e) whole = cond (pure e) (const (string 2)) whole
typ (logic l x y) whole = whole
typ (seq x y) whole = whole
typ (oper h pay es) whole = whole
typ (call names args kwargs f es) whole = whole

-- a type call goes to `typ`; any other call stays
unfoldable pub call_expr : List ℕ → Bool → Bool → Expr → Exprs → Expr
call_expr names args kwargs f no_exprs = call names args kwargs f no_exprs
call_expr names args kwargs f (more_exprs e no_exprs) =
    cond (is_type_function f && is_plain names args kwargs) (typ e (call names args kwargs f (more_exprs e no_exprs)))
    (call names args kwargs f (more_exprs e no_exprs))
call_expr names args kwargs f (more_exprs e (more_exprs x xs)) =
    call names args kwargs f (more_exprs e (more_exprs x xs))

-- ---- conditions: ExprCompiledBool

pub data Condition : Type 0 where
  const_condition : Bool → Condition
  expr_condition : Expr → Condition

-- "A known truth is a constant"
unfoldable pub decided : Truth → Condition → Condition
decided truth.Yes c = const_condition true
decided truth.No c = const_condition false
decided truth.Unknown c = c

-- "Not: simplify the part, negate a constant, else rebuild"
unfoldable pub not_condition : Condition → Condition
not_condition (const_condition b) = const_condition (not b)
not_condition (expr_condition e) = expr_condition (Tree.not e)

-- "And/Or: simplify both to x and y. Constant x: if it decides, that constant, else y. Only y constant: neutral gives
-- x; deciding gives seq(x, y), which counts as an expression even if seq leaves a constant. Neither: rebuild."
unfoldable pub logic_condition : Logic → Condition → Condition → Condition
logic_condition l (const_condition b) y = cond (decides l b) (const_condition b) y
logic_condition l (expr_condition x) (const_condition b) =
    cond (decides l b) (expr_condition (seq_expr x (const (boolean b)))) (expr_condition x)
logic_condition l (expr_condition x) (expr_condition y) = expr_condition (logic l x y)

-- ExprCompiledBool::new
unfoldable pub new_bool : Expr → Condition
new_bool (const c) = decided (truth_of (const c)) (expr_condition (const c))
new_bool (read p) = decided (truth_of (read p)) (expr_condition (read p))
new_bool (fresh f es) = decided (truth_of (fresh f es)) (expr_condition (fresh f es))
new_bool (dict es) = decided (truth_of (dict es)) (expr_condition (dict es))
new_bool (if_then c t f) = decided (truth_of (if_then c t f)) (expr_condition (if_then c t f))
new_bool (Tree.not e) = decided (truth_of (Tree.not e)) (not_condition (new_bool e))
new_bool (type_is t e) = decided (truth_of (type_is t e)) (expr_condition (type_is t e))
new_bool (logic l x y) = decided (truth_of (logic l x y)) (logic_condition l (new_bool x) (new_bool y))
new_bool (seq x y) = decided (truth_of (seq x y)) (expr_condition (seq x y))
new_bool (oper h pay es) = decided (truth_of (oper h pay es)) (expr_condition (oper h pay es))
new_bool (call names args kwargs f es) =
    decided (truth_of (call names args kwargs f es)) (expr_condition (call names args kwargs f es))

-- ---- if_expr

-- "a constant picks an arm, Not swaps arms and goes on, Seq(p,c) gives seq(p, if_expr of c)": what is done with a
-- condition that is left, `more` being if_expr of a smaller one
unfoldable pub if_left : (Expr → Expr → Expr → Expr) → Expr → Expr → Expr → Expr
if_left more (Tree.not e) t f = more e f t
if_left more (seq p e) t f = seq_expr p (more e t f)
if_left more (const c) t f = if_then (const c) t f
if_left more (read p) t f = if_then (read p) t f
if_left more (fresh k es) t f = if_then (fresh k es) t f
if_left more (dict es) t f = if_then (dict es) t f
if_left more (if_then c x y) t f = if_then (if_then c x y) t f
if_left more (type_is u e) t f = if_then (type_is u e) t f
if_left more (logic l x y) t f = if_then (logic l x y) t f
if_left more (oper h pay es) t f = if_then (oper h pay es) t f
if_left more (call names args kwargs g es) t f = if_then (call names args kwargs g es) t f

unfoldable pub if_step : (Expr → Expr → Expr → Expr) → Condition → Expr → Expr → Expr
if_step more (const_condition b) t f = cond b t f
if_step more (expr_condition e) t f = if_left more e t f

-- how many nodes an expression has
unfoldable mutual
  pub nodes_of : Expr → ℕ
  nodes_of (const c) = 1
  nodes_of (read p) = 1
  nodes_of (fresh f es) = suc (nodes_in es)
  nodes_of (dict es) = suc (nodes_in es)
  nodes_of (if_then c t f) = suc (nodes_of c + (nodes_of t + nodes_of f))
  nodes_of (Tree.not e) = suc (nodes_of e)
  nodes_of (type_is t e) = suc (nodes_of e)
  nodes_of (logic l x y) = suc (nodes_of x + nodes_of y)
  nodes_of (seq x y) = suc (nodes_of x + nodes_of y)
  nodes_of (oper h pay es) = suc (nodes_in es)
  nodes_of (call names args kwargs f es) = suc (nodes_of f + nodes_in es)

  pub nodes_in : Exprs → ℕ
  nodes_in no_exprs = 0
  nodes_in (more_exprs e es) = nodes_of e + nodes_in es

-- the recursion is bounded by the nodes of the condition; proofs/Unroll.antt proves the equation without the bound
unfoldable pub if_bounded : ℕ → Expr → Expr → Expr → Expr
if_bounded zero c t f = if_then c t f
if_bounded (suc n) c t f = if_step (if_bounded n) (new_bool c) t f

unfoldable pub if_expr : Expr → Expr → Expr → Expr
if_expr c t f = if_bounded (nodes_of c) c t f

-- ---- optimize: "`optimize` works on parts first"

unfoldable mutual
  pub optimize_expr : Expr → Expr
  optimize_expr (const c) = const c
  optimize_expr (read p) = read p
  optimize_expr (fresh f es) = fresh f (optimize_exprs es)
  optimize_expr (dict es) = dict (optimize_exprs es)
  optimize_expr (if_then c t f) = if_expr (optimize_expr c) (optimize_expr t) (optimize_expr f)
  optimize_expr (Tree.not e) = not_expr (optimize_expr e)
  optimize_expr (type_is t e) = type_is_expr t (optimize_expr e)
  optimize_expr (logic l x y) = logical_bin_op l (optimize_expr x) (optimize_expr y)
  optimize_expr (seq x y) = seq_expr (optimize_expr x) (optimize_expr y)
  optimize_expr (oper h pay es) = oper h pay (optimize_exprs es)
  optimize_expr (call names args kwargs f es) = call_expr names args kwargs (optimize_expr f) (optimize_exprs es)

  pub optimize_exprs : Exprs → Exprs
  optimize_exprs no_exprs = no_exprs
  optimize_exprs (more_exprs e es) = more_exprs (optimize_expr e) (optimize_exprs es)

unfoldable mutual
  pub optimize_target : Target → Target
  optimize_target (dot t e) = dot t (optimize_expr e)
  optimize_target (index x y) = index (optimize_expr x) (optimize_expr y)
  optimize_target (tuple_target ts) = tuple_target (optimize_targets ts)
  optimize_target (slot s) = slot s

  pub optimize_targets : Targets → Targets
  optimize_targets no_targets = no_targets
  optimize_targets (more_targets t ts) = more_targets (optimize_target t) (optimize_targets ts)
