-- Foldable places: document 01, 'Pruned lists', "it counts foldable places, met after parts are simplified, also in
-- arms dropped later". A definition of its own beside the pass. One node is at most one place.
use Rattle.std.specs.Prelude.{Bool, true, false, not, cond, ◌&&◌, ◌||◌, List, ℕ, ◌+◌, eqb}
use Rattle.spec.specs.Grammar.{kind_in, detail_in}
use Rattle.spec.specs.Tree
use Rattle.spec.specs.Tree.{Const, Fresh, tuple, list, bit_of}
use Rattle.spec.specs.Tree.{
  Expr,
  const,
  read,
  fresh,
  dict,
  if_then,
  type_is,
  logic,
  seq,
  oper,
  call,
  Exprs,
  no_exprs,
  more_exprs,
}
use Rattle.spec.specs.Tree.{Target, dot, index, tuple_target, slot, Targets, no_targets, more_targets}
use Rattle.spec.specs.Tree.{
  Stmt,
  possible_gc,
  break,
  continue,
  return,
  expr,
  assign,
  assign_modify,
  if_stmt,
  for,
  Stmts,
  no_stmts,
  more_stmts,
}
use Rattle.spec.specs.Meaning.{part_e}
use Rattle.spec.specs.Verdict.{is_none, is_string, is_type_function, is_plain}
use Rattle.spec.specs.Pass.{optimize_expr, optimize_exprs}
use Rattle.spec.specs.PassStmts.{is_terminal, extend, optimize_stmt}

-- ---- what a simplified part is

-- what an expression is, as far as folding asks
pub data Part : Type 0 where
  const_part : Const → Part
  list_part dot_part type_call_part other_part : Part

abbrev pub fresh_part : Fresh → Part
fresh_part tuple = other_part
fresh_part list = list_part

abbrev pub has_one : Exprs → Bool
has_one no_exprs = false
has_one (more_exprs e es) = is_none es

-- a type call by its form
abbrev pub is_type_call : List ℕ → Bool → Bool → Expr → Exprs → Bool
is_type_call names args kwargs f es = is_type_function f && (is_plain names args kwargs && has_one es)

abbrev pub part_of : Expr → Part
part_of (const c) = const_part c
part_of (read p) = other_part
part_of (fresh f es) = fresh_part f
part_of (dict es) = other_part
part_of (if_then c t f) = other_part
part_of (Tree.not e) = other_part
part_of (type_is t e) = other_part
part_of (logic l x y) = other_part
part_of (seq x y) = other_part
-- Builtin1 with detail 7
part_of (oper h pay es) = cond (eqb (kind_in h) 11 && eqb (detail_in h) 7) dot_part other_part
part_of (call names args kwargs f es) = cond (is_type_call names args kwargs f es) type_call_part other_part

abbrev pub constant_part : Part → Bool
constant_part (const_part c) = true
constant_part list_part = false
constant_part dot_part = false
constant_part type_call_part = false
constant_part other_part = false

abbrev pub string_part : Part → Bool
string_part (const_part c) = is_string c
string_part list_part = false
string_part dot_part = false
string_part type_call_part = false
string_part other_part = false

abbrev pub is_list_part : Part → Bool
is_list_part (const_part c) = false
is_list_part list_part = true
is_list_part dot_part = false
is_list_part type_call_part = false
is_list_part other_part = false

abbrev pub is_dot_part : Part → Bool
is_dot_part (const_part c) = false
is_dot_part list_part = false
is_dot_part dot_part = true
is_dot_part type_call_part = false
is_dot_part other_part = false

abbrev pub is_type_call_part : Part → Bool
is_type_call_part (const_part c) = false
is_type_call_part list_part = false
is_type_call_part dot_part = false
is_type_call_part type_call_part = true
is_type_call_part other_part = false

-- ---- places

-- "Builtin2 on two constants; Percent with a string constant left; Add with each side constant or List; Equals of a
-- type call and a string constant", in either order: details 5, 3 and 0
abbrev pub binary_folds : ℕ → Part → Part → Bool
binary_folds d x y =
    (constant_part x && constant_part y)
    || ((eqb d 5 && string_part x)
    || ((eqb d 3 && ((constant_part x || is_list_part x) && (constant_part y || is_list_part y)))
    || (eqb d 0 && ((is_type_call_part x && string_part y) || (string_part x && is_type_call_part y)))))

-- "Builtin1 but Not and TypeIs on a constant; ..; Slice or Index2 of a constant": kinds 11, 10 and 15
abbrev pub oper_folds : ℕ → Exprs → Bool
oper_folds h es =
    cond (eqb (kind_in h) 14) (binary_folds (detail_in h) (part_of (part_e 0 es)) (part_of (part_e 1 es)))
    (constant_part (part_of (part_e 0 es)))

-- "Tuple of constants only, () included"
abbrev pub all_constant : Exprs → Bool
all_constant no_exprs = true
all_constant (more_exprs e es) = constant_part (part_of e) && all_constant es

abbrev pub fresh_folds : Fresh → Exprs → Bool
fresh_folds tuple es = all_constant es
fresh_folds list es = false

-- "Call of Dot or of a constant, unless a type call"
abbrev pub call_folds : List ℕ → Bool → Bool → Expr → Exprs → Bool
call_folds names args kwargs f es =
    (is_dot_part (part_of f) || constant_part (part_of f)) && not (is_type_call names args kwargs f es)

-- ---- counts, over the simplified parts

unfoldable mutual
  pub foldable : Expr → ℕ
  foldable (const c) = 0
  foldable (read p) = 0
  foldable (fresh f es) = foldables es + bit_of (fresh_folds f (optimize_exprs es))
  foldable (dict es) = foldables es
  foldable (if_then c t f) = foldable c + (foldable t + foldable f)
  foldable (Tree.not e) = foldable e
  foldable (type_is t e) = foldable e
  foldable (logic l x y) = foldable x + foldable y
  foldable (seq x y) = foldable x + foldable y
  foldable (oper h pay es) = foldables es + bit_of (oper_folds h (optimize_exprs es))
  foldable (call names args kwargs f es) =
      foldable f + (foldables es + bit_of (call_folds names args kwargs (optimize_expr f) (optimize_exprs es)))

  pub foldables : Exprs → ℕ
  foldables no_exprs = 0
  foldables (more_exprs e es) = foldable e + foldables es

unfoldable mutual
  pub foldable_target : Target → ℕ
  foldable_target (dot t e) = foldable e
  foldable_target (index x y) = foldable x + foldable y
  foldable_target (tuple_target ts) = foldable_targets ts
  foldable_target (slot s) = 0

  pub foldable_targets : Targets → ℕ
  foldable_targets no_targets = 0
  foldable_targets (more_targets t ts) = foldable_target t + foldable_targets ts

unfoldable mutual
  pub foldable_stmt : Stmt → ℕ
  foldable_stmt possible_gc = 0
  foldable_stmt break = 0
  foldable_stmt continue = 0
  foldable_stmt (return e) = foldable e
  foldable_stmt (expr e) = foldable e
  foldable_stmt (assign w t e) = foldable_target t + foldable e
  foldable_stmt (assign_modify op t e) = foldable_target t + foldable e
  foldable_stmt (if_stmt c t f) = foldable c + (foldable_behind t no_stmts + foldable_behind f no_stmts)
  foldable_stmt (for t e b) = foldable_target t + (foldable e + foldable_behind b no_stmts)

  -- not after an exit: the pass has left its list
  pub foldable_behind : Stmts → Stmts → ℕ
  foldable_behind no_stmts before = 0
  foldable_behind (more_stmts s ss) before =
      cond (is_terminal before) 0 (foldable_stmt s + foldable_behind ss (extend before (optimize_stmt s)))

-- the foldable count of a rule
unfoldable pub foldable_count : Stmts → ℕ
foldable_count ss = foldable_behind ss no_stmts
