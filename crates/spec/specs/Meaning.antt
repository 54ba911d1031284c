-- What a tree of words means: the expression, target, statement or rule whose words it has.
use Rattle.std.specs.Prelude.{Bool, cond, List, ℕ, zero, suc, ◌%◌, eqb, get_or, drop}
use Rattle.spec.specs.Outcome.{Outcome, given}
use Rattle.spec.specs.Rose.{Rose, Roses, node, nil, cons}
use Rattle.spec.specs.Grammar.{header, kind_in, detail_in, bit, within}
use Rattle.spec.specs.Reading.{bind, read_words}
use Rattle.spec.specs.Tree
use Rattle.spec.specs.Tree.{Const, boolean, int, string, type_function, len_function, other}
use Rattle.spec.specs.Tree.{Place, local, captured, module', def, tuple, list, and, or}
use Rattle.spec.specs.Tree.{Slot, local_slot, captured_slot, module_slot}
use Rattle.spec.specs.Tree.{Expr, const, read, fresh, dict, if_then, not, type_is, logic, seq, oper, call}
use Rattle.spec.specs.Tree.{Exprs, no_exprs, more_exprs}
use Rattle.spec.specs.Tree.{Target, dot, index, tuple_target, slot, Targets, no_targets, more_targets}
use Rattle.spec.specs.Tree.{Stmt, possible_gc, break, continue, return, expr, assign, assign_modify, if_stmt, for}
use Rattle.spec.specs.Tree.{Stmts, no_stmts, more_stmts}
use Rattle.spec.specs.declared.Sort.TheVariants as sort

-- bit n of a word as a truth, for a power of two 2^n
abbrev pub flag : ℕ → ℕ → Bool
flag power w = eqb (bit power w) 1

abbrev pub const_of : ℕ → List ℕ → Const
const_of class pay =
    cond (eqb class 0) Tree.none
    (cond (eqb class 1) (boolean (eqb (get_or pay 0 0) 1))
    (cond (eqb class 2) (int (get_or pay 0 0))
    (cond (eqb class 3) (string (get_or pay 0 0))
    (cond (eqb class 4) type_function
    (cond (eqb class 5) len_function
    (other (get_or pay 0 0) (get_or pay 1 0 % 65536) (flag 65536 (get_or pay 1 0)) (flag 131072 (get_or pay 1 0))))))))

abbrev pub place_of : ℕ → ℕ → Place
place_of k n = cond (eqb k 2) (local n) (cond (eqb k 3) (captured n) (cond (eqb k 4) (module' n) (def n)))

abbrev pub slot_of : ℕ → List ℕ → Slot
slot_of k pay =
    cond (eqb k 67) (local_slot (get_or pay 0 0))
    (cond (eqb k 68) (captured_slot (get_or pay 0 0)) (module_slot (get_or pay 0 0) (get_or pay 1 0)))

-- part i; there is always one where this is asked of a valid tree
abbrev pub part_e : ℕ → Exprs → Expr
part_e i no_exprs = const Tree.none
part_e zero (more_exprs e es) = e
part_e (suc i) (more_exprs e es) = part_e i es

abbrev pub rest_e : Exprs → Exprs
rest_e no_exprs = no_exprs
rest_e (more_exprs e es) = es

abbrev pub part_t : Targets → Target
part_t no_targets = slot (local_slot 0)
part_t (more_targets t ts) = t

-- an expression by its kind, detail, header, payload and parts
abbrev pub expr_by : ℕ → ℕ → ℕ → List ℕ → Exprs → Expr
expr_by k d h pay es =
    cond (eqb k 1) (const (const_of d pay))
    (cond (within 2 5 k) (read (place_of k (get_or pay 0 0)))
    (cond (eqb k 6) (fresh tuple es)
    (cond (eqb k 7) (fresh list es)
    (cond (eqb k 8) (dict es)
    (cond (eqb k 9) (if_then (part_e 0 es) (part_e 1 es) (part_e 2 es))
    (cond (eqb h (header 11 3)) (not (part_e 0 es))
    (cond (eqb h (header 11 4)) (type_is (get_or pay 0 0) (part_e 0 es))
    (cond (eqb k 12) (logic (cond (eqb d 0) and or) (part_e 0 es) (part_e 1 es))
    (cond (eqb k 13) (seq (part_e 0 es) (part_e 1 es))
    (cond (eqb k 16)
    (call (drop 1 pay) (flag 65536 (get_or pay 0 0)) (flag 131072 (get_or pay 0 0)) (part_e 0 es) (rest_e es))
    (oper h pay es)))))))))))

abbrev pub target_by : ℕ → List ℕ → Exprs → Targets → Target
target_by k pay es ts =
    cond (eqb k 64) (dot (get_or pay 0 0) (part_e 0 es))
    (cond (eqb k 65) (index (part_e 0 es) (part_e 1 es)) (cond (eqb k 66) (tuple_target ts) (slot (slot_of k pay))))

-- a run of lists of statements
pub data Lists : Type 0 where
  no_lists : Lists
  more_lists : Stmts → Lists → Lists

abbrev pub part_l : ℕ → Lists → Stmts
part_l i no_lists = no_stmts
part_l zero (more_lists l ls) = l
part_l (suc i) (more_lists l ls) = part_l i ls

abbrev pub stmt_by : ℕ → ℕ → List ℕ → Exprs → Targets → Lists → Stmt
stmt_by k d pay es ts ls =
    cond (eqb k 32) possible_gc
    (cond (eqb k 33) (return (part_e 0 es))
    (cond (eqb k 34) (expr (part_e 0 es))
    (cond (eqb k 35) (assign (get_or pay 0 0) (part_t ts) (part_e 1 es))
    (cond (eqb k 36) (assign_modify d (part_t ts) (part_e 1 es))
    (cond (eqb k 37) (if_stmt (part_e 0 es) (part_l 1 ls) (part_l 2 ls))
    (cond (eqb k 38) (for (part_t ts) (part_e 1 es) (part_l 2 ls)) (cond (eqb k 39) break continue)))))))

unfoldable mutual
  pub expr_of : Rose → Expr
  expr_of (node s own ps) =
      expr_by (kind_in (get_or own 0 0)) (detail_in (get_or own 0 0)) (get_or own 0 0) (drop 1 own) (exprs_of ps)

  pub exprs_of : Roses → Exprs
  exprs_of nil = no_exprs
  exprs_of (cons p ps) = more_exprs (expr_of p) (exprs_of ps)

unfoldable mutual
  pub target_of : Rose → Target
  target_of (node s own ps) = target_by (kind_in (get_or own 0 0)) (drop 1 own) (exprs_of ps) (targets_of ps)

  pub targets_of : Roses → Targets
  targets_of nil = no_targets
  targets_of (cons p ps) = more_targets (target_of p) (targets_of ps)

unfoldable mutual
  pub stmt_of : Rose → Stmt
  stmt_of (node s own ps) =
      stmt_by (kind_in (get_or own 0 0)) (detail_in (get_or own 0 0)) (drop 1 own) (exprs_of ps) (targets_of ps)
      (lists_of ps)

  -- a list's statements
  pub list_of : Rose → Stmts
  list_of (node s own ps) = stmts_of ps

  pub stmts_of : Roses → Stmts
  stmts_of nil = no_stmts
  stmts_of (cons p ps) = more_stmts (stmt_of p) (stmts_of ps)

  -- each part as a list
  pub lists_of : Roses → Lists
  lists_of nil = no_lists
  lists_of (cons p ps) = more_lists (list_of p) (lists_of ps)

-- "The words hold one expression"
abbrev pub read_expr : List ℕ → Outcome Expr
read_expr ws = bind (read_words sort.Expr ws) (λ r. given (expr_of r))

-- "A rule is a list"
abbrev pub read_rule : List ℕ → Outcome Stmts
read_rule ws = bind (read_words sort.List ws) (λ r. given (list_of r))
