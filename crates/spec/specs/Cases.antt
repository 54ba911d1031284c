-- Document 01, 'Cases': the starred ones, and others, some of them of document 02, as rows of one table. A row is a
-- question and its answer, and `holds` computes whether the definitions give that answer. That all rows hold is the
-- theorem of proofs/Table.antt.
use Rattle.std.specs.Prelude.{Bool, true, false, not, ◌&&◌, List, [], ◌∷◌, ℕ, zero, suc, eqb}
use Rattle.std.specs.Bool.{beq}
use Rattle.spec.specs.Grammar.{header}
use Rattle.spec.specs.Tree
use Rattle.spec.specs.Tree.{boolean, int, string, type_function, len_function, other}
use Rattle.spec.specs.Tree.{local, captured, module', def, tuple, list, and, or}
use Rattle.spec.specs.Tree.{Expr, const, read, fresh, dict, if_then, type_is, logic, seq, oper, call}
use Rattle.spec.specs.Tree.{Exprs, no_exprs, more_exprs, Target, slot, local_slot}
use Rattle.spec.specs.Tree.{Stmt, break, continue, return, expr, if_stmt, for, Stmts, no_stmts, more_stmts}
use Rattle.spec.specs.Verdict.{pure, truth_of, definitely_bool, empty_iterable}
use Rattle.spec.specs.Pass.{not_expr, seq_expr, type_is_expr, logical_bin_op, if_expr, new_bool, optimize_expr}
use Rattle.spec.specs.Pass.{Condition, const_condition, expr_condition}
use Rattle.spec.specs.PassStmts.{extend, expr_stmts, for_stmts, optimize}
use Rattle.spec.specs.NothingDead.{nothing_dead}
use Rattle.spec.specs.Foldable.{foldable_count}
use Rattle.spec.specs.Inlining.{Safety, safe_nodes, unsafe_after, safety, Inline, neither, none_value, type_test}
use Rattle.spec.specs.Inlining.{safe_at, inline_body}
use Rattle.spec.specs.Same.{same_truth, same_expr, same_condition, same_stmts, same_safety, same_inline}
use Rattle.spec.specs.declared.Truth.{Truth}
use Rattle.spec.specs.declared.Truth.TheVariants as truth

-- ---- rows

-- one constructor for each kind of question: what is asked about, then the answer
pub data Row : Type 0 where
  pure_is : Expr → Bool → Row
  truth_is : Expr → Truth → Row
  definitely_bool_is : Expr → Bool → Row
  empty_iterable_is : Expr → Bool → Row
  -- ExprCompiledBool::new
  condition_is : Expr → Condition → Row
  -- `not`, `type_is`, `seq`, `logical_bin_op` and `if_expr` of their parts, `optimize` of an expression
  not_is : Expr → Expr → Row
  type_is_is : ℕ → Expr → Expr → Row
  seq_is : Expr → Expr → Expr → Row
  logic_is : Tree.Logic → Expr → Expr → Expr → Row
  if_is : Expr → Expr → Expr → Expr → Row
  pruned_expr_is : Expr → Expr → Row
  -- an expression as a statement; `for_stmt`; `extend`; one pass over a rule, and its foldable count
  statement_is : Expr → Stmts → Row
  for_is : Target → Expr → Stmts → Stmts → Row
  extend_is : Stmts → Stmts → Stmts → Row
  pruned_is : Stmts → Stmts → Row
  foldable_is : Stmts → ℕ → Row
  -- with this list something dead is left standing in a rule, whichever of the rule's lists it is
  dead_in : Stmts → Row
  -- nothing dead is left standing in the rule
  nothing_dead_in : Stmts → Row
  -- whether an expression is safe to inline with so many parameters; what a body gives with so many parameters, a first
  -- one that takes a position or not, star parameters or not, and so many parameter variables
  safety_is : ℕ → Expr → Safety → Row
  inline_is : ℕ → Bool → Bool → ℕ → Stmts → Inline → Row

-- lists of one statement: an If over a local, and a loop over it
abbrev pub if_local : Stmts → Stmts → Stmts
if_local t f = more_stmts (if_stmt (read (local 0)) t f) no_stmts

abbrev pub loop_local : Stmts → Stmts
loop_local ss = more_stmts (for (slot (local_slot 1)) (read (local 0)) ss) no_stmts

-- something is dead where the list is the rule's own, one arm, the other, a loop's body, and one in an arm
abbrev dead_anywhere : Stmts → Bool
dead_anywhere ss =
    not (nothing_dead ss) && (not (nothing_dead (if_local ss no_stmts)) && (not (nothing_dead (if_local no_stmts ss))
    && (not (nothing_dead (loop_local ss)) && not (nothing_dead (if_local (loop_local ss) no_stmts)))))

-- the definitions give the answer
abbrev pub holds : Row → Bool
holds (pure_is e b) = beq (pure e) b
holds (truth_is e t) = same_truth (truth_of e) t
holds (definitely_bool_is e b) = beq (definitely_bool e) b
holds (empty_iterable_is e b) = beq (empty_iterable e) b
holds (condition_is e c) = same_condition (new_bool e) c
holds (not_is e r) = same_expr (not_expr e) r
holds (type_is_is t e r) = same_expr (type_is_expr t e) r
holds (seq_is x y r) = same_expr (seq_expr x y) r
holds (logic_is l x y r) = same_expr (logical_bin_op l x y) r
holds (if_is c t f r) = same_expr (if_expr c t f) r
holds (pruned_expr_is e r) = same_expr (optimize_expr e) r
holds (statement_is e rs) = same_stmts (expr_stmts e) rs
holds (for_is t e b rs) = same_stmts (for_stmts t e b) rs
holds (extend_is ss more rs) = same_stmts (extend ss more) rs
holds (pruned_is ss rs) = same_stmts (optimize ss) rs
holds (foldable_is ss n) = eqb (foldable_count ss) n
holds (dead_in ss) = dead_anywhere ss
holds (nothing_dead_in ss) = nothing_dead ss
holds (safety_is params e s) = same_safety (safety params e) s
holds (inline_is params positional star variables ss i) =
    same_inline (inline_body params positional star variables ss) i

abbrev pub all : List Row → Bool
all [] = true
all (row ∷ rows) = holds row && all rows

-- ---- what they are about

-- "L is a local"
abbrev pub a_local : Expr
a_local = read (local 0)

-- False, True, 1, a string, and the empty one
abbrev pub a_false : Expr
a_false = const (boolean false)

abbrev pub a_true : Expr
a_true = const (boolean true)

abbrev a_one : Expr
a_one = const (int 1)

abbrev a_string : Expr
a_string = const (string 9)

abbrev no_string : Expr
no_string = const (string 0)

-- one part, two parts
abbrev one : Expr → Exprs
one e = more_exprs e no_exprs

abbrev two : Expr → Expr → Exprs
two x y = more_exprs x (one y)

-- [], [1] and [L]
abbrev pub no_list : Expr
no_list = fresh list no_exprs

abbrev list_one : Expr
list_one = fresh list (one a_one)

abbrev list_local : Expr
list_local = fresh list (one a_local)

-- type(e)
abbrev type_call : Expr → Expr
type_call e = call [] false false (const type_function) (one e)

-- Builtin2 with a detail: 0 Equals, 1 In, 3 Add, 5 Percent
abbrev binary : ℕ → Expr → Expr → Expr
binary d x y = oper (header 14 d) [] (two x y)

abbrev a_in : Expr
a_in = binary 1 a_local a_local

-- "a and b are calls": of functions of the module, with no arguments
abbrev pub call_a : Expr
call_a = call [] false false (read (module' 0)) no_exprs

abbrev call_b : Expr
call_b = call [] false false (read (module' 1)) no_exprs

-- TypeIs of a list: pure, and its truth is unknown
abbrev is_list : Expr → Expr
is_list e = type_is 7 e

-- And(TypeIs(7,[]),[]): a condition that becomes False, as an expression
abbrev becomes_false : Expr
becomes_false = logic and (is_list no_list) no_list

-- lists of one statement and of two
abbrev pub single : Stmt → Stmts
single s = more_stmts s no_stmts

abbrev pub double : Stmt → Stmt → Stmts
double s r = more_stmts s (single r)

-- a and b as statements
abbrev pub arm_a : Stmts
arm_a = single (expr call_a)

abbrev arm_b : Stmts
arm_b = single (expr call_b)

-- a loop with a body
abbrev pub loop_over : Expr → Stmt
loop_over e = for (slot (local_slot 1)) e arm_a

-- an If with Return in both arms
abbrev both_return : Stmt
both_return = if_stmt a_local (single (return call_a)) (single (return call_b))

-- n times 1 and then others; and a list of them, whose first node is the list itself, so that the first of the others
-- is node n + 2
abbrev ones_then : ℕ → Exprs → Exprs
ones_then zero es = es
ones_then (suc n) es = more_exprs a_one (ones_then n es)

abbrev list_ones : ℕ → Exprs → Expr
list_ones n es = fresh list (ones_then n es)

-- f, a captured local, and a call of it
abbrev a_captured : Expr
a_captured = read (captured 0)

abbrev call_captured : Exprs → Expr
call_captured es = call [] false false a_captured es

-- TypeIs of a local
abbrev test_of : ℕ → Expr
test_of n = type_is 9 (read (local n))

-- ---- the table

abbrev pub cases : List Row
cases =
    -- "* And(L,False) unknown; And(False,L) no."
    truth_is (logic and a_local a_false) truth.Unknown
    ∷ truth_is (logic and a_false a_local) truth.No
    -- "* {} pure; one pair not."
    ∷ pure_is (dict no_exprs) true
    ∷ pure_is (dict (two a_local a_local)) false
    ∷ pure_is (dict (two a_one a_one)) false
    -- "* Not(Not(L)) stays; Not(Not(In)) is In."
    ∷ not_is (Tree.not a_local) (Tree.not (Tree.not a_local))
    ∷ not_is (Tree.not a_in) a_in
    ∷ pruned_expr_is (Tree.not (Tree.not a_local)) (Tree.not (Tree.not a_local))
    ∷ pruned_expr_is (Tree.not (Tree.not a_in)) a_in
    -- "* if_expr(Not(L),a,b) is If(L,b,a)."
    ∷ if_is (Tree.not a_local) call_a call_b (if_then a_local call_b call_a)
    -- "* if_expr(And(L,False),a,b) is Seq(L,b)."
    ∷ if_is (logic and a_local a_false) call_a call_b (seq a_local call_b)
    -- "* if_expr(And(TypeIs([1]),False),a,b) is If(False,a,b)."
    ∷ if_is (logic and (is_list list_one) a_false) call_a call_b (if_then a_false call_a call_b)
    -- "* Statement And(L,[1]) becomes L."
    ∷ statement_is (logic and a_local list_one) (single (expr a_local))
    ∷ pruned_is (single (expr (logic and a_local list_one))) (single (expr a_local))
    -- "* For over [] vanishes; over [L] stays."
    ∷ for_is (slot (local_slot 1)) no_list arm_a no_stmts
    ∷ for_is (slot (local_slot 1)) list_local arm_a (single (loop_over list_local))
    ∷ pruned_is (single (loop_over no_list)) no_stmts
    ∷ pruned_is (single (loop_over list_local)) (single (loop_over list_local))
    -- "* Return, L becomes Return."
    ∷ pruned_is (double (return call_a) (expr a_local)) (single (return call_a))
    -- "* If with Return in both arms, then Break: Break stays."
    ∷ pruned_is (double both_return break) (double both_return break)
    -- "* 101 nodes pass, 102 fail."
    ∷ safety_is 0 (list_ones 100 no_exprs) (safe_nodes 101)
    ∷ safety_is 0 (list_ones 101 no_exprs) (unsafe_after 101)
    -- "* Local 0 passes with 1 parameter, not 0."
    ∷ safety_is 1 a_local (safe_nodes 1)
    ∷ safety_is 0 a_local (unsafe_after 1)
    -- not starred: locals, lists, type calls
    ∷ pure_is a_local false
    ∷ pure_is list_local false
    ∷ pure_is list_one true
    ∷ pure_is (type_call a_one) true
    ∷ pure_is (type_call a_local) false
    ∷ definitely_bool_is (Tree.not (Tree.not a_in)) true
    ∷ definitely_bool_is a_in true
    ∷ definitely_bool_is a_local false
    ∷ empty_iterable_is no_list true
    ∷ empty_iterable_is list_local false
    -- 02, 2.3: "Now the empty string is no empty iterable"; an other is one by its mark, whatever its truth and type
    ∷ empty_iterable_is no_string false
    ∷ empty_iterable_is a_string false
    ∷ empty_iterable_is (const (other 1 9 false true)) true
    ∷ empty_iterable_is (const (other 1 4 true true)) true
    ∷ empty_iterable_is (const (other 1 9 false false)) false
    ∷ truth_is no_string truth.No
    -- and a loop over it stays, also where the pass makes "" of a type call; a loop over a marked other goes
    ∷ for_is (slot (local_slot 1)) no_string arm_a (single (loop_over no_string))
    ∷ pruned_is (double (loop_over no_string) (expr call_b)) (double (loop_over no_string) (expr call_b))
    ∷ pruned_is (single (loop_over (type_call (const (other 1 0 false false))))) (single (loop_over no_string))
    ∷ pruned_is (double (loop_over (const (other 1 0 false true))) (expr call_b)) arm_b
    -- conditions: Not around a condition; a deciding right stays behind what is not pure, and is an expression
    -- where it stands alone; a neutral right goes; a constant left that decides, and one that does not
    ∷ condition_is (Tree.not a_local) (expr_condition (Tree.not a_local))
    ∷ condition_is (Tree.not a_one) (const_condition false)
    ∷ condition_is (logic and a_local a_false) (expr_condition (seq a_local a_false))
    ∷ condition_is (logic or a_local a_true) (expr_condition (seq a_local a_true))
    ∷ condition_is becomes_false (expr_condition a_false)
    ∷ condition_is (logic and a_local a_true) (expr_condition a_local)
    ∷ condition_is (logic or a_local a_false) (expr_condition a_local)
    ∷ condition_is (logic and a_true a_local) (expr_condition a_local)
    ∷ condition_is (logic or a_true a_local) (const_condition true)
    ∷ condition_is (logic or a_local a_in) (expr_condition (logic or a_local a_in))
    -- constructors
    ∷ type_is_is 3 a_one a_true
    ∷ type_is_is 4 a_one a_false
    ∷ type_is_is 7 no_list (is_list no_list)
    ∷ seq_is a_local call_a (seq a_local call_a)
    ∷ seq_is list_one call_a call_a
    ∷ logic_is and no_list a_local no_list
    ∷ logic_is or no_list a_local a_local
    ∷ logic_is and a_local no_list (logic and a_local no_list)
    ∷ if_is (logic or a_local a_true) call_a call_b (seq a_local call_a)
    ∷ pruned_expr_is (type_call list_one) (const (string 7))
    ∷ pruned_expr_is (type_call a_local) (type_call a_local)
    -- statements: a list gives its parts in order; Seq's left goes ahead; Not swaps arms
    ∷ statement_is (fresh tuple (two call_a (Tree.not call_b))) (double (expr call_a) (expr call_b))
    ∷ statement_is (logic and a_local call_a) (single (if_stmt a_local arm_a no_stmts))
    ∷ statement_is (logic or a_local call_a) (single (if_stmt a_local no_stmts arm_a))
    ∷ statement_is (seq a_local call_a) (single (expr (seq a_local call_a)))
    ∷ pruned_is (single (if_stmt (Tree.not a_local) arm_a arm_b)) (single (if_stmt a_local arm_b arm_a))
    ∷ pruned_is (single (if_stmt (logic and a_local a_false) arm_a arm_b)) (double (expr a_local) (expr call_b))
    ∷ pruned_is (single (if_stmt a_local no_stmts no_stmts)) (single (expr a_local))
    ∷ pruned_is (double (expr call_a) (expr list_one)) arm_a
    ∷ pruned_is (double (expr list_one) (expr call_a)) arm_a
    ∷ pruned_is (double (if_stmt a_true (single break) arm_a) (expr call_b)) (single break)
    -- only the last statement of a list makes `extend` drop its right, and an If there does not
    ∷ extend_is (double (expr a_local) break) arm_a (double (expr a_local) break)
    ∷ extend_is (double break (expr a_local)) arm_a (more_stmts break (double (expr a_local) (expr call_a)))
    ∷ extend_is (single both_return) arm_a (double both_return (expr call_a))
    -- how often a condition is simplified shows: with Not around it once more
    ∷ pruned_is (single (if_stmt (logic or becomes_false a_local) arm_a arm_b))
    (single (if_stmt (logic or a_false a_local) arm_a arm_b))
    ∷ pruned_is (single (if_stmt (Tree.not (logic or becomes_false a_local)) arm_a arm_b))
    (single (if_stmt a_local arm_b arm_a))
    -- foldable places: a call of Dot of a constant is two; () is one
    ∷ foldable_is (single (expr (call [] false false (oper (header 11 7) (9 ∷ []) (one a_one)) no_exprs))) 2
    ∷ foldable_is (single (expr (call [] false false (oper (header 11 7) (9 ∷ []) (one a_local)) no_exprs))) 1
    ∷ foldable_is (single (return (fresh tuple no_exprs))) 1
    ∷ foldable_is (single (return (fresh tuple (two a_one a_local)))) 0
    ∷ foldable_is (single (return no_list)) 0
    -- Equals of type(L) and "x" in either order; Percent with a string left only
    ∷ foldable_is (single (return (binary 0 (type_call a_local) a_string))) 1
    ∷ foldable_is (single (return (binary 0 a_string (type_call a_local)))) 1
    ∷ foldable_is (single (return (binary 1 a_string (type_call a_local)))) 0
    ∷ foldable_is (single (return (binary 5 a_string a_local))) 1
    ∷ foldable_is (single (return (binary 5 a_local a_string))) 0
    -- two constants, one place though two lines fit; Add of lists of any length; Slice and Index2 of a constant
    ∷ foldable_is (single (return (binary 3 a_one a_one))) 1
    ∷ foldable_is (single (return (binary 3 list_local a_one))) 1
    ∷ foldable_is (single (return (binary 3 list_local a_local))) 0
    ∷ foldable_is (single (return (oper (header 10 1) [] (two a_string a_local)))) 1
    ∷ foldable_is (single (return (oper 15 [] (more_exprs a_string (two a_local a_local))))) 1
    ∷ foldable_is (single (return (oper 15 [] (more_exprs a_local (two a_one a_one))))) 0
    -- Not and TypeIs are none; a call of a constant is one unless it is a type call, also one by simplifying
    ∷ foldable_is (single (return (Tree.not (type_is 3 a_one)))) 0
    ∷ foldable_is (single (return (call [] false false (const len_function) (one a_local)))) 1
    ∷ foldable_is (single (return (type_call a_local))) 0
    ∷ foldable_is (single (return (call [] false false (if_then a_true (const type_function) a_local) (one a_local)))) 0
    -- not after Return; in a dropped arm and in a dropped loop's body
    ∷ foldable_is (double (return a_local) (return (fresh tuple no_exprs))) 0
    ∷ foldable_is (single (if_stmt a_false (single (return (fresh tuple no_exprs))) no_stmts)) 1
    ∷ foldable_is (single (for (slot (local_slot 1)) no_list (single (expr (fresh tuple no_exprs))))) 1
    -- 02, 2.7, "For every list in a pruned rule, at any depth": "no statement after Break, Continue or Return"; an If
    -- with Return in both arms is none of these
    ∷ dead_in (double break (expr call_a))
    ∷ dead_in (double continue (expr call_a))
    ∷ dead_in (double (return call_a) (expr call_a))
    ∷ nothing_dead_in (double (expr call_a) (return call_a))
    ∷ nothing_dead_in (double both_return break)
    -- "no pure expression statement", of whatever kind
    ∷ dead_in (single (expr a_true))
    ∷ dead_in (single (expr list_one))
    ∷ dead_in (single (expr (dict no_exprs)))
    ∷ dead_in (single (expr (Tree.not (is_list no_list))))
    ∷ dead_in (single (expr (if_then a_one (logic and a_one a_one) (seq a_one a_one))))
    ∷ dead_in (single (expr (type_call a_one)))
    ∷ dead_in (double (expr call_a) (expr a_one))
    ∷ nothing_dead_in (if_local (loop_local (single (expr list_local))) arm_b)
    -- "no If statement with both arms empty": one may be
    ∷ dead_in (if_local no_stmts no_stmts)
    ∷ nothing_dead_in (if_local arm_a no_stmts)
    ∷ nothing_dead_in (if_local no_stmts arm_a)
    -- "or whose condition is Not or Seq", whichever arms it has: a part of the condition may be
    ∷ dead_in (single (if_stmt (Tree.not a_local) arm_a no_stmts))
    ∷ dead_in (single (if_stmt (Tree.not a_local) no_stmts arm_a))
    ∷ dead_in (single (if_stmt (Tree.not a_local) arm_a arm_b))
    ∷ dead_in (single (if_stmt (seq call_a a_local) arm_a no_stmts))
    ∷ dead_in (single (if_stmt (seq call_a a_local) no_stmts arm_a))
    ∷ dead_in (single (if_stmt (seq call_a a_local) arm_a arm_b))
    ∷ nothing_dead_in (single (if_stmt (logic and (Tree.not a_local) (seq call_a a_local)) arm_a no_stmts))
    -- "no loop over an empty iterable": the empty string is none (2.3)
    ∷ dead_in (single (loop_over no_list))
    ∷ dead_in (single (loop_over (fresh tuple no_exprs)))
    ∷ dead_in (single (loop_over (dict no_exprs)))
    ∷ dead_in (single (loop_over (const (other 1 9 false true))))
    ∷ nothing_dead_in (single (loop_over no_string))
    ∷ nothing_dead_in (single (loop_over list_local))
    -- 2.7 does not say that nothing more could go: one pass can leave a condition that is a constant, and it keeps a
    -- loop and a statement that do nothing but what stands to the left in a Seq
    ∷ pruned_is (single (if_stmt becomes_false arm_a arm_b)) (single (if_stmt a_false arm_a arm_b))
    ∷ nothing_dead_in (single (if_stmt a_false arm_a arm_b))
    ∷ pruned_is (single (loop_over (seq call_a no_list))) (single (loop_over (seq call_a no_list)))
    ∷ nothing_dead_in (single (loop_over (seq call_a no_list)))
    ∷ pruned_is (single (expr (seq call_a a_one))) (single (expr (seq call_a a_one)))
    ∷ nothing_dead_in (single (expr (seq call_a a_one)))
    -- safe to inline: a node of any other kind counts; not so a captured local, a module's value, a def, also as a part
    ∷ safety_is 2 (if_then a_local (binary 3 (read (local 1)) a_one) (dict (two a_string list_local))) (safe_nodes 9)
    ∷ safety_is 1 (if_then a_local (binary 3 (read (local 1)) a_one) (dict (two a_string list_local))) (unsafe_after 4)
    ∷ safety_is 9 (read (captured 0)) (unsafe_after 1)
    ∷ safety_is 9 (fresh list (two a_one call_a)) (unsafe_after 4)
    ∷ safety_is 9 (Tree.not (read (def 0))) (unsafe_after 2)
    -- 02, 2.4: the forbidden node as the 1st, the 100th, the 101st and the 102nd; [1, 2, f()]
    ∷ safety_is 0 (read (module' 0)) (unsafe_after 1)
    ∷ safety_is 0 (list_ones 98 (one a_captured)) (unsafe_after 100)
    ∷ safety_is 0 (list_ones 98 (two a_captured a_one)) (unsafe_after 100)
    ∷ safety_is 0 (list_ones 99 (one a_captured)) (unsafe_after 101)
    ∷ safety_is 0 (list_ones 99 (two a_captured a_one)) (unsafe_after 101)
    ∷ safety_is 0 (list_ones 100 (one a_captured)) (unsafe_after 101)
    ∷ safety_is 0 (fresh list (more_exprs a_one (two (const (int 2)) (call_captured no_exprs)))) (unsafe_after 5)
    -- nothing behind it counts, however much there is, nor a second one; a Local at the count is as good
    ∷ safety_is 0 (fresh list (more_exprs a_captured (ones_then 200 no_exprs))) (unsafe_after 2)
    ∷ safety_is 1 (fresh tuple (two a_local (fresh list (two (read (local 1)) a_captured)))) (unsafe_after 4)
    -- a call's callee comes before its arguments, a key before its value
    ∷ safety_is 0 (call_captured (two a_one a_one)) (unsafe_after 2)
    ∷ safety_is 0 (dict (more_exprs a_one (more_exprs a_captured (two a_one a_one)))) (unsafe_after 3)
    -- bodies: one positional parameter and the return of a TypeIs of Local 0 are a type test, with star parameters too
    ∷ inline_is 1 true false 1 (single (return (test_of 0))) (type_test 9)
    ∷ inline_is 1 true true 1 (double (return (test_of 0)) break) (type_test 9)
    ∷ inline_is 1 false false 1 (single (return (test_of 0))) (safe_at 2)
    ∷ inline_is 2 true false 2 (single (return (test_of 0))) (safe_at 2)
    ∷ inline_is 1 true false 2 (single (return (test_of 1))) (safe_at 2)
    ∷ inline_is 1 true true 2 (single (return (test_of 1))) neither
    -- else, without star parameters, nothing gives None; the first statement has to be a Return, of what is safe with
    -- the parameter variables
    ∷ inline_is 3 true false 3 no_stmts none_value
    ∷ inline_is 0 false true 0 no_stmts neither
    ∷ inline_is 0 false false 1 (double (return a_local) (expr call_a)) (safe_at 2)
    ∷ inline_is 1 false false 0 (single (return a_local)) neither
    ∷ inline_is 1 false true 1 (single (return a_local)) neither
    ∷ inline_is 0 false false 0 (single (return call_a)) neither
    ∷ inline_is 0 false false 0 (double (expr a_one) (return a_one)) neither
    ∷ []
