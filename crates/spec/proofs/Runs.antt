-- Whole runs of some rules, with the record written out operation by operation and the end: document 01, 'Running', and
-- of loops over strings document 02, 2.3.
-- Where pruning changes such a rule, its pruned form is given and has the same run.
-- Assumes nothing.
use mathlib.Core.Bool.{Bool, true, false, cond}
use mathlib.Core.List.{List, [], ◌∷◌}
use mathlib.Core.Path.{◌≡◌, refl}
use Prim.Native.Nat.{ℕ, suc, ◌+◌}
use lib.Dec.{ltb}
use Rattle.spec.specs.Grammar.{header}
use Rattle.spec.specs.Tree
use Rattle.spec.specs.Tree.{Const, boolean, int, string, type_function, other, list, and, or}
use Rattle.spec.specs.Tree.{Place, local, captured, module', def}
use Rattle.spec.specs.Tree.{Expr, const, read, fresh, dict, if_then, type_is, logic, seq, oper, call}
use Rattle.spec.specs.Tree.{Exprs, no_exprs, more_exprs, dot, index, tuple_target, slot, local_slot}
use Rattle.spec.specs.Tree.{Targets, no_targets, more_targets}
use Rattle.spec.specs.Tree.{Stmt, possible_gc, break, continue, return, expr, assign, assign_modify, if_stmt, for}
use Rattle.spec.specs.Tree.{Stmts, no_stmts, more_stmts}
use Rattle.spec.specs.Value.{Operation, read_op, dict_op, oper_op, call_op}
use Rattle.spec.specs.Value.{assign_op, modify_op, round_op, take_op, gc_op}
use Rattle.spec.specs.Value.{dot_shape, index_shape, tuple_shape, slot_shape, no_shapes, more_shapes}
use Rattle.spec.specs.Value.{Value, constant, fresh_value, empty_dict, opaque}
use Rattle.spec.specs.Value.{Values, no_values, more_values}
use Rattle.spec.specs.Value.{Answer, gives, fails, Record, start, recorded, Rounds, times, stops, Choice}
use Rattle.spec.specs.Running.{run_rule, Run, End}
use Rattle.spec.specs.Running.{at_failure, at_return, at_break, at_continue, past_list}
use Rattle.spec.specs.PassStmts.{optimize}
use Rattle.spec.proofs.Computing.{computing_runs, computing_passes}

-- ---- choices

-- how many operations a record has
abbrev steps : Record → ℕ
steps start = 0
steps (recorded h o vs a) = suc (steps h)

-- None
abbrev a_none : Value
a_none = constant Tree.none

-- a value for each place, by its number
abbrev numbered : Place → Value
numbered (local n) = opaque (10 + n)
numbered (captured n) = opaque (20 + n)
numbered (module' n) = opaque (30 + n)
numbered (def n) = opaque (40 + n)

-- the same, but every local holds a constant
abbrev holding : Const → Place → Value
holding c (local n) = constant c
holding c (captured n) = opaque (20 + n)
holding c (module' n) = opaque (30 + n)
holding c (def n) = opaque (40 + n)

-- answers to calls: None; None in a record of fewer than six operations, and failure 9 after
abbrev calm : Record → Answer
calm h = gives a_none

abbrev fails_late : Record → Answer
fails_late h = cond (ltb (steps h) 6) (gives a_none) (fails 9)

-- a read gives its place's value, a call as told, an operator number 50, a round a number by the record; all else None
abbrev answer_by : (Place → Value) → (Record → Answer) → Record → Operation → Values → Answer
answer_by reads calls h (read_op p) vs = gives (reads p)
answer_by reads calls h (oper_op o pay) vs = gives (opaque 50)
answer_by reads calls h (call_op names args kwargs) vs = calls h
answer_by reads calls h round_op vs = gives (opaque (60 + steps h))
answer_by reads calls h _ vs = gives a_none

-- with the rounds of every loop, and one truth for all numbered values; type texts from 100 on
abbrev choose : (Place → Value) → (Record → Answer) → Rounds → Bool → Choice
choose reads calls loops b =
    record { answer = answer_by reads calls; rounds = λ h v. loops; truth = λ n. b; type_text = λ n. 100 + n }

abbrev yes : Choice
yes = choose numbered calm (times 2) true

abbrev no : Choice
no = choose numbered calm (times 2) false

abbrev failing : Choice
failing = choose numbered fails_late (times 2) true

abbrev no_start : Choice
no_start = choose numbered calm (stops 8) true

abbrev types : Choice
types = choose (holding type_function) calm (times 2) true

abbrev texts : Choice
texts = choose (holding (string 9)) calm (times 2) true

-- ---- records

abbrev one_value : Value → Values
one_value v = more_values v no_values

abbrev two_values : Value → Value → Values
two_values v w = more_values v (one_value w)

-- an operation with its operands and what it gave; a read of a place by its number; a failure
abbrev did : Operation → Values → Value → Record → Record
did o vs v = λ h. recorded h o vs (gives v)

abbrev did_read : Place → Record → Record
did_read p = did (read_op p) no_values (numbered p)

abbrev did_fail : Operation → Values → ℕ → Record → Record
did_fail o vs n = λ h. recorded h o vs (fails n)

-- operations in their order
abbrev after : Record → List (Record → Record) → Record
after h [] = h
after h (o ∷ os) = after (o h) os

-- a run: its end, and its operations in order
abbrev ran : End → List (Record → Record) → Run
ran e os = record { end = e; record' = after start os }

-- ---- parts of rules

abbrev single : Stmt → Stmts
single s = more_stmts s no_stmts

abbrev double : Stmt → Stmt → Stmts
double s r = more_stmts s (single r)

abbrev one_expr : Expr → Exprs
one_expr e = more_exprs e no_exprs

-- locals, [1] and True
abbrev local_at : ℕ → Expr
local_at n = read (local n)

abbrev list_one : Expr
list_one = fresh list (one_expr (const (int 1)))

abbrev a_true : Expr
a_true = const (boolean true)

-- calls of a function of the module, with nothing and with one argument
abbrev call_of : ℕ → Expr
call_of n = call [] false false (read (module' n)) no_exprs

abbrev call_on : Expr → Expr → Expr
call_on f e = call [] false false f (one_expr e)

abbrev plain_call : Operation
plain_call = call_op [] false false

-- ---- a test, then a call

-- the holder is the local?
abbrev is_holder : Expr
is_holder = oper (header 14 0) [] (more_exprs (read (module' 3)) (one_expr (local_at 0)))

-- releases if the holder is the local; and so written that pruning has to do
abbrev release : Stmts
release = single (if_stmt is_holder (single (expr (call_of 4))) no_stmts)

abbrev release_else : Stmts
release_else = single (if_stmt (Tree.not is_holder) (single (expr list_one)) (single (expr (Tree.not (call_of 4)))))

abbrev tested : Bool → List (Record → Record) → List (Record → Record)
tested b os =
    did_read (module' 3)
    ∷ did_read (local 0)
    ∷ did (oper_op (header 14 0) []) (two_values (opaque 33) (opaque 10)) (constant (boolean b))
    ∷ os

abbrev released_run : Run
released_run =
    ran past_list (tested true (did_read (module' 4) ∷ did plain_call (one_value (opaque 34)) a_none ∷ []))

abbrev kept_run : Run
kept_run = ran past_list (tested false [])

-- equal: the call is made; not equal: it is not
pub released : (run_rule yes release ≡ released_run) × (run_rule no release ≡ kept_run)
unfolding computing_runs
released = (refl, refl)

-- ---- a loop of two rounds, the second of which fails

-- for local 1 in module 5: module 6 of local 1
abbrev visit : Stmts
visit = double (for (slot (local_slot 1)) (read (module' 5)) (single (expr (call_on (read (module' 6)) (local_at 1)))))
    (expr (local_at 0))

-- the same, with a list that does nothing and a Not that is not asked for
abbrev visit_more : Stmts
visit_more = double (for (slot (local_slot 1)) (read (module' 5))
    (double (expr list_one) (expr (Tree.not (call_on (read (module' 6)) (local_at 1))))))
    (expr (local_at 0))

-- a round: its item, the item given to the target, the reads of the call
abbrev round_with : ℕ → List (Record → Record) → List (Record → Record)
round_with item os =
    did round_op (one_value (opaque 35)) (opaque item)
    ∷ did (take_op (slot_shape (local_slot 1))) (one_value (opaque item)) a_none
    ∷ did_read (module' 6)
    ∷ did_read (local 1)
    ∷ os

abbrev called : Record → Record
called = did plain_call (two_values (opaque 36) (opaque 11)) a_none

abbrev failed_run : Run
failed_run =
    ran (at_failure 9)
    (did_read (module' 5)
    ∷ round_with 61 (called ∷ round_with 66 (did_fail plain_call (two_values (opaque 36) (opaque 11)) 9 ∷ [])))

-- both rounds pass, and what is behind the loop runs
abbrev passed_run : Run
passed_run =
    ran past_list
    (did_read (module' 5) ∷ round_with 61 (called ∷ round_with 66 (called ∷ (did_read (local 0) ∷ []))))

-- the loop does not start: no record of that
abbrev unstarted_run : Run
unstarted_run = ran (at_failure 8) (did_read (module' 5) ∷ [])

pub visited : (run_rule failing visit ≡ failed_run)
    × ((run_rule yes visit ≡ passed_run) × (run_rule no_start visit ≡ unstarted_run))
unfolding computing_runs
visited = (refl, (refl, refl))

-- ---- a type call through a local

-- local 0 of module 1
abbrev call_local : Stmts
call_local = single (return (call_on (local_at 0) (read (module' 1))))

-- the type function by an If, and as it is
abbrev call_type : Expr → Stmts
call_type f = single (return (call_on f (read (module' 1))))

abbrev type_by_if : Expr
type_by_if = if_then a_true (const type_function) (local_at 0)

-- the type text as a string constant, and no record of the call
abbrev typed_run : Run
typed_run =
    ran (at_return (constant (string 131)))
    (did (read_op (local 0)) no_values (constant type_function) ∷ did_read (module' 1) ∷ [])

-- another value: the call is recorded
abbrev other_run : Run
other_run =
    ran (at_return a_none)
    (did_read (local 0) ∷ did_read (module' 1) ∷ did plain_call (two_values (opaque 10) (opaque 31)) a_none ∷ [])

abbrev type_run : Run
type_run = ran (at_return (constant (string 131))) (did_read (module' 1) ∷ [])

pub type_called : (run_rule types call_local ≡ typed_run)
    × ((run_rule yes call_local ≡ other_run) × (run_rule yes (call_type (const type_function)) ≡ type_run))
unfolding computing_runs
type_called = (refl, (refl, refl))

-- ---- exits

-- Break and Continue outside every loop, with a call behind them that is not made
abbrev exit_there : Stmt → Stmts
exit_there s = more_stmts (expr (type_is 3 (local_at 0))) (double s (expr (call_of 2)))

-- a loop with an If on a local before its call, and a call behind the loop
abbrev exit_inside : Stmt → Stmts
exit_inside s = double (for (slot (local_slot 1)) (read (module' 5))
    (double (if_stmt (local_at 0) (single s) no_stmts) (expr (call_of 2))))
    (expr (call_of 4))

-- a round up to the If
abbrev round_to : ℕ → List (Record → Record) → List (Record → Record)
round_to item os =
    did round_op (one_value (opaque 35)) (opaque item)
    ∷ did (take_op (slot_shape (local_slot 1))) (one_value (opaque item)) a_none
    ∷ did_read (local 0)
    ∷ os

-- the call behind the loop
abbrev behind : List (Record → Record)
behind = did_read (module' 4) ∷ did plain_call (one_value (opaque 34)) a_none ∷ []

abbrev exit_run : End → Run
exit_run e = ran e (did_read (local 0) ∷ [])

abbrev twice_read_run : Run
twice_read_run = ran (at_return (opaque 10)) (did_read (local 0) ∷ did_read (local 0) ∷ [])

abbrev broken_run : Run
broken_run = ran past_list (did_read (module' 5) ∷ round_to 61 behind)

abbrev continued_run : Run
continued_run = ran past_list (did_read (module' 5) ∷ round_to 61 (round_to 64 behind))

abbrev returned_run : Run
returned_run = ran (at_return a_none) (did_read (module' 5) ∷ round_to 61 [])

-- outside every loop: ends of their own
pub exits : (run_rule yes (exit_there break) ≡ exit_run at_break)
    × ((run_rule yes (exit_there continue) ≡ exit_run at_continue)
    × (run_rule yes (exit_there (return (local_at 0))) ≡ twice_read_run))
unfolding computing_runs
exits = (refl, (refl, refl))

-- inside: Break ends the loop, Continue its round, Return the run
pub exits_inside : (run_rule yes (exit_inside break) ≡ broken_run)
    × ((run_rule yes (exit_inside continue) ≡ continued_run)
    × (run_rule yes (exit_inside (return (const Tree.none))) ≡ returned_run))
unfolding computing_runs
exits_inside = (refl, (refl, refl))

-- ---- assignments

-- local 0 at local 1 becomes what module 2 gives; the value and the index so written that pruning has to do
abbrev put : Stmts
put = single (assign 5 (index (local_at 0) (local_at 1)) (call_of 2))

abbrev put_more : Stmts
put_more = single (assign 5 (index (local_at 0) (seq list_one (local_at 1))) (if_then a_true (call_of 2) (local_at 0)))

-- the value runs before the target's parts; operands: the value, then the target's values
abbrev put_run : Run
put_run =
    ran past_list
    (did_read (module' 2)
    ∷ did plain_call (one_value (opaque 32)) a_none
    ∷ did_read (local 0)
    ∷ did_read (local 1)
    ∷ did (assign_op 5 index_shape) (more_values a_none (two_values (opaque 10) (opaque 11))) a_none
    ∷ [])

-- AssignModify: the target's parts first, in both; PossibleGc is recorded
abbrev change : Stmts
change = double (assign_modify 3 (index (local_at 0) (local_at 1)) (call_of 2)) possible_gc

abbrev change_run : Run
change_run =
    ran past_list
    (did_read (local 0)
    ∷ did_read (local 1)
    ∷ did_read (module' 2)
    ∷ did plain_call (one_value (opaque 32)) a_none
    ∷ did (modify_op 3 index_shape) (more_values (opaque 10) (two_values (opaque 11) a_none)) a_none
    ∷ did gc_op no_values a_none
    ∷ [])

-- a tuple of targets is one operation: local 0's text 9 and local 1 at local 2
abbrev two_targets : Targets
two_targets = more_targets (dot 9 (local_at 0)) (more_targets (index (local_at 1) (local_at 2)) no_targets)

abbrev put_both : Stmts
put_both = single (assign 0 (tuple_target two_targets) (const Tree.none))

abbrev put_both_run : Run
put_both_run =
    ran past_list
    (did_read (local 0)
    ∷ did_read (local 1)
    ∷ did_read (local 2)
    ∷ did (assign_op 0 (tuple_shape (more_shapes (dot_shape 9) (more_shapes index_shape no_shapes))))
    (more_values a_none (more_values (opaque 10) (two_values (opaque 11) (opaque 12)))) a_none
    ∷ [])

pub assigns : (run_rule yes put ≡ put_run)
    × ((run_rule yes change ≡ change_run) × (run_rule yes put_both ≡ put_both_run))
unfolding computing_runs
assigns = (refl, (refl, refl))

-- ---- values

-- Or gives its left side itself where that is true, and its right side where it is not
abbrev either : Stmts
either = single (return (logic or (local_at 0) (call_of 2)))

-- a list carries the record at its making, which it is no part of
abbrev makes : Stmts
makes = single (return (fresh list (one_expr (local_at 0))))

abbrev right_run : Run
right_run =
    ran (at_return a_none) (did_read (local 0) ∷ did_read (module' 2) ∷ did plain_call (one_value (opaque 32)) a_none
    ∷ [])

abbrev made_run : Run
made_run =
    ran (at_return (fresh_value list (one_value (opaque 10)) (after start (did_read (local 0) ∷ []))))
    (did_read (local 0) ∷ [])

pub values : (run_rule yes either ≡ exit_run (at_return (opaque 10)))
    × ((run_rule no either ≡ right_run) × (run_rule yes makes ≡ made_run))
unfolding computing_runs
values = (refl, (refl, refl))

-- And gives its left side itself where that is false; Seq runs both and gives its right
abbrev both : Stmts
both = single (return (logic and (local_at 0) (call_of 2)))

abbrev in_turn : Stmts
in_turn = single (return (seq (local_at 0) (local_at 1)))

pub in_turn_lem : (run_rule no both ≡ exit_run (at_return (opaque 10)))
    × ((run_rule yes both ≡ right_run)
    × (run_rule yes in_turn ≡ ran (at_return (opaque 11)) (did_read (local 0) ∷ did_read (local 1) ∷ [])))
unfolding computing_runs
in_turn_lem = (refl, (refl, refl))

-- Not and TypeIs give a bool constant and leave no record
abbrev gave : Bool → Run
gave b = exit_run (at_return (constant (boolean b)))

pub bools : (run_rule yes (single (return (Tree.not (local_at 0)))) ≡ gave false)
    × ((run_rule no (single (return (Tree.not (local_at 0)))) ≡ gave true)
    × ((run_rule yes (single (return (type_is 110 (local_at 0)))) ≡ gave true)
    × (run_rule yes (single (return (type_is 3 (local_at 0)))) ≡ gave false)))
unfolding computing_runs
bools = (refl, (refl, (refl, refl)))

-- the empty dict is made, with its record; a dict of one pair is an operation
abbrev dict_of : Exprs → Stmts
dict_of es = single (return (dict es))

abbrev pair_run : Run
pair_run =
    ran (at_return a_none)
    (did_read (local 0) ∷ did_read (local 1) ∷ did dict_op (two_values (opaque 10) (opaque 11)) a_none ∷ [])

pub dicts : (run_rule yes (dict_of no_exprs) ≡ ran (at_return (empty_dict start)) [])
    × (run_rule yes (dict_of (more_exprs (local_at 0) (one_expr (local_at 1)))) ≡ pair_run)
unfolding computing_runs
dicts = (refl, refl)

-- the type function with a name, with args, or with two arguments is called as any other
abbrev type_with : List ℕ → Bool → Exprs → Stmts
type_with names args es = single (return (call names args false (const type_function) es))

abbrev type_with_run : List ℕ → Bool → Run
type_with_run names args =
    ran (at_return a_none)
    (did_read (local 0) ∷ did (call_op names args false) (two_values (constant type_function) (opaque 10)) a_none ∷ [])

abbrev type_of_two_run : Run
type_of_two_run =
    ran (at_return a_none)
    (did_read (local 0)
    ∷ did_read (local 1)
    ∷ did plain_call (more_values (constant type_function) (two_values (opaque 10) (opaque 11))) a_none
    ∷ [])

pub no_type_calls : (run_rule yes (type_with (9 ∷ []) false (one_expr (local_at 0))) ≡ type_with_run (9 ∷ []) false)
    × ((run_rule yes (type_with [] true (one_expr (local_at 0))) ≡ type_with_run [] true)
    × (run_rule yes (type_with [] false (more_exprs (local_at 0) (one_expr (local_at 1)))) ≡ type_of_two_run))
unfolding computing_runs
no_type_calls = (refl, (refl, refl))

-- ---- loops that have no round, and loops that fail

-- for local 1 in e: module 2, called; and a call behind the loop
abbrev loop_over : Expr → Stmts
loop_over e = double (for (slot (local_slot 1)) e (single (expr (call_of 2)))) (expr (call_of 4))

-- the loop leaves nothing, and the call behind it is made
abbrev behind_run : Run
behind_run = ran past_list behind

-- no round and no record over [], {} and an other marked empty, whatever the choice says of rounds
pub no_rounds : (run_rule no_start (loop_over (fresh list no_exprs)) ≡ behind_run)
    × ((run_rule no_start (loop_over (dict no_exprs)) ≡ behind_run)
    × (run_rule no_start (loop_over (const (other 1 9 true true))) ≡ behind_run))
unfolding computing_runs
no_rounds = (refl, (refl, refl))

-- "", a type call, and a type call whose answer is known to be ""
abbrev no_text : Expr
no_text = const (string 0)

abbrev type_of : Expr → Expr
type_of e = call_on (const type_function) e

abbrev typed_no_text : Expr
typed_no_text = type_of (const (other 5 0 false false))

-- 02, 2.3: "`for f in ""` stops the interpreter": nothing behind it runs. Two rounds of the choice are failure 2, and
-- its failure 8 stays 8.
pub over_no_text : (run_rule yes (loop_over no_text) ≡ ran (at_failure 2) [])
    × ((run_rule no_start (loop_over no_text) ≡ ran (at_failure 8) [])
    × (run_rule yes (loop_over (const (string 9))) ≡ ran (at_failure 2) []))
unfolding computing_runs
over_no_text = (refl, (refl, refl))

abbrev did_read_text : Record → Record
did_read_text = did (read_op (local 0)) no_values (constant (string 9))

-- "looping over a string constant or a type call's answer fails", also where a read answered the string; what the
-- iterable recorded stays
pub over_strings : (run_rule yes (loop_over (type_of (read (module' 1)))) ≡ ran (at_failure 2)
    (did_read (module' 1) ∷ []))
    × ((run_rule yes (loop_over typed_no_text) ≡ ran (at_failure 2) [])
    × (run_rule texts (loop_over (local_at 0)) ≡ ran (at_failure 2) (did_read_text ∷ [])))
unfolding computing_runs
over_strings = (refl, (refl, refl))

-- a round over a value, with the call
abbrev round_over : Value → ℕ → List (Record → Record) → List (Record → Record)
round_over v item os =
    did round_op (one_value v) (opaque item)
    ∷ did (take_op (slot_shape (local_slot 1))) (one_value (opaque item)) a_none
    ∷ did_read (module' 2)
    ∷ did plain_call (one_value (opaque 32)) a_none
    ∷ os

-- an other constant that is not marked, though its type text is that of strings
abbrev unmarked : Const
unmarked = other 1 4 true false

-- what is no string and not empty has the rounds that the choice gives
pub over_others : (run_rule yes (loop_over (local_at 0))
    ≡ ran past_list (did_read (local 0) ∷ round_over (opaque 10) 61 (round_over (opaque 10) 65 behind)))
    × (run_rule yes (loop_over (const unmarked))
    ≡ ran past_list (round_over (constant unmarked) 60 (round_over (constant unmarked) 64 behind)))
unfolding computing_runs
over_others = (refl, refl)

-- ---- pruned

-- what pruning makes of the rules that it changes
pub pruned_forms : (optimize release_else ≡ release)
    × ((optimize visit_more ≡ visit)
    × ((optimize (call_type type_by_if) ≡ call_type (const type_function))
    × ((optimize put_more ≡ put)
    × (optimize (exit_there break) ≡ double (expr (local_at 0)) break))))
unfolding computing_passes
pruned_forms = (refl, (refl, (refl, (refl, refl))))

-- 02, 2.3: "a pruned rule keeps that failure": a loop over "" stays, also one that the pass makes; a loop over an other
-- marked empty goes
pub pruned_loops : (optimize (loop_over no_text) ≡ loop_over no_text)
    × ((optimize (loop_over typed_no_text) ≡ loop_over no_text)
    × (optimize (loop_over (const (other 1 9 true true))) ≡ single (expr (call_of 4))))
unfolding computing_passes
pruned_loops = (refl, (refl, refl))

-- before pruning they run as their pruned forms do
pub before_pruning : (run_rule yes release_else ≡ released_run)
    × ((run_rule no release_else ≡ kept_run)
    × ((run_rule failing visit_more ≡ failed_run)
    × ((run_rule yes (call_type type_by_if) ≡ type_run)
    × (run_rule yes put_more ≡ put_run))))
unfolding computing_runs
before_pruning = (refl, (refl, (refl, (refl, refl))))

-- and so pruning leaves their runs
pub same_runs : (run_rule yes (optimize release_else) ≡ run_rule yes release_else)
    × ((run_rule no (optimize release_else) ≡ run_rule no release_else)
    × ((run_rule failing (optimize visit_more) ≡ run_rule failing visit_more)
    × ((run_rule yes (optimize (call_type type_by_if)) ≡ run_rule yes (call_type type_by_if))
    × ((run_rule yes (optimize put_more) ≡ run_rule yes put_more)
    × (run_rule yes (optimize (exit_there break)) ≡ run_rule yes (exit_there break))))))
unfolding computing_runs computing_passes
same_runs = (refl, (refl, (refl, (refl, (refl, refl)))))
