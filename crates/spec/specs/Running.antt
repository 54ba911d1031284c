-- What running a rule does: document 01, 'Running', sentence by sentence. A step takes the record so far to a result
-- with a longer record, or to a failure with its record.
use Rattle.std.specs.Prelude.{Bool, true, false, not, cond, ◌&&◌, ℕ, zero, suc, eqb}
use Rattle.spec.specs.Tree
use Rattle.spec.specs.Tree.{
  boolean,
  string,
  Fresh,
  Logic,
  and,
  or,
  Expr,
  const,
  read,
  fresh,
  dict,
  if_then,
  type_is,
  logic,
  seq,
  oper,
  call,
}
use Rattle.spec.specs.Tree.{
  Exprs,
  no_exprs,
  more_exprs,
  Target,
  dot,
  index,
  tuple_target,
  slot,
  Targets,
  no_targets,
  more_targets,
}
use Rattle.spec.specs.Tree.{
  Stmt,
  possible_gc,
  break,
  continue,
  return,
  expr,
  assign,
  assign_modify,
  if_stmt,
  for,
  Stmts,
  no_stmts,
  more_stmts,
}
use Rattle.spec.specs.Verdict.{is_plain}
use Rattle.spec.specs.Value.{shape, Operation, read_op, dict_op, oper_op, call_op, assign_op, modify_op, round_op}
use Rattle.spec.specs.Value.{take_op, gc_op}
use Rattle.spec.specs.Value.{
  Value,
  constant,
  fresh_value,
  empty_dict,
  Values,
  no_values,
  more_values,
  Answer,
  gives,
  fails,
}
use Rattle.spec.specs.Value.{Record, start, recorded, Rounds, times, stops, Choice, join_values}
use Rattle.spec.specs.Value.{value_truth, value_type, is_type_value, rounds_of, answer_to}

-- ---- steps

pub data Result (A : Type 0) : Type 0 where
  done : A → Record → Result A
  failed : ℕ → Record → Result A

abbrev pub Step : Type 0 → Type 0
Step A = Record → Result A

unfoldable pub next : {A B : Type 0} → Result A → (A → Step B) → Result B
next (done a h) k = k a h
next (failed f h) k = failed f h

unfoldable pub give : {A : Type 0} → A → Step A
give a = λ h. done a h

-- one step, then another
unfoldable pub bind : {A B : Type 0} → Step A → (A → Step B) → Step B
bind m k = λ h. next (m h) k

unfoldable pub answered : Record → Operation → Values → Answer → Result Value
answered h o vs (gives v) = done v (recorded h o vs (gives v))
answered h o vs (fails f) = failed f (recorded h o vs (fails f))

unfoldable pub started : Record → Rounds → Result ℕ
started h (times n) = done n h
started h (stops f) = failed f h

-- "plain list making (a list, a tuple, the empty dict) cannot fail of themselves and are not recorded"
unfoldable pub make : Fresh → Values → Step Value
make f vs = λ h. done (fresh_value f vs h) h

-- "And/Or, If and truth follow the Starlark specification": the left side decides And where it is false, Or where it is
-- true
unfoldable pub decides : Logic → Bool → Bool
decides and b = not b
decides or b = b

-- ---- flows

-- how a statement ended, if nothing failed
pub data Flow : Type 0 where
  normal broke continued : Flow
  returned : Value → Flow

-- the next statement of a list
unfoldable pub then : Flow → Step Flow → Step Flow
then normal m = m
then broke m = give broke
then continued m = give continued
then (returned v) m = give (returned v)

-- the next round of a loop
unfoldable pub again : Flow → Step Flow → Step Flow
again normal m = m
again broke m = give normal
again continued m = m
again (returned v) m = give (returned v)

unfoldable pub loop : ℕ → Step Flow → Step Flow
loop zero m = give normal
loop (suc n) m = bind m (λ f. again f (loop n m))

module _ (C : Choice) where
  -- an operation: "recorded with its operands and its answer"
  unfoldable pub perform : Operation → Values → Step Value
  perform o vs = λ h. answered h o vs (answer_to C h o vs)

  -- "Truth tests .. cannot fail of themselves and are not recorded"
  unfoldable pub test : Step Value → Step Bool
  test m = bind m (λ v. give (value_truth C v))

  -- the empty dict is made, any other dict is an operation
  unfoldable pub make_dict : Values → Step Value
  make_dict no_values = λ h. done (empty_dict h) h
  make_dict (more_values v vs) = perform dict_op (more_values v vs)

  -- "Any call whose callee's value is the type function, with one positional argument alone, is a type call here and
  -- gives its argument's type text as that string constant"; the flag tells whether callee and names are so
  unfoldable pub call_with : Bool → Operation → Value → Values → Step Value
  call_with b o f no_values = perform o (more_values f no_values)
  call_with true o f (more_values v no_values) = give (constant (string (value_type C v)))
  call_with false o f (more_values v no_values) = perform o (more_values f (more_values v no_values))
  call_with b o f (more_values v (more_values w vs)) = perform o (more_values f (more_values v (more_values w vs)))

  -- ---- expressions: "Parts run in word order"

  unfoldable mutual
    pub run : Expr → Step Value
    run (const c) = give (constant c)
    run (read p) = perform (read_op p) no_values
    run (fresh f es) = bind (runs es) (λ vs. make f vs)
    run (dict es) = bind (runs es) (λ vs. make_dict vs)
    run (if_then c t f) = bind (test (run c)) (λ b. cond b (run t) (run f))
    -- "Not gives the opposite of its part's truth, TypeIs whether its part's type text is its own text, both as a bool
    -- constant"
    run (Tree.not e) = bind (test (run e)) (λ b. give (constant (boolean (not b))))
    run (type_is t e) = bind (run e) (λ v. give (constant (boolean (eqb (value_type C v) t))))
    run (logic l x y) = bind (run x) (λ v. cond (decides l (value_truth C v)) (give v) (run y))
    run (seq x y) = bind (run x) (λ v. run y)
    run (oper h pay es) = bind (runs es) (λ vs. perform (oper_op h pay) vs)
    run (call names args kwargs f es) =
        bind (run f)
        (λ v. bind (runs es)
        (λ vs. call_with (is_type_value v && is_plain names args kwargs) (call_op names args kwargs) v vs))

    pub runs : Exprs → Step Values
    runs no_exprs = give no_values
    runs (more_exprs e es) = bind (run e) (λ v. bind (runs es) (λ vs. give (more_values v vs)))

  -- the values of a target's expressions, in word order
  unfoldable mutual
    pub run_target : Target → Step Values
    run_target (dot t e) = bind (run e) (λ v. give (more_values v no_values))
    run_target (index x y) = bind (run x) (λ v. bind (run y) (λ w. give (more_values v (more_values w no_values))))
    run_target (tuple_target ts) = run_targets ts
    run_target (slot s) = give no_values

    pub run_targets : Targets → Step Values
    run_targets no_targets = give no_values
    run_targets (more_targets t ts) = bind (run_target t) (λ vs. bind (run_targets ts) (λ ws. give (join_values vs ws)))

  -- ---- statements

  -- "A loop's start is not recorded"
  unfoldable pub start_loop : Value → Step ℕ
  start_loop v = λ h. started h (rounds_of C h v)

  -- a value is there, the target's parts run, and the assignment is one operation on the value and then the parts
  unfoldable pub assigned : Operation → Target → Value → Step Value
  assigned o t v = bind (run_target t) (λ vs. perform o (more_values v vs))

  -- "each round is an operation whose answer is the item", on "only the value looped over"; the target runs "anew at
  -- each round"
  unfoldable pub round : Target → Value → Step Flow → Step Flow
  round t v body =
      bind (perform round_op (more_values v no_values)) (λ item. bind (assigned (take_op (shape t)) t item) (λ w. body))

  unfoldable mutual
    pub run_stmt : Stmt → Step Flow
    run_stmt possible_gc = bind (perform gc_op no_values) (λ v. give normal)
    run_stmt break = give broke
    run_stmt continue = give continued
    run_stmt (return e) = bind (run e) (λ v. give (returned v))
    run_stmt (expr e) = bind (run e) (λ v. give normal)
    -- "an Assign's value runs before its target"
    run_stmt (assign w t e) = bind (run e) (λ v. bind (assigned (assign_op w (shape t)) t v) (λ r. give normal))
    run_stmt (assign_modify op t e) =
        bind (run_target t)
        (λ vs. bind (run e)
        (λ v. bind (perform (modify_op op (shape t)) (join_values vs (more_values v no_values))) (λ r. give normal)))
    run_stmt (if_stmt c t f) = bind (test (run c)) (λ b. cond b (run_stmts t) (run_stmts f))
    -- "a For's iterable runs first"
    run_stmt (for t e b) = bind (run e) (λ v. bind (start_loop v) (λ n. loop n (round t v (run_stmts b))))

    pub run_stmts : Stmts → Step Flow
    run_stmts no_stmts = give normal
    run_stmts (more_stmts s ss) = bind (run_stmt s) (λ f. then f (run_stmts ss))

-- ---- a rule

-- "A run ends at its first failure, at a Return with its value, at such a Break or such a Continue, or past the outer
-- list, returning None; which of these, with the failure or value, is its end"
pub data End : Type 0 where
  at_failure : ℕ → End
  at_return : Value → End
  at_break at_continue past_list : End

unfoldable pub end_of : Flow → End
end_of normal = past_list
end_of broke = at_break
end_of continued = at_continue
end_of (returned v) = at_return v

pub record Run : Type 0 where
  pub end : End
  pub record' : Record

unfoldable pub closed : Result Flow → Run
closed (done f h) = record { end = end_of f; record' = h }
closed (failed n h) = record { end = at_failure n; record' = h }

-- a rule's end and record
unfoldable pub run_rule : Choice → Stmts → Run
run_rule C rule = closed (run_stmts C rule start)
