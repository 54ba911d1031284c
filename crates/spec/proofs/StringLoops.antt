-- Document 02, 2.3: a loop over a string constant fails, whatever the choice and however its iterable came to the
-- string, and a pruned rule keeps that failure.
-- Assumes nothing.
use mathlib.Core.Path.{◌≡◌, refl, ap, ◌∙◌}
use mathlib.Core.Bool.{false}
use mathlib.Core.List.{[]}
use Prim.Native.Nat.{ℕ}
use Rattle.spec.specs.Tree.{string, type_function, Expr, const, call, no_exprs, more_exprs}
use Rattle.spec.specs.Tree.{Target, for, Stmts, more_stmts}
use Rattle.spec.specs.Value.{Value, constant, Record, start, Rounds, times, stops, Choice}
use Rattle.spec.specs.Value.{as_failure, value_type, rounds_of}
use Rattle.spec.specs.Running.{Result, done, failed, Step, Flow, next, give, bind, started, then, loop}
use Rattle.spec.specs.Running.{run, start_loop, round, run_stmt, run_stmts, closed, run_rule, at_failure}
use Rattle.spec.specs.PassStmts.{optimize}
use Rattle.spec.proofs.Quiet.{text_of, type_call_lem}
use Rattle.spec.proofs.Demand.{demand_3}

-- the failure that a choice's rounds stand for
abbrev pub failure : Rounds → ℕ
failure (times n) = n
failure (stops f) = f

-- it is not recorded
started_fails : (r : Rounds) (h : Record) → started h (as_failure r) ≡ failed (failure r) h
unfolding started
started_fails (times n) h = refl
started_fails (stops f) h = refl

abbrev pub type_of : Expr → Expr
type_of e = call [] false false (const type_function) (more_exprs e no_exprs)

module _ (C : Choice) where
  -- the failure of a loop over string s that begins at a record
  abbrev pub failure_over : ℕ → Record → ℕ
  failure_over s h = failure (C.rounds h (constant (string s)))

  start_fails : (s : ℕ) (h : Record) → start_loop C (constant (string s)) h ≡ failed (failure_over s h) h
  unfolding start_loop rounds_of
  start_fails s h = started_fails (C.rounds h (constant (string s))) h

  -- "looping over a string constant .. fails": where the iterable gives one, the loop fails behind what that recorded
  pub string_loop_fails : (t : Target) (e : Expr) (b : Stmts) (s : ℕ) (h k : Record)
      → run C e h ≡ done (constant (string s)) k → run_stmt C (for t e b) h ≡ failed (failure_over s k) k
  unfolding run_stmt bind next
  string_loop_fails t e b s h k q =
      ap (λ (r : Result Value). next r (λ v. bind (start_loop C v) (λ n. loop n (round C t v (run_stmts C b))))) q
      ∙ ap (λ (r : Result ℕ). next r (λ n. loop n (round C t (constant (string s)) (run_stmts C b)))) (start_fails s k)

  -- "or a type call's answer": the loop fails where the argument gives a value, whichever it is
  pub type_loop_fails : (t : Target) (e : Expr) (b : Stmts) (v : Value) (h k : Record) → run C e h ≡ done v k
      → run_stmt C (for t (type_of e) b) h ≡ failed (failure_over (value_type C v) k) k
  unfolding bind next give
  type_loop_fails t e b v h k q =
      string_loop_fails t (type_of e) b (value_type C v) h k
      (ap (λ (m : Step Value). m h) (type_call_lem C [] false false refl (const type_function) e refl)
      ∙ ap (λ (r : Result Value). next r (text_of C)) q)

  -- "and a pruned rule keeps that failure": nothing behind the loop runs
  pub pruned_loop_fails : (t : Target) (e : Expr) (b ss : Stmts) (s : ℕ) (k : Record)
      → run C e start ≡ done (constant (string s)) k
      → run_rule C (optimize (more_stmts (for t e b) ss)) ≡ record { end = at_failure (failure_over s k); record' = k }
  unfolding run_rule run_stmt closed bind next
  pruned_loop_fails t e b ss s k q =
      demand_3 C (more_stmts (for t e b) ss)
      ∙ ap (λ (r : Result Flow). closed (next r (λ f. then f (run_stmts C ss)))) (string_loop_fails t e b s start k q)
