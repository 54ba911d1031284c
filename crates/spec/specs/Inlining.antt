-- What may be inlined: document 01, 'Inlining', and the visits by document 02, 2.4.
use Rattle.std.specs.Prelude.{Bool, true, false, not, cond, ◌&&◌, ◌||◌, List, [], ◌∷◌, ◌++◌, ℕ, suc, max, min, eqb, leb}
use Rattle.std.specs.Prelude.{ltb}
use Rattle.spec.specs.Outcome.{Outcome, given}
use Rattle.spec.specs.Reading.{bind}
use Rattle.spec.specs.Tree
use Rattle.spec.specs.Tree.{Place, local, captured, module', def}
use Rattle.spec.specs.Tree.{Expr, const, read, fresh, dict, if_then, type_is, logic, seq, oper, call}
use Rattle.spec.specs.Tree.{Exprs, no_exprs, more_exprs}
use Rattle.spec.specs.Tree.{Stmt, possible_gc, break, continue, return, expr, assign, assign_modify, if_stmt, for}
use Rattle.spec.specs.Tree.{Stmts, no_stmts, more_stmts}
use Rattle.spec.specs.Meaning.{read_rule}
use Rattle.spec.specs.Verdict.{verdict_on}
use Rattle.spec.specs.Pass.{nodes_of}

-- ---- an expression: beside its nodes (`nodes_of`), whether one is forbidden, and its highest local

-- "No for LocalCaptured, Module, Def"
abbrev pub forbidden_place : Place → Bool
forbidden_place (local n) = false
forbidden_place (captured n) = true
forbidden_place (module' n) = true
forbidden_place (def n) = true

-- whether one of them is there, at any depth
unfoldable mutual
  pub forbidden : Expr → Bool
  forbidden (const c) = false
  forbidden (read p) = forbidden_place p
  forbidden (fresh f es) = forbiddens es
  forbidden (dict es) = forbiddens es
  forbidden (if_then c t f) = forbidden c || (forbidden t || forbidden f)
  forbidden (Tree.not e) = forbidden e
  forbidden (type_is t e) = forbidden e
  forbidden (logic l x y) = forbidden x || forbidden y
  forbidden (seq x y) = forbidden x || forbidden y
  forbidden (oper h pay es) = forbiddens es
  forbidden (call names args kwargs f es) = forbidden f || forbiddens es

  pub forbiddens : Exprs → Bool
  forbiddens no_exprs = false
  forbiddens (more_exprs e es) = forbidden e || forbiddens es

-- one more than a local's slot
abbrev pub locals_place : Place → ℕ
locals_place (local n) = suc n
locals_place (captured n) = 0
locals_place (module' n) = 0
locals_place (def n) = 0

-- one more than the highest slot of a local, 0 without one: the least count that every local is below
unfoldable mutual
  pub locals_of : Expr → ℕ
  locals_of (const c) = 0
  locals_of (read p) = locals_place p
  locals_of (fresh f es) = locals_in es
  locals_of (dict es) = locals_in es
  locals_of (if_then c t f) = max (locals_of c) (max (locals_of t) (locals_of f))
  locals_of (Tree.not e) = locals_of e
  locals_of (type_is t e) = locals_of e
  locals_of (logic l x y) = max (locals_of x) (locals_of y)
  locals_of (seq x y) = max (locals_of x) (locals_of y)
  locals_of (oper h pay es) = locals_in es
  locals_of (call names args kwargs f es) = max (locals_of f) (locals_in es)

  pub locals_in : Exprs → ℕ
  locals_in no_exprs = 0
  locals_in (more_exprs e es) = max (locals_of e) (locals_in es)

-- "says no once it would enter a node with its counter above 100", which is the node after 101 of them
abbrev pub most_nodes : ℕ
most_nodes = 101

-- and "No for LocalCaptured, Module, Def, and a Local not below the parameter count"
unfoldable pub safe : ℕ → Expr → Bool
safe params e = leb (nodes_of e) most_nodes && (not (forbidden e) && leb (locals_of e) params)

-- ---- the nodes entered

-- a node that makes it a no: "LocalCaptured, Module, Def, and a Local not below the parameter count"
abbrev pub forbids : ℕ → Place → Bool
forbids params (local n) = not (ltb n params)
forbids params (captured n) = true
forbids params (module' n) = true
forbids params (def n) = true

-- "enters nodes one by one", "in word order" (02, 2.4): of each node whether it is forbidden, the node itself first,
-- then its parts' nodes, a call's callee before its arguments
unfoldable mutual
  pub in_order : ℕ → Expr → List Bool
  in_order params (const c) = false ∷ []
  in_order params (read p) = forbids params p ∷ []
  in_order params (fresh f es) = false ∷ in_orders params es
  in_order params (dict es) = false ∷ in_orders params es
  in_order params (if_then c t f) = false ∷ (in_order params c ++ (in_order params t ++ in_order params f))
  in_order params (Tree.not e) = false ∷ in_order params e
  in_order params (type_is t e) = false ∷ in_order params e
  in_order params (logic l x y) = false ∷ (in_order params x ++ in_order params y)
  in_order params (seq x y) = false ∷ (in_order params x ++ in_order params y)
  in_order params (oper h pay es) = false ∷ in_orders params es
  in_order params (call names args kwargs f es) = false ∷ (in_order params f ++ in_orders params es)

  pub in_orders : ℕ → Exprs → List Bool
  in_orders params no_exprs = []
  in_orders params (more_exprs e es) = in_order params e ++ in_orders params es

-- how many there are "up to and including the forbidden one", the first of them; all where none is forbidden
unfoldable pub up_to_forbidden : List Bool → ℕ
up_to_forbidden [] = 0
up_to_forbidden (true ∷ bs) = 1
up_to_forbidden (false ∷ bs) = suc (up_to_forbidden bs)

-- 02, 2.4: "exactly the nodes entered in word order up to and including the forbidden one, or 101 if the limit came
-- first"
unfoldable pub visits : ℕ → Expr → ℕ
visits params e = min most_nodes (up_to_forbidden (in_order params e))

-- "The answer carries the nodes visited: on a yes all of them", on a no those of 02, 2.4
pub data Safety : Type 0 where
  safe_nodes unsafe_after : ℕ → Safety

unfoldable pub safety : ℕ → Expr → Safety
safety params e = cond (safe params e) (safe_nodes (nodes_of e)) (unsafe_after (visits params e))

-- ---- a body

-- "It answers one of four: neither; a type test with its text number; a safe expression with the word where it begins;
-- None"
pub data Inline : Type 0 where
  neither none_value : Inline
  type_test safe_at : ℕ → Inline

-- what a body begins with, as far as inlining asks
pub data First : Type 0 where
  empty_body other_first : First
  returning : Expr → First

abbrev pub first_stmt : Stmt → First
first_stmt possible_gc = other_first
first_stmt break = other_first
first_stmt continue = other_first
first_stmt (return e) = returning e
first_stmt (expr e) = other_first
first_stmt (assign w t e) = other_first
first_stmt (assign_modify op t e) = other_first
first_stmt (if_stmt c t f) = other_first
first_stmt (for t e b) = other_first

abbrev pub first_of : Stmts → First
first_of no_stmts = empty_body
first_of (more_stmts s ss) = first_stmt s

-- "Local 0"
abbrev pub is_local_zero : Place → Bool
is_local_zero (local n) = eqb n 0
is_local_zero (captured n) = false
is_local_zero (module' n) = false
is_local_zero (def n) = false

abbrev pub is_first_local : Expr → Bool
is_first_local (const c) = false
is_first_local (read p) = is_local_zero p
is_first_local (fresh f es) = false
is_first_local (dict es) = false
is_first_local (if_then c t f) = false
is_first_local (Tree.not e) = false
is_first_local (type_is t e) = false
is_first_local (logic l x y) = false
is_first_local (seq x y) = false
is_first_local (oper h pay es) = false
is_first_local (call names args kwargs f es) = false

-- "TypeIs of Local 0 gives the type test", anything else what is said otherwise
abbrev pub test_expr : Expr → Inline → Inline
test_expr (const c) otherwise = otherwise
test_expr (read p) otherwise = otherwise
test_expr (fresh f es) otherwise = otherwise
test_expr (dict es) otherwise = otherwise
test_expr (if_then c t f) otherwise = otherwise
test_expr (Tree.not e) otherwise = otherwise
test_expr (type_is t e) otherwise = cond (is_first_local e) (type_test t) otherwise
test_expr (logic l x y) otherwise = otherwise
test_expr (seq x y) otherwise = otherwise
test_expr (oper h pay es) otherwise = otherwise
test_expr (call names args kwargs f es) otherwise = otherwise

-- "a first statement returning TypeIs of Local 0"
abbrev pub test_first : First → Inline → Inline
test_first empty_body otherwise = otherwise
test_first other_first otherwise = otherwise
test_first (returning e) otherwise = test_expr e otherwise

-- "an empty body gives None and a safe Return as first statement its expression", which begins at word 2, behind the
-- count of statements and the Return's header. "All else is neither."
abbrev pub plain_first : ℕ → First → Inline
plain_first variables empty_body = none_value
plain_first variables other_first = neither
plain_first variables (returning e) = cond (safe variables e) (safe_at 2) neither

-- "given the number of parameters, whether the first takes a position, whether star parameters exist, and the count of
-- parameter variables": "One positional parameter and a first statement returning TypeIs of Local 0 gives the type
-- test. Else, without star parameters, ..": the type test first, whatever star parameters there are
unfoldable pub inline_body : ℕ → Bool → Bool → ℕ → Stmts → Inline
inline_body params positional star variables ss =
    let plain = cond star neither (plain_first variables (first_of ss)) in
    cond (eqb params 1 && positional) (test_first (first_of ss) plain) plain

-- ---- over words: an answer, or refusal 5, 7, 8, 9 or 10

abbrev pub safe_on : ℕ → List ℕ → Outcome Safety
safe_on params ws = verdict_on (safety params) ws

abbrev pub inline_on : ℕ → Bool → Bool → ℕ → List ℕ → Outcome Inline
inline_on params positional star variables ws =
    bind (read_rule ws) (λ ss. given (inline_body params positional star variables ss))
