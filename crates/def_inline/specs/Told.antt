-- What the functions of this crate tell, and their answers as document 01 has them.
use Rattle.std.specs.Prelude.{Option, Some, None, Bool, not, cond, List, ◌≡◌, ℕ, ◌+◌, ◌≤◌, eqb, ltb, length}
use Rattle.spec.specs.Rose.{Rose, size, At}
use Rattle.spec.specs.Grammar.{within, Valid}
use Rattle.spec.specs.Meaning.{expr_of, list_of}
use Rattle.spec.specs.Inlining.{safe, visits, Safety, safe_nodes, unsafe_after}
use Rattle.spec.specs.Inlining.{Inline, neither, none_value, type_test, safe_at}
use Rattle.spec.specs.Inlining.{empty_body, other_first, returning, first_of, test_expr, test_first, plain_first}
use Rattle.spec.specs.Inlining.{inline_body}
use Rattle.spec.specs.declared.Sort.TheVariants as sort
use Rattle.def_inline.specs.declared.expr.Safety as code
use Rattle.def_inline.specs.declared.body.InlineDefBody.{InlineDefBody}
use Rattle.def_inline.specs.declared.body.InlineDefBody.TheVariants as body
use Rattle.def_inline.specs.declared.body.First.{First}
use Rattle.def_inline.specs.declared.body.First.TheVariants as first

-- ---- the answers, as the specification has them

abbrev pub safety_of : code.Safety → Safety
safety_of s = cond s.safe (safe_nodes s.visits) (unsafe_after s.visits)

abbrev pub inline_of : InlineDefBody → Inline
inline_of body.Neither = neither
inline_of (body.TypeTest text) = type_test text
inline_of (body.Safe at) = safe_at at
inline_of body.NoneValue = none_value

-- ---- of whatever expression stands at a place

-- whether a node may be in a safe expression, by its kind and its first payload word
abbrev pub own_safe : ℕ → ℕ → ℕ → Bool
own_safe k w params = cond (eqb k 2) (ltb w params) (not (within 3 5 k))

-- whether it is safe, and the nodes entered
pub record SafeOf (ws : List ℕ) (at params : ℕ) (s : code.Safety) : Type 0 where
  pub of : (r : Rose) → Valid sort.Expr r → At ws at r
      → (s.safe ≡ safe params (expr_of r)) × (s.visits ≡ visits params (expr_of r))

-- a type test with its text, or else the other answer
abbrev pub test_or : Option ℕ → Inline → Inline
test_or (Some text) other = type_test text
test_or None other = other

-- whether it is a type test, and of which text
pub record TestAt (ws : List ℕ) (at : ℕ) (test : Option ℕ) : Type 0 where
  pub of : (r : Rose) → Valid sort.Expr r → At ws at r
      → (other : Inline) → test_expr (expr_of r) other ≡ test_or test other

-- ---- of whatever rule stands there

-- the expression that the first statement returns
pub record Returned (ws : List ℕ) (at : ℕ) (rule : Rose) : Type 0 where
  pub tree : Rose
  pub valid : Valid sort.Expr tree
  pub here : At ws at tree
  pub inside : at + size tree ≤ length ws
  pub place : at ≡ 2
  pub so : first_of (list_of rule) ≡ returning (expr_of tree)

abbrev pub FirstIs : List ℕ → Rose → First → Type 0
FirstIs ws rule first.Nothing = first_of (list_of rule) ≡ empty_body
FirstIs ws rule (first.Return at) = Returned ws at rule
FirstIs ws rule first.Other = first_of (list_of rule) ≡ other_first

pub record FirstOf (ws : List ℕ) (f : First) : Type 0 where
  pub of : (r : Rose) → Valid sort.List r → At ws 0 r → 0 + size r ≤ length ws → FirstIs ws r f

pub record TestOf (ws : List ℕ) (test : Option ℕ) : Type 0 where
  pub of : (r : Rose) → Valid sort.List r → At ws 0 r → 0 + size r ≤ length ws
      → (other : Inline) → test_first (first_of (list_of r)) other ≡ test_or test other

pub record PlainOf (ws : List ℕ) (variables : ℕ) (i : InlineDefBody) : Type 0 where
  pub of : (r : Rose) → Valid sort.List r → At ws 0 r → 0 + size r ≤ length ws
      → inline_of i ≡ plain_first variables (first_of (list_of r))

pub record BodyOf (ws : List ℕ) (params : ℕ) (positional star : Bool) (variables : ℕ) (i : InlineDefBody) : Type 0 where
  pub of : (r : Rose) → Valid sort.List r → At ws 0 r → 0 + size r ≤ length ws
      → inline_of i ≡ inline_body params positional star variables (list_of r)
