-- The verdicts on one expression: document 01, 'Verdicts on one expression', and document 02, 2.3.
use Rattle.std.specs.Prelude.{Bool, true, false, not, ◌&&◌, ◌||◌, List, [], ◌∷◌, ℕ, eqb}
use Rattle.spec.specs.Outcome.{Outcome, given}
use Rattle.spec.specs.Reading.{bind}
use Rattle.spec.specs.Grammar.{kind_in, detail_in, within}
use Rattle.spec.specs.Tree
use Rattle.spec.specs.Tree.{Const, boolean, int, string, type_function, len_function, other, and, or}
use Rattle.spec.specs.Tree.{Expr, const, read, fresh, dict, if_then, type_is, logic, seq, oper, call}
use Rattle.spec.specs.Tree.{Exprs, no_exprs, more_exprs, Logic}
use Rattle.spec.specs.Meaning.{read_expr}
use Rattle.spec.specs.declared.Truth.{Truth}
use Rattle.spec.specs.declared.Truth.TheVariants as truth

abbrev pub is_none : Exprs → Bool
is_none no_exprs = true
is_none (more_exprs e es) = false

-- ---- constants

abbrev pub is_type : Const → Bool
is_type Tree.none = false
is_type (boolean b) = false
is_type (int n) = false
is_type (string t) = false
is_type type_function = true
is_type len_function = false
is_type (other n t b e) = false

abbrev pub is_bool : Const → Bool
is_bool Tree.none = false
is_bool (boolean b) = true
is_bool (int n) = false
is_bool (string t) = false
is_bool type_function = false
is_bool len_function = false
is_bool (other n t b e) = false

abbrev pub is_string : Const → Bool
is_string Tree.none = false
is_string (boolean b) = false
is_string (int n) = false
is_string (string t) = true
is_string type_function = false
is_string len_function = false
is_string (other n t b e) = false

-- "A constant has its own" truth: None, False, 0 and "" are false ("0 ''"); "Functions are true"; an other's is
-- in its word
abbrev pub const_truth : Const → Bool
const_truth Tree.none = false
const_truth (boolean b) = b
const_truth (int n) = not (eqb n 0)
const_truth (string t) = not (eqb t 0)
const_truth type_function = true
const_truth len_function = true
const_truth (other n t b e) = b

-- "an "other" constant marked empty". Of "the empty string" 02 says, 2.3: "Now the empty string is no empty iterable",
-- and of what running takes for an empty built-in constant: "The premise on empty built-in constants keeps only the
-- marked ones".
abbrev pub const_empty : Const → Bool
const_empty Tree.none = false
const_empty (boolean b) = false
const_empty (int n) = false
const_empty (string t) = false
const_empty type_function = false
const_empty len_function = false
const_empty (other n t b e) = e

-- ---- pure

-- "A type call has the type function as callee, one positional argument and no other": the callee's part of it
abbrev pub is_type_function : Expr → Bool
is_type_function (const c) = is_type c
is_type_function (read p) = false
is_type_function (fresh f es) = false
is_type_function (dict es) = false
is_type_function (if_then c t f) = false
is_type_function (Tree.not e) = false
is_type_function (type_is t e) = false
is_type_function (logic l x y) = false
is_type_function (seq x y) = false
is_type_function (oper h pay es) = false
is_type_function (call names args kwargs f es) = false

-- no names, no args, no kwargs
abbrev pub is_plain : List ℕ → Bool → Bool → Bool
is_plain [] args kwargs = not args && not kwargs
is_plain (n ∷ ns) args kwargs = false

-- "constants; lists and tuples of pure parts; the empty dict; Not or TypeIs of pure; Seq, And, Or, If with every part
-- pure; a type call of a pure argument. All else is no, locals included."
unfoldable mutual
  pub pure : Expr → Bool
  pure (const c) = true
  pure (read p) = false
  pure (fresh f es) = pures es
  pure (dict es) = is_none es
  pure (if_then c t f) = pure c && (pure t && pure f)
  pure (Tree.not e) = pure e
  pure (type_is t e) = pure e
  pure (logic l x y) = pure x && pure y
  pure (seq x y) = pure x && pure y
  pure (oper h pay es) = false
  pure (call names args kwargs f es) = is_type_function f && (is_plain names args kwargs && pure_one es)

  pub pures : Exprs → Bool
  pures no_exprs = true
  pures (more_exprs e es) = pure e && pures es

  -- one, and pure
  pub pure_one : Exprs → Bool
  pure_one no_exprs = false
  pure_one (more_exprs e es) = is_none es && pure e

-- ---- truth

abbrev pub known : Bool → Truth
known true = truth.Yes
known false = truth.No

-- a verdict that holds under a test
abbrev pub known_if : Bool → Bool → Truth
known_if true b = known b
known_if false b = truth.Unknown

-- "Not turns it round"
abbrev pub opposite : Truth → Truth
opposite truth.Yes = truth.No
opposite truth.No = truth.Yes
opposite truth.Unknown = truth.Unknown

-- "And/Or: an unknown left is unknown; a left that decides gives itself; else the right's answer"
abbrev pub joined : Logic → Truth → Truth → Truth
joined and truth.Yes right = right
joined and truth.No right = truth.No
joined and truth.Unknown right = truth.Unknown
joined or truth.Yes right = truth.Yes
joined or truth.No right = right
joined or truth.Unknown right = truth.Unknown

-- "A constant has its own; a list or tuple of pure parts is yes if it has any; the empty dict is no; Not turns it
-- round. And/Or: .. All else unknown."
unfoldable pub truth_of : Expr → Truth
truth_of (const c) = known (const_truth c)
truth_of (read p) = truth.Unknown
truth_of (fresh f es) = known_if (pures es) (not (is_none es))
truth_of (dict es) = known_if (is_none es) false
truth_of (if_then c t f) = truth.Unknown
truth_of (Tree.not e) = opposite (truth_of e)
truth_of (type_is t e) = truth.Unknown
truth_of (logic l x y) = joined l (truth_of x) (truth_of y)
truth_of (seq x y) = truth.Unknown
truth_of (oper h pay es) = truth.Unknown
truth_of (call names args kwargs f es) = truth.Unknown

-- ---- definitely bool, empty iterable

-- In, Equals and Compare among the operators: Builtin2 with detail 0 (Equals), 1 (In), "Compare as 13 to 16"
abbrev pub is_test : ℕ → Bool
is_test h = eqb (kind_in h) 14 && (within 0 1 (detail_in h) || within 13 16 (detail_in h))

-- "a bool constant, Not, TypeIs, In, Equals, Compare"
abbrev pub definitely_bool : Expr → Bool
definitely_bool (const c) = is_bool c
definitely_bool (read p) = false
definitely_bool (fresh f es) = false
definitely_bool (dict es) = false
definitely_bool (if_then c t f) = false
definitely_bool (Tree.not e) = true
definitely_bool (type_is t e) = true
definitely_bool (logic l x y) = false
definitely_bool (seq x y) = false
definitely_bool (oper h pay es) = is_test h
definitely_bool (call names args kwargs f es) = false

-- "a list, tuple or dict with no parts; .. an "other" constant marked empty"; 02, 2.3: "Now the empty string is no
-- empty iterable"
abbrev pub empty_iterable : Expr → Bool
empty_iterable (const c) = const_empty c
empty_iterable (read p) = false
empty_iterable (fresh f es) = is_none es
empty_iterable (dict es) = is_none es
empty_iterable (if_then c t f) = false
empty_iterable (Tree.not e) = false
empty_iterable (type_is t e) = false
empty_iterable (logic l x y) = false
empty_iterable (seq x y) = false
empty_iterable (oper h pay es) = false
empty_iterable (call names args kwargs f es) = false

-- ---- over words: a verdict on one expression, or refusal 5, 7, 8, 9 or 10

abbrev pub verdict_on : {A : Type 0} → (Expr → A) → List ℕ → Outcome A
verdict_on f ws = bind (read_expr ws) (λ e. given (f e))
