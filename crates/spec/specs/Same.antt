-- Whether two trees are the same, as a test that computes: two trees are one if they have the same words.
use Rattle.std.specs.Prelude.{Bool, true, false, ◌&&◌, List, [], ◌∷◌, ℕ, eqb}
use Rattle.std.specs.Bool.{beq}
use Rattle.spec.specs.Rose.{enc}
use Rattle.spec.specs.Tree.{Expr, Stmts, rose_e, rose_l}
use Rattle.spec.specs.Pass.{Condition, const_condition, expr_condition}
use Rattle.spec.specs.Inlining.{Safety, safe_nodes, unsafe_after, Inline, neither, none_value, type_test, safe_at}
use Rattle.spec.specs.declared.Truth.{Truth}
use Rattle.spec.specs.declared.Truth.TheVariants as truth

-- one truth or two
abbrev pub same_truth : Truth → Truth → Bool
same_truth truth.Yes truth.Yes = true
same_truth truth.Yes truth.No = false
same_truth truth.Yes truth.Unknown = false
same_truth truth.No truth.Yes = false
same_truth truth.No truth.No = true
same_truth truth.No truth.Unknown = false
same_truth truth.Unknown truth.Yes = false
same_truth truth.Unknown truth.No = false
same_truth truth.Unknown truth.Unknown = true

-- the same words, in the same order
abbrev pub same_words : List ℕ → List ℕ → Bool
same_words [] [] = true
same_words [] (w ∷ ws) = false
same_words (v ∷ vs) [] = false
same_words (v ∷ vs) (w ∷ ws) = eqb v w && same_words vs ws

-- two expressions, two rules
abbrev pub same_expr : Expr → Expr → Bool
same_expr e f = same_words (enc (rose_e e)) (enc (rose_e f))

abbrev pub same_stmts : Stmts → Stmts → Bool
same_stmts ss rs = same_words (enc (rose_l ss)) (enc (rose_l rs))

-- two conditions: an expression is never a constant, not even one that holds that constant
abbrev pub same_condition : Condition → Condition → Bool
same_condition (const_condition b) (const_condition d) = beq b d
same_condition (const_condition b) (expr_condition f) = false
same_condition (expr_condition e) (const_condition d) = false
same_condition (expr_condition e) (expr_condition f) = same_expr e f

-- two answers about inlining, each by a number of its own and its value
abbrev safety_words : Safety → List ℕ
safety_words (safe_nodes n) = 0 ∷ n ∷ []
safety_words (unsafe_after n) = 1 ∷ n ∷ []

abbrev inline_words : Inline → List ℕ
inline_words neither = 0 ∷ []
inline_words none_value = 1 ∷ []
inline_words (type_test t) = 2 ∷ t ∷ []
inline_words (safe_at n) = 3 ∷ n ∷ []

abbrev pub same_safety : Safety → Safety → Bool
same_safety s r = same_words (safety_words s) (safety_words r)

abbrev pub same_inline : Inline → Inline → Bool
same_inline i j = same_words (inline_words i) (inline_words j)
