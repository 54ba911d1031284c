-- ExprCompiledBool::new gives a constant exactly where truth is known, and then that one: `new_constant`. It leaves an
-- expression exactly where truth is unknown: `new_left`. Both as one relation: `new_matched`.
-- Assumes nothing.
use mathlib.Core.Bool.{Bool, true, false, cond}
use mathlib.Core.Path.{◌≡◌, refl}
use native.Mathlib.Omega.{arith}
use Rattle.std.proofs.lemmas.Grind.{common_steps}
use Rattle.spec.specs.Tree.{boolean, Logic, and, or}
use Rattle.spec.specs.Tree.{Expr, const, fresh, dict, not, logic}
use Rattle.spec.specs.Verdict.{truth_of, known, opposite, joined}
use Rattle.spec.specs.Running.{decides}
use Rattle.spec.specs.Pass.{Condition, const_condition, expr_condition, decided, not_condition, logic_condition}
use Rattle.spec.specs.Pass.{new_bool, seq_expr}
use Rattle.spec.specs.declared.Truth.{Truth}
use Rattle.spec.specs.declared.Truth.TheVariants as truth

-- a condition that a truth is matched by: the constant where it is known, an expression where it is not
pub data Matched : Truth → Condition → Type 0 where
  yes : Matched truth.Yes (const_condition true)
  no : Matched truth.No (const_condition false)
  left : (e : Expr) → Matched truth.Unknown (expr_condition e)

-- `decided` of an expression
decided_whole : (t : Truth) (e : Expr) → Matched t (decided t (expr_condition e))
unfolding decided
decided_whole truth.Yes e = yes
decided_whole truth.No e = no
decided_whole truth.Unknown e = left e

-- deciding what is matched already changes nothing
decided_matched : {t : Truth} {c : Condition} → Matched t c → Matched t (decided t c)
unfolding decided
decided_matched p = grind (arith, common_steps)

-- Not of what is matched
not_matched : {t : Truth} {c : Condition} → Matched t c → Matched (opposite t) (not_condition c)
unfolding not_condition
not_matched yes = no
not_matched no = yes
not_matched (left e) = left (not e)

-- an expression on the left stays one, whatever is on the right
right_constant : (d b : Bool) (x : Expr)
    → Matched truth.Unknown (cond d (expr_condition (seq_expr x (const (boolean b)))) (expr_condition x))
right_constant true b x = left (seq_expr x (const (boolean b)))
right_constant false b x = left x

-- And and Or of what is matched
logic_matched : (l : Logic) {t u : Truth} {x y : Condition} → Matched t x → Matched u y
    → Matched (joined l t u) (logic_condition l x y)
unfolding logic_condition decides
logic_matched and yes k = k
logic_matched and no k = no
logic_matched or yes k = yes
logic_matched or no k = k
logic_matched and (left x) yes = right_constant false true x
logic_matched and (left x) no = right_constant true false x
logic_matched and (left x) (left y) = left (logic and x y)
logic_matched or (left x) yes = right_constant true true x
logic_matched or (left x) no = right_constant false false x
logic_matched or (left x) (left y) = left (logic or x y)

-- what is made of an expression is matched by its truth
pub new_matched : (e : Expr) → Matched (truth_of e) (new_bool e)
unfolding new_bool truth_of decided
new_matched (const c) = decided_whole (truth_of (const c)) (const c)
new_matched (fresh f es) = decided_whole (truth_of (fresh f es)) (fresh f es)
new_matched (dict es) = decided_whole (truth_of (dict es)) (dict es)
new_matched (not e) = decided_matched (not_matched (new_matched e))
new_matched (logic l x y) = decided_matched (logic_matched l (new_matched x) (new_matched y))
new_matched e = left e

-- a constant where truth is known, and only there
matched_constant : {t : Truth} {c : Condition} → Matched t c → (b : Bool)
    → (c ≡ const_condition b → t ≡ known b) × (t ≡ known b → c ≡ const_condition b)
matched_constant p b = grind (arith, common_steps)

-- a constant is given where truth is known and nowhere else, and it is that truth
pub new_constant : (e : Expr) (b : Bool)
    → (new_bool e ≡ const_condition b → truth_of e ≡ known b) × (truth_of e ≡ known b → new_bool e ≡ const_condition b)
new_constant e b = matched_constant (new_matched e) b

-- an expression where truth is unknown, and only there
matched_left : {t : Truth} {c : Condition} → Matched t c
    → (t ≡ truth.Unknown → (x : Expr) × (c ≡ expr_condition x))
    × ((x : Expr) → c ≡ expr_condition x → t ≡ truth.Unknown)
matched_left (left e) = (λ p. (e, refl), λ x p. refl)
matched_left _ = (λ p. cc, λ x p. cc)

-- an expression is left where truth is unknown and nowhere else
pub new_left : (e : Expr)
    → (truth_of e ≡ truth.Unknown → (x : Expr) × (new_bool e ≡ expr_condition x))
    × ((x : Expr) → new_bool e ≡ expr_condition x → truth_of e ≡ truth.Unknown)
new_left e = matched_left (new_matched e)
