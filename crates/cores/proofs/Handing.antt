-- A node that hands one part on has the statements of that part.
-- Assumes nothing.
use mathlib.Core.Bool.{Bool, true, cond, ◌&&◌}
use mathlib.Core.Path.{◌≡◌, refl, ap, sym, ◌∙◌}
use Rattle.spec.specs.Tree
use Rattle.spec.specs.Tree.{Expr, const, read, fresh, dict, if_then, type_is, logic, seq, oper, call}
use Rattle.spec.specs.Tree.{Exprs, no_exprs, more_exprs, Stmts, no_stmts, expr}
use Rattle.spec.specs.Verdict.{is_type_function, is_plain, pure, pures}
use Rattle.spec.specs.PassStmts.{one, extend, part_stmts, logic_stmts, call_stmts, expr_step, expr_stmts, if_stmts}
use Rattle.spec.proofs.Outcomes.{both, by_test}
use Rattle.spec.proofs.Unroll.{expr_unrolled}

-- however the statements of e are made, they are those of x
abbrev pub Hands : Expr → Expr → Type 0
Hands e x = (more : Expr → Stmts) (moreIf : Expr → Stmts → Stmts → Stmts) → expr_step more moreIf e ≡ more x

-- ---- of a pure expression

pure_none : (e : Expr) → pure e ≡ true → expr_stmts e ≡ no_stmts
pure_none e p = expr_unrolled e ∙ ap (λ (b : Bool). cond b no_stmts (expr_step expr_stmts if_stmts e)) p

pure_parts : (before : Stmts) (es : Exprs) → pures es ≡ true
    → part_stmts expr_stmts before es ≡ part_stmts (λ x. no_stmts) before es
unfolding pure part_stmts
pure_parts before no_exprs p = refl
pure_parts before (more_exprs e es) p =
    let q = both (pure e) (pures es) p in
    ap (λ (s : Stmts). part_stmts expr_stmts (extend before s) es) (pure_none e q.0)
    ∙ pure_parts (extend before no_stmts) es q.1

-- its parts are pure, and give nothing
pure_step : (e : Expr) → pure e ≡ true → expr_step expr_stmts if_stmts e ≡ expr_step (λ x. no_stmts) if_stmts e
unfolding pure expr_step call_stmts
pure_step (const c) p = refl
pure_step (read x) p = refl
pure_step (fresh f es) p = pure_parts no_stmts es p
pure_step (dict es) p = refl
pure_step (if_then c t f) p = refl
pure_step (Tree.not e) p = pure_none e p
pure_step (type_is t e) p = pure_none e p
pure_step (logic l x y) p = ap (logic_stmts if_stmts l x) (pure_none y (both (pure x) (pure y) p).1)
pure_step (seq x y) p = refl
pure_step (oper h pay es) p = refl
pure_step (call names args kwargs f no_exprs) p = refl
pure_step (call names args kwargs f (more_exprs y no_exprs)) p =
    let whole = call names args kwargs f (more_exprs y no_exprs) in
    let q = (both (is_type_function f) (is_plain names args kwargs && pure y) p).1 in
    ap (λ (s : Stmts). cond (is_type_function f && is_plain names args kwargs) s (one (expr whole)))
    (pure_none y (both (is_plain names args kwargs) (pure y) q).1)
pure_step (call names args kwargs f (more_exprs x (more_exprs y es))) p = refl

-- ---- of any

pub handed : (e x : Expr) → Hands e x → expr_stmts e ≡ expr_stmts x
handed e x h =
    by_test (expr_stmts e ≡ expr_stmts x) (pure e)
    (λ p. pure_none e p ∙ sym (sym (h expr_stmts if_stmts) ∙ pure_step e p ∙ h (λ y. no_stmts) if_stmts))
    (λ p. expr_unrolled e ∙ ap (λ (b : Bool). cond b no_stmts (expr_step expr_stmts if_stmts e)) p ∙ h expr_stmts
    if_stmts)
