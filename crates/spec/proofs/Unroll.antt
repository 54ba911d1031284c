-- The equations of if_expr, StmtsCompiled::expr and if_stmt without the bound that their definitions carry:
-- `if_unrolled`, `expr_unrolled`, `if_stmt_unrolled`. A simplified condition has no more nodes than what it is made of
-- (`new_nodes`), so the bound never runs out, and more of it changes nothing.
-- Assumes nothing.
use mathlib.Core.Bool.{Bool, true, false, cond, ◌&&◌}
use mathlib.Core.List.{List}
use mathlib.Core.Path.{◌≡◌, refl, ap, ap₂, ◌∙◌}
use Prim.Native.Nat.{ℕ, zero, suc, ◌+◌, ◌≤◌, ◌<◌}
use native.Mathlib.Omega.{arith}
use Rattle.std.proofs.lemmas.Grind.{common_steps}
use Rattle.spec.specs.Tree.{boolean, Logic, and, or}
use Rattle.spec.specs.Tree.{Expr, const, fresh, not, type_is, logic, seq, call}
use Rattle.spec.specs.Tree.{Exprs, no_exprs, more_exprs, if_stmt, Stmts, no_stmts}
use Rattle.spec.specs.Verdict.{pure, truth_of}
use Rattle.spec.specs.Running.{decides}
use Rattle.spec.specs.Pass.{Condition, const_condition, expr_condition, decided, not_condition, logic_condition}
use Rattle.spec.specs.Pass.{new_bool, seq_expr, if_left, if_step, nodes_of, nodes_in, if_bounded, if_expr}
use Rattle.spec.specs.PassStmts.{one, is_empty, extend, part_stmts, logic_stmts, call_stmts, expr_step}
use Rattle.spec.specs.PassStmts.{if_stays, if_stmt_left, if_stmt_step, expr_bounded, if_stmt_bounded, expr_stmts}
use Rattle.spec.specs.PassStmts.{if_stmts}
use Rattle.spec.specs.declared.Truth.{Truth}

-- ---- nodes

-- every expression is a node
pub some_nodes : (e : Expr) → 1 ≤ nodes_of e
unfolding nodes_of
some_nodes (const c) = omega arith
some_nodes _ = omega arith

-- a constant condition counts as one node
unfoldable pub nodes_c : Condition → ℕ
nodes_c (const_condition b) = 1
nodes_c (expr_condition e) = nodes_of e

decided_nodes : (t : Truth) (c : Condition) (n : ℕ) → 1 ≤ n → nodes_c c ≤ n → nodes_c (decided t c) ≤ n
unfolding decided nodes_c
decided_nodes t c n p q = grind (arith, common_steps)

-- `decided` of the expression itself
whole_nodes : (t : Truth) (e : Expr) → nodes_c (decided t (expr_condition e)) ≤ nodes_of e
unfolding nodes_c
whole_nodes t e = decided_nodes t (expr_condition e) (nodes_of e) (some_nodes e) (omega arith)

not_nodes : (c : Condition) → nodes_c (not_condition c) ≤ suc (nodes_c c)
unfolding not_condition nodes_c nodes_of
not_nodes (const_condition b) = omega arith
not_nodes (expr_condition e) = omega arith

seq_nodes : (p : Bool) (x y : Expr) → nodes_of (cond p y (seq x y)) ≤ suc (nodes_of x + nodes_of y)
unfolding nodes_of
seq_nodes true x y = omega arith
seq_nodes false x y = omega arith

-- a constant on the left of And and Or, and one on the right
left_nodes : (d b : Bool) (y : Condition) → nodes_c (cond d (const_condition b) y) ≤ suc (1 + nodes_c y)
unfolding nodes_c
left_nodes true b y = omega arith
left_nodes false b y = omega arith

right_nodes : (d b : Bool) (x : Expr)
    → nodes_c (cond d (expr_condition (seq_expr x (const (boolean b)))) (expr_condition x)) ≤ suc (nodes_of x + 1)
unfolding nodes_c seq_expr nodes_of
right_nodes true b x = seq_nodes (pure x) x (const (boolean b))
right_nodes false b x = omega arith

logic_nodes : (l : Logic) (x y : Condition) → nodes_c (logic_condition l x y) ≤ suc (nodes_c x + nodes_c y)
unfolding logic_condition nodes_c nodes_of
logic_nodes l (const_condition b) y = left_nodes (decides l b) b y
logic_nodes l (expr_condition x) (const_condition b) = right_nodes (decides l b) b x
logic_nodes l (expr_condition x) (expr_condition y) = omega arith

-- a simplified condition has no more nodes
pub new_nodes : (e : Expr) → nodes_c (new_bool e) ≤ nodes_of e
unfolding new_bool nodes_of
new_nodes (not e) =
    decided_nodes (truth_of (not e)) (not_condition (new_bool e)) (suc (nodes_of e)) (omega arith)
    (omega (arith, not_nodes (new_bool e), new_nodes e))
new_nodes (logic l x y) =
    decided_nodes (truth_of (logic l x y)) (logic_condition l (new_bool x) (new_bool y)) (suc (nodes_of x + nodes_of y))
    (omega arith) (omega (arith, logic_nodes l (new_bool x) (new_bool y), new_nodes x, new_nodes y))
new_nodes e = whole_nodes (truth_of e) e

-- ---- if_expr

-- a step asks only for conditions with fewer nodes
module _ (more more' : Expr → Expr → Expr → Expr) where
  left_same : (e t f : Expr) → ((c x y : Expr) → nodes_of c < nodes_of e → more c x y ≡ more' c x y)
      → if_left more e t f ≡ if_left more' e t f
  unfolding if_left nodes_of
  left_same e t f p = grind (arith, common_steps)

  step_same : (s : Condition) (t f : Expr) → ((c x y : Expr) → nodes_of c < nodes_c s → more c x y ≡ more' c x y)
      → if_step more s t f ≡ if_step more' s t f
  unfolding if_step nodes_c
  step_same (const_condition b) t f q = refl
  step_same (expr_condition e) t f q = left_same e t f q

-- two bounds that both suffice
bounded_same : (n m : ℕ) (c t f : Expr) → nodes_of c ≤ n → nodes_of c ≤ m → if_bounded n c t f ≡ if_bounded m c t f
unfolding if_bounded
bounded_same zero m c t f p q = let z = some_nodes c in absurd (omega arith)
bounded_same (suc n) zero c t f p q = let z = some_nodes c in absurd (omega arith)
bounded_same (suc n) (suc m) c t f p q =
    step_same (if_bounded n) (if_bounded m) (new_bool c) t f
    (λ d x y s. let z = new_nodes c in bounded_same n m d x y (omega arith) (omega arith))

pub if_unrolled : (c t f : Expr) → if_expr c t f ≡ if_step if_expr (new_bool c) t f
unfolding if_expr if_bounded
if_unrolled c t f =
    bounded_same (nodes_of c) (suc (nodes_of c)) c t f (omega arith) (omega arith)
    ∙ step_same (if_bounded (nodes_of c)) if_expr (new_bool c) t f
    (λ d x y s. let z = new_nodes c in bounded_same (nodes_of c) (nodes_of d) d x y (omega arith) (omega arith))

-- ---- expr and if_stmt

-- a step asks only for expressions and conditions with fewer nodes; an If that stays asks for its own condition
module _ (more more' : Expr → Stmts) (moreIf moreIf' : Expr → Stmts → Stmts → Stmts) where
  parts_same : (before : Stmts) (es : Exprs) → ((x : Expr) → nodes_of x ≤ nodes_in es → more x ≡ more' x)
      → part_stmts more before es ≡ part_stmts more' before es
  unfolding part_stmts nodes_of
  parts_same before no_exprs q = refl
  parts_same before (more_exprs e es) q =
      parts_same (extend before (more e)) es (λ x s. q x (omega arith))
      ∙ ap (λ (ss : Stmts). part_stmts more' (extend before ss) es) (q e (omega arith))

  logic_same : (l : Logic) (x : Expr) (ss ss' : Stmts) → ss ≡ ss' → ((t f : Stmts) → moreIf x t f ≡ moreIf' x t f)
      → logic_stmts moreIf l x ss ≡ logic_stmts moreIf' l x ss'
  unfolding logic_stmts
  logic_same and x ss ss' p q = ap (λ (s : Stmts). moreIf x s no_stmts) p ∙ q ss' no_stmts
  logic_same or x ss ss' p q = ap (λ (s : Stmts). moreIf x no_stmts s) p ∙ q no_stmts ss'

  call_same : (names : List ℕ) (args kwargs : Bool) (f : Expr) (es : Exprs)
      → ((x : Expr) → nodes_of x ≤ nodes_in es → more x ≡ more' x)
      → call_stmts more names args kwargs f es ≡ call_stmts more' names args kwargs f es
  unfolding call_stmts nodes_of
  call_same names args kwargs f es p = grind (arith, common_steps)

  expr_step_same : (e : Expr) → ((x : Expr) → nodes_of x < nodes_of e → more x ≡ more' x)
      → ((c : Expr) (t f : Stmts) → nodes_of c < nodes_of e → moreIf c t f ≡ moreIf' c t f)
      → expr_step more moreIf e ≡ expr_step more' moreIf' e
  unfolding expr_step nodes_of
  expr_step_same (fresh f es) p q = parts_same no_stmts es (λ x s. p x (omega arith))
  expr_step_same (not e) p q = p e (omega arith)
  expr_step_same (type_is t e) p q = p e (omega arith)
  expr_step_same (logic l x y) p q =
      logic_same l x (more y) (more' y) (p y (omega arith)) (λ t f. q x t f (omega arith))
  expr_step_same (call names args kwargs f es) p q =
      call_same names args kwargs f es (λ x s. p x (omega arith))
  expr_step_same _ p q = refl

  stays_same : (e : Expr) (t f : Stmts) → more e ≡ more' e → if_stays more e t f ≡ if_stays more' e t f
  unfolding if_stays
  stays_same e t f p = ap (λ (s : Stmts). cond (is_empty t && is_empty f) s (one (if_stmt e t f))) p

  stmt_left_same : (e : Expr) (t f : Stmts) → ((x : Expr) → nodes_of x ≤ nodes_of e → more x ≡ more' x)
      → ((c : Expr) (x y : Stmts) → nodes_of c < nodes_of e → moreIf c x y ≡ moreIf' c x y)
      → if_stmt_left more moreIf e t f ≡ if_stmt_left more' moreIf' e t f
  unfolding if_stmt_left nodes_of
  stmt_left_same (not e) t f p q = q e f t (omega arith)
  stmt_left_same (seq x e) t f p q =
      ap₂ (λ (ss rs : Stmts). extend ss rs) (p x (omega arith)) (q e t f (omega arith))
  stmt_left_same e t f p q = stays_same e t f (p e (omega arith))

  stmt_step_same : (s : Condition) (t f : Stmts) → ((x : Expr) → nodes_of x ≤ nodes_c s → more x ≡ more' x)
      → ((c : Expr) (x y : Stmts) → nodes_of c < nodes_c s → moreIf c x y ≡ moreIf' c x y)
      → if_stmt_step more moreIf s t f ≡ if_stmt_step more' moreIf' s t f
  unfolding if_stmt_step nodes_c
  stmt_step_same (const_condition b) t f p q = refl
  stmt_step_same (expr_condition e) t f p q = stmt_left_same e t f p q

-- one more on the left, whatever suffices on the right
module _ (n : ℕ)
    (ih : (k : ℕ) (x : Expr) → nodes_of x + nodes_of x ≤ n → nodes_of x + nodes_of x ≤ k
    → expr_bounded n x ≡ expr_bounded k x)
    (ihIf : (k : ℕ) (c : Expr) (t f : Stmts) → suc (nodes_of c + nodes_of c) ≤ n → suc (nodes_of c + nodes_of c) ≤ k
    → if_stmt_bounded n c t f ≡ if_stmt_bounded k c t f)
  where
    expr_more : (m : ℕ) (e : Expr) → nodes_of e + nodes_of e ≤ suc n → nodes_of e + nodes_of e ≤ m
        → expr_bounded (suc n) e ≡ expr_bounded m e
    unfolding expr_bounded
    expr_more zero e p q = let z = some_nodes e in absurd (omega arith)
    expr_more (suc m) e p q = ap (λ (s : Stmts). cond (pure e) no_stmts s)
        (expr_step_same (λ x. expr_bounded n x) (λ x. expr_bounded m x) (λ c t f. if_stmt_bounded n c t f)
        (λ c t f. if_stmt_bounded m c t f) e
        (λ x s. ih m x (omega arith) (omega arith)) (λ c t f s. ihIf m c t f (omega arith) (omega arith)))

    if_more : (m : ℕ) (c : Expr) (t f : Stmts) → suc (nodes_of c + nodes_of c) ≤ suc n → suc (nodes_of c + nodes_of c)
        ≤ m
        → if_stmt_bounded (suc n) c t f ≡ if_stmt_bounded m c t f
    unfolding expr_bounded
    if_more zero c t f p q = absurd (omega arith)
    if_more (suc m) c t f p q =
        let z = new_nodes c in
        stmt_step_same (λ x. expr_bounded n x) (λ x. expr_bounded m x) (λ d x y. if_stmt_bounded n d x y)
        (λ d x y. if_stmt_bounded m d x y) (new_bool c) t f
        (λ x s. ih m x (omega arith) (omega arith)) (λ d x y s. ihIf m d x y (omega arith) (omega arith))

-- two bounds that both suffice
mutual
  expr_same : (n m : ℕ) (e : Expr) → nodes_of e + nodes_of e ≤ n → nodes_of e + nodes_of e ≤ m
      → expr_bounded n e ≡ expr_bounded m e
  expr_same zero m e p q = let z = some_nodes e in absurd (omega arith)
  expr_same (suc n) m e p q =
      expr_more n (λ k x r s. expr_same n k x r s) (λ k c t f r s. if_same n k c t f r s) m e p q

  if_same : (n m : ℕ) (c : Expr) (t f : Stmts) → suc (nodes_of c + nodes_of c) ≤ n → suc (nodes_of c + nodes_of c) ≤ m
      → if_stmt_bounded n c t f ≡ if_stmt_bounded m c t f
  if_same zero m c t f p q = absurd (omega arith)
  if_same (suc n) m c t f p q =
      if_more n (λ k x r s. expr_same n k x r s) (λ k d x y r s. if_same n k d x y r s) m c t f p q

pub expr_unrolled : (e : Expr) → expr_stmts e ≡ cond (pure e) no_stmts (expr_step expr_stmts if_stmts e)
unfolding expr_stmts if_stmts expr_bounded
expr_unrolled e =
    let n = nodes_of e + nodes_of e in
    expr_same n (suc n) e (omega arith) (omega arith)
    ∙ ap (λ (s : Stmts). cond (pure e) no_stmts s)
    (expr_step_same (λ x. expr_bounded n x) expr_stmts (λ c t f. if_stmt_bounded n c t f) if_stmts e
    (λ x s. expr_same n (nodes_of x + nodes_of x) x (omega arith) (omega arith))
    (λ c t f s. if_same n (suc (nodes_of c + nodes_of c)) c t f (omega arith) (omega arith)))

pub if_stmt_unrolled : (c : Expr) (t f : Stmts) → if_stmts c t f ≡ if_stmt_step expr_stmts if_stmts (new_bool c) t f
unfolding expr_stmts if_stmts expr_bounded
if_stmt_unrolled c t f =
    let z = new_nodes c in
    let n = nodes_of c + nodes_of c in
    stmt_step_same (λ x. expr_bounded n x) expr_stmts (λ d x y. if_stmt_bounded n d x y) if_stmts (new_bool c) t f
    (λ x s. expr_same n (nodes_of x + nodes_of x) x (omega arith) (omega arith))
    (λ d x y s. if_same n (suc (nodes_of d + nodes_of d)) d x y (omega arith) (omega arith))
