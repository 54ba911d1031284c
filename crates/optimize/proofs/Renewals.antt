-- A node with its own words and its parts passed. An expression's constructor makes of it what the pass makes of the
-- expression (`expr_made`), and it is a foldable place or not (`expr_count`); a target is nothing more (`target_made`,
-- `target_count`).
-- Assumes nothing.
use mathlib.Core.Bool.{cond}
use mathlib.Core.List.{[], ◌∷◌}
use mathlib.Core.Path.{◌≡◌, refl, ap, ap₂, sym, subst, ◌∙◌}
use Prim.Native.Nat.{ℕ, ◌+◌, ◌-◌, ◌/◌}
use native.Mathlib.Omega.{arith}
use lib.Dec.{eqb}
use Rattle.spec.specs.Rose.{Rose, Roses, node, nil, cons, sort_of, own_of, parts_of}
use Rattle.spec.specs.Grammar.{header, Valid}
use Rattle.spec.specs.Tree
use Rattle.spec.specs.Tree.{Slot, fresh_kind, names_word, bit_of}
use Rattle.spec.specs.Tree.{Expr, const, read, fresh, dict, if_then, type_is, logic, seq, oper, call, rose_e}
use Rattle.spec.specs.Tree.{Exprs, no_exprs, more_exprs, roses_e}
use Rattle.spec.specs.Tree.{Target, dot, index, tuple_target, slot, Targets, no_targets, more_targets, count_t, rose_t}
use Rattle.spec.specs.Tree.{roses_t}
use Rattle.spec.specs.Meaning.{expr_of, target_of}
use Rattle.spec.specs.Proper.{ValidExpr}
use Rattle.spec.specs.Views.{kind_of, parts_e}
use Rattle.spec.specs.Pass.{optimize_expr, optimize_exprs, optimize_target, optimize_targets}
use Rattle.spec.specs.Foldable.{foldable, foldables, foldable_target, foldable_targets}
use Rattle.spec.specs.declared.Sort.{Sort}
use Rattle.spec.specs.declared.Sort.TheVariants as sort
use Rattle.spec.proofs.Heads.{kind_of_header}
use Rattle.spec.proofs.Meanings.{rose_expr, proper_expr, expr_again}
use Rattle.spec.proofs.Targets.{rose_target, proper_target, target_again}
use Rattle.spec.proofs.Views.{parts_rose}
use Rattle.spec.proofs.Passed.{ValidExprs, first_exprs, valid_parts, one_part, two_parts, optimize_valid}
use Rattle.spec.proofs.Passed.{optimize_exprs_valid, optimize_count, fresh_kept, dict_kept, oper_kept, type_is_kept}
use Rattle.spec.proofs.Passed.{call_kept, if_node, not_node, logic_node, seq_node}
use Rattle.spec.proofs.Passed.{ValidTarget, ValidTargets, tuple_parts, optimize_target_count, valids_from}
use Rattle.expr_forms.specs.Made.{remade}
use Rattle.foldable.specs.Places.{folds_here}
use Rattle.optimize.specs.Passed.{passed, places, passed_all, places_all}

-- ---- expressions

-- the plain node
abbrev renewed : Expr → Expr
renewed (const c) = const c
renewed (read p) = read p
renewed (fresh f es) = fresh f (optimize_exprs es)
renewed (dict es) = dict (optimize_exprs es)
renewed (if_then c t f) = if_then (optimize_expr c) (optimize_expr t) (optimize_expr f)
renewed (Tree.not e) = Tree.not (optimize_expr e)
renewed (type_is t e) = type_is t (optimize_expr e)
renewed (logic l x y) = logic l (optimize_expr x) (optimize_expr y)
renewed (seq x y) = seq (optimize_expr x) (optimize_expr y)
renewed (oper h pay es) = oper h pay (optimize_exprs es)
renewed (call names args kwargs f es) = call names args kwargs (optimize_expr f) (optimize_exprs es)

-- what its constructor makes
renewed_made : (e : Expr) → (kind_of (rose_e e) ≡ 9 → ⊥) → optimize_expr e ≡ remade (renewed e)
unfolding optimize_expr remade
renewed_made (if_then c t f) u = absurd (u refl)
renewed_made _ u = refl

renewed_count : (e : Expr) → foldable e ≡ foldables (parts_e e) + bit_of (folds_here (renewed e))
unfolding foldable folds_here
renewed_count (const c) = refl
renewed_count (read p) = refl
renewed_count (fresh f es) = refl
renewed_count (oper h pay es) = refl
renewed_count _ = omega arith

-- its words
renewed_rose : (e : Expr)
    → rose_e (renewed e) ≡ node sort.Expr (own_of (rose_e e)) (roses_e (optimize_exprs (parts_e e)))
unfolding optimize_exprs
renewed_rose (fresh f es) =
    ap (λ (n : ℕ). node sort.Expr (header (fresh_kind f) n ∷ []) (roses_e (optimize_exprs es))) (optimize_count es)
renewed_rose (dict es) =
    ap (λ (n : ℕ). node sort.Expr (header 8 (n / 2) ∷ []) (roses_e (optimize_exprs es))) (optimize_count es)
renewed_rose (call names args kwargs f es) =
    ap (λ (n : ℕ). node sort.Expr (header 16 (n - (bit_of args + bit_of kwargs)) ∷ names_word names args kwargs ∷ names)
    (cons (rose_e (optimize_expr f)) (roses_e (optimize_exprs es)))) (optimize_count es)
renewed_rose _ = refl

renewed_valid : (e : Expr) → ValidExpr e → ValidExpr (renewed e)
renewed_valid (const c) v = v
renewed_valid (read p) v = v
renewed_valid (fresh f es) v =
    fresh_kept f es (optimize_exprs es) v (optimize_count es) (optimize_exprs_valid es (valid_parts (fresh f es) v))
renewed_valid (dict es) v =
    dict_kept es (optimize_exprs es) v (optimize_count es) (optimize_exprs_valid es (valid_parts (dict es) v))
renewed_valid (if_then c t f) v =
    let (condition, arms) = first_exprs c (more_exprs t (more_exprs f no_exprs)) (valid_parts (if_then c t f) v) in
    let (left, right) = two_parts t f arms in
    if_node (optimize_expr c) (optimize_expr t) (optimize_expr f) (optimize_valid c condition) (optimize_valid t left)
    (optimize_valid f right)
renewed_valid (Tree.not e) v =
    not_node (optimize_expr e) (optimize_valid e (one_part e (valid_parts (Tree.not e) v)))
renewed_valid (type_is t e) v =
    type_is_kept t e (optimize_expr e) v (optimize_valid e (one_part e (valid_parts (type_is t e) v)))
renewed_valid (logic l x y) v =
    let (left, right) = two_parts x y (valid_parts (logic l x y) v) in
    logic_node l (optimize_expr x) (optimize_expr y) (optimize_valid x left) (optimize_valid y right)
renewed_valid (seq x y) v =
    let (left, right) = two_parts x y (valid_parts (seq x y) v) in
    seq_node (optimize_expr x) (optimize_expr y) (optimize_valid x left) (optimize_valid y right)
renewed_valid (oper h pay es) v =
    oper_kept h pay es (optimize_exprs es) v (optimize_count es)
    (optimize_exprs_valid es (valid_parts (oper h pay es) v))
renewed_valid (call names args kwargs f es) v =
    let (callee, arguments) = first_exprs f es (valid_parts (call names args kwargs f es) v) in
    call_kept names args kwargs f (optimize_expr f) es (optimize_exprs es) v (optimize_count es)
    (optimize_valid f callee) (optimize_exprs_valid es arguments)

-- ---- lists of expressions, by their words

pub passed_expr : (e : Expr) → ValidExpr e → passed sort.Expr (rose_e e) ≡ rose_e (optimize_expr e)
passed_expr e v = ap (λ (x : Expr). rose_e (optimize_expr x)) (expr_again e v.0 v.1)

pub places_expr : (e : Expr) → ValidExpr e → places sort.Expr (rose_e e) ≡ foldable e
places_expr e v = ap foldable (expr_again e v.0 v.1)

passed_exprs : (es : Exprs) → ValidExprs es → passed_all sort.Expr (roses_e es) ≡ roses_e (optimize_exprs es)
unfolding optimize_exprs
passed_exprs no_exprs v = refl
passed_exprs (more_exprs e es) v =
    let (first, rest) = first_exprs e es v in
    ap₂ cons (passed_expr e first) (passed_exprs es rest)

places_exprs : (es : Exprs) → ValidExprs es → places_all sort.Expr (roses_e es) ≡ foldables es
unfolding foldables
places_exprs no_exprs v = refl
places_exprs (more_exprs e es) v =
    let (first, rest) = first_exprs e es v in
    ap₂ (λ (n m : ℕ). n + m) (places_expr e first) (places_exprs es rest)

-- ---- the node by its words

-- the sort of the parts, by the node's kind
abbrev pub inner : ℕ → Sort
inner k = cond (eqb k 66) sort.Target sort.Expr

-- the node with its parts passed as of a sort
abbrev pub around : Sort → Rose → Rose
around s r = node (sort_of r) (own_of r) (passed_all s (parts_of r))

-- valid words are the words of a valid expression
of_expr : (P : Rose → Type 0) (r : Rose) → Valid sort.Expr r → ((e : Expr) → ValidExpr e → P (rose_e e)) → P r
of_expr P r v f =
    let back = rose_expr r v in
    subst P back (f (expr_of r) (proper_expr r v, subst (Valid sort.Expr) (sym back) v))

sort_expr : (r : Rose) → Valid sort.Expr r → sort_of r ≡ sort.Expr
sort_expr (node t own ps) v = v.0

around_expr : (e : Expr) → ValidExpr e → around sort.Expr (rose_e e) ≡ rose_e (renewed e)
around_expr e v =
    let parts = ap (passed_all sort.Expr) (sym (parts_rose e)) ∙ passed_exprs (parts_e e) (valid_parts e v) in
    ap₂ (λ (s : Sort) (ps : Roses). node s (own_of (rose_e e)) ps) (sort_expr (rose_e e) v.1) parts
    ∙ sym (renewed_rose e)

meant_expr : (e : Expr) → ValidExpr e → expr_of (around sort.Expr (rose_e e)) ≡ renewed e
meant_expr e v =
    let w = renewed_valid e v in
    ap expr_of (around_expr e v) ∙ expr_again (renewed e) w.0 w.1

pub expr_valid : (r : Rose) → Valid sort.Expr r → Valid sort.Expr (around sort.Expr r)
expr_valid r v =
    of_expr (λ q. Valid sort.Expr (around sort.Expr q)) r v
    (λ e w. subst (Valid sort.Expr) (sym (around_expr e w)) (renewed_valid e w).1)

pub expr_made : (r : Rose) → Valid sort.Expr r → (kind_of r ≡ 9 → ⊥)
    → optimize_expr (expr_of r) ≡ remade (expr_of (around sort.Expr r))
expr_made r v =
    of_expr (λ q. (kind_of q ≡ 9 → ⊥) → optimize_expr (expr_of q) ≡ remade (expr_of (around sort.Expr q))) r v
    (λ e w u. ap optimize_expr (expr_again e w.0 w.1) ∙ renewed_made e u ∙ ap remade (sym (meant_expr e w)))

pub expr_count : (r : Rose) → Valid sort.Expr r
    → foldable (expr_of r)
    ≡ places_all sort.Expr (parts_of r) + bit_of (folds_here (expr_of (around sort.Expr r)))
expr_count r v =
    of_expr (λ q. foldable (expr_of q)
    ≡ places_all sort.Expr (parts_of q) + bit_of (folds_here (expr_of (around sort.Expr q)))) r v
    (λ e w.
    let parts = ap (places_all sort.Expr) (sym (parts_rose e)) ∙ places_exprs (parts_e e) (valid_parts e w) in
    ap foldable (expr_again e w.0 w.1) ∙ renewed_count e
    ∙ ap₂ (λ (n : ℕ) (x : Expr). n + bit_of (folds_here x)) (sym parts) (sym (meant_expr e w)))

-- ---- targets

passed_targets : (ts : Targets) → ValidTargets ts → passed_all sort.Target (roses_t ts) ≡ roses_t (optimize_targets ts)
unfolding optimize_targets
passed_targets no_targets v = refl
passed_targets (more_targets t ts) v =
    ap₂ cons (ap (λ (x : Target). rose_t (optimize_target x)) (target_again t v.0.0 v.1.0))
    (passed_targets ts (v.0.1, valids_from sort.Target (roses_t ts) 1 0 v.1.1))

places_targets : (ts : Targets) → ValidTargets ts → places_all sort.Target (roses_t ts) ≡ foldable_targets ts
unfolding foldable_targets
places_targets no_targets v = refl
places_targets (more_targets t ts) v =
    ap₂ (λ (n m : ℕ). n + m) (ap foldable_target (target_again t v.0.0 v.1.0))
    (places_targets ts (v.0.1, valids_from sort.Target (roses_t ts) 1 0 v.1.1))

-- a slot has no parts
slot_around : (s : Slot) → around (inner (kind_of (rose_t (slot s)))) (rose_t (slot s)) ≡ rose_t (slot s)
slot_around s = refl

tuple_kind : (ts : Targets) → sort.Target ≡ inner (kind_of (rose_t (tuple_target ts)))
tuple_kind ts = ap inner (sym (kind_of_header 66 (count_t ts) (omega arith)))

target_around : (t : Target) → ValidTarget sort.Target t
    → rose_t (optimize_target t) ≡ around (inner (kind_of (rose_t t))) (rose_t t)
unfolding optimize_target
target_around (dot t e) v = ap (λ (p : Rose). node sort.Target (64 ∷ t ∷ []) (cons p nil))
    (sym (passed_expr e (v.0, v.1.2.0)))
target_around (index x y) v = ap₂ (λ (p q : Rose). node sort.Target (65 ∷ []) (cons p (cons q nil)))
    (sym (passed_expr x (v.0.0, v.1.2.0))) (sym (passed_expr y (v.0.1, v.1.2.1.0)))
target_around (tuple_target ts) v =
    subst (λ (s : Sort). rose_t (tuple_target (optimize_targets ts)) ≡ around s (rose_t (tuple_target ts)))
    (tuple_kind ts)
    (ap₂ (λ (n : ℕ) (ps : Roses). node sort.Target (header 66 n ∷ []) ps) (optimize_target_count ts)
    (sym (passed_targets ts (tuple_parts sort.Target ts v))))
target_around (slot s) v = sym (slot_around s)

target_sum : (t : Target) → ValidTarget sort.Target t
    → foldable_target t ≡ places_all (inner (kind_of (rose_t t))) (parts_of (rose_t t))
unfolding foldable_target
target_sum (dot t e) v = omega (arith, places_expr e (v.0, v.1.2.0))
target_sum (index x y) v =
    omega (arith, places_expr x (v.0.0, v.1.2.0), places_expr y (v.0.1, v.1.2.1.0))
target_sum (tuple_target ts) v =
    subst (λ (s : Sort). foldable_targets ts ≡ places_all s (roses_t ts)) (tuple_kind ts)
    (sym (places_targets ts (tuple_parts sort.Target ts v)))
target_sum (slot s) v = refl

of_target : (P : Rose → Type 0) (r : Rose) → Valid sort.Target r
    → ((t : Target) → ValidTarget sort.Target t → P (rose_t t)) → P r
of_target P r v f =
    let back = rose_target r v in
    subst P back (f (target_of r) (proper_target r v, subst (Valid sort.Target) (sym back) v))

pub target_made : (r : Rose) → Valid sort.Target r → passed sort.Target r ≡ around (inner (kind_of r)) r
target_made r v =
    of_target (λ q. passed sort.Target q ≡ around (inner (kind_of q)) q) r v
    (λ t w. ap (λ (x : Target). rose_t (optimize_target x)) (target_again t w.0 w.1) ∙ target_around t w)

pub target_count : (r : Rose) → Valid sort.Target r
    → foldable_target (target_of r) ≡ places_all (inner (kind_of r)) (parts_of r)
target_count r v =
    of_target (λ q. foldable_target (target_of q) ≡ places_all (inner (kind_of q)) (parts_of q)) r v
    (λ t w. ap foldable_target (target_again t w.0 w.1) ∙ target_sum t w)
