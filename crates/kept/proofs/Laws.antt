-- The pass keeps what is kept: a kept expression is its own result, has as many foldable places as its nodes say, and
-- by its kind stays a statement.
-- Assumes nothing.
use mathlib.Core.Bool.{Bool, true, false, cond, ◌&&◌, false≢true}
use mathlib.Core.List.{List, [], ◌∷◌}
use mathlib.Core.Path.{◌≡◌, refl, ap, ap₂, sym, subst, ◌∙◌}
use Prim.Native.Nat.{ℕ, suc, ◌+◌, ◌≤◌}
use native.Mathlib.Omega.{arith}
use Rattle.spec.specs.Rose.{Rose, Roses, node, nil, cons, own_of, parts_of, count}
use Rattle.spec.specs.Grammar.{kind_in, detail_in, Valid, Valids}
use Rattle.spec.specs.Tree
use Rattle.spec.specs.Tree.{Expr, const, read, fresh, dict, type_is, logic, oper, call}
use Rattle.spec.specs.Tree.{tuple, list, and, or}
use Rattle.spec.specs.Tree.{Exprs, no_exprs, more_exprs, Stmts, no_stmts, expr, bit_of, count_e, rose_e, roses_e}
use Rattle.spec.specs.Meaning.{expr_of, exprs_of, part_e, rest_e}
use Rattle.spec.specs.Verdict.{is_type_function, is_plain, pure, pures}
use Rattle.spec.specs.Proper.{Propers, ValidExpr}
use Rattle.spec.specs.Pass.{typ, call_expr, optimize_expr, optimize_exprs}
use Rattle.spec.specs.PassStmts.{one, call_stmts, expr_step, expr_stmts, if_stmts}
use Rattle.spec.specs.Foldable.{type_call_part, other_part, is_type_call, part_of, oper_folds, fresh_folds, call_folds}
use Rattle.spec.specs.Foldable.{foldable, foldables}
use Rattle.spec.specs.Views.{word_in, kind_of, detail_of, lead_of, parts_e}
use Rattle.spec.specs.declared.Sort.TheVariants as sort
use Rattle.spec.proofs.Outcomes.{both}
use Rattle.spec.proofs.Heads.{ExprHead, expr_head_lem, kind_of_header}
use Rattle.spec.proofs.Meanings.{expr_parts, rose_expr, proper_expr, expr_again, rose_exprs}
use Rattle.spec.proofs.Views.{words_parts, count_roses, parts_valid, pure_words}
use Rattle.spec.proofs.Unroll.{expr_unrolled}
use Rattle.ir.specs.Standing.{ValidExprs}
use Rattle.foldable.specs.Places.{folds_here, part_for, is_type_call_for}
use Rattle.foldable.proofs.Numbers.{part_words, const_words_lem, folds_words}
use Rattle.kept_nodes.specs.Nodes.{own_kept, own_folds}
use Rattle.kept.specs.Kept.{kept_r, kepts_r, places_r, places_rs}
use Rattle.kept.specs.Stated.{alone_by}
use Rattle.kept.proofs.Numbers.{no_type_part, First, node_folds, node_impure}

-- ---- a node's numbers

-- of a kept tree the node is kept and its parts are
own_kept_lem : (r : Rose) → kept_r r ≡ true → own_kept (own_of r) (lead_of (parts_of r)) ≡ true
own_kept_lem (node s own ps) h = (both (own_kept own (lead_of ps)) (kepts_r ps) h).0

parts_kept : (r : Rose) → kept_r r ≡ true → kepts_r (parts_of r) ≡ true
parts_kept (node s own ps) h = (both (own_kept own (lead_of ps)) (kepts_r ps) h).1

head_of : (r : Rose) → Valid sort.Expr r → ExprHead (kind_of r) (detail_of r)
head_of (node t [] ps) v = absurd v.1
head_of (node t (h ∷ pay) ps) v = expr_head_lem (kind_in h) (detail_in h) v.1.head

-- its first part
first_of : (ps : Roses) → ValidExprs ps → kepts_r ps ≡ true → 1 ≤ count ps → First (lead_of ps) (part_e 0 (exprs_of ps))
unfolding exprs_of
first_of nil v h m = absurd (omega arith)
first_of (cons p ps) v h m = record {
  word = word_in p 1;
  next = lead_of (parts_of p);
  is_part = part_words p v.0;
  constant = const_words_lem p v.0;
  kept = own_kept_lem p (both (kept_r p) (kepts_r ps) h).0;
}

module _ (r : Rose) (v : Valid sort.Expr r) (h : kept_r r ≡ true) where
  -- whether it is a foldable place
  folds_kept : folds_here (expr_of r) ≡ own_folds (own_of r) (lead_of (parts_of r))
  folds_kept =
      let many = words_parts r v in
      let meant = sym (count_roses (exprs_of (parts_of r))) ∙ ap count (rose_exprs (parts_of r) 0 (expr_parts r v)) in
      folds_words r v
      ∙ node_folds (word_in r 1) (lead_of (parts_of r)) (exprs_of (parts_of r)) (head_of r v) (meant ∙ many)
      (λ m. first_of (parts_of r) (expr_parts r v) (parts_kept r h) (omega arith)) (own_kept_lem r h)

  -- it is no type call
  no_type : is_type_call_for (part_for (part_of (expr_of r))) ≡ false
  no_type =
      ap is_type_call_for (part_words r v)
      ∙ no_type_part (kind_of r) (detail_of r) (word_in r 1) (lead_of (parts_of r)) (own_kept_lem r h)

  -- it is not pure
  impure : alone_by (kind_of r) ≡ true → pure (expr_of r) ≡ false
  impure a =
      pure_words r v
      ∙ ap (λ (b : Bool). b && pures (exprs_of (parts_of r)))
      (node_impure (head_of r v) (word_in r 1) (lead_of (parts_of r)) (own_kept_lem r h) a)

-- the same of an expression and its words
module _ (e : Expr) (v : ValidExpr e) (h : kept_r (rose_e e) ≡ true) where
  folds_view : folds_here e ≡ own_folds (own_of (rose_e e)) (lead_of (parts_of (rose_e e)))
  folds_view = ap folds_here (sym (expr_again e v.0 v.1)) ∙ folds_kept (rose_e e) v.1 h

  no_type_view : is_type_call_for (part_for (part_of e)) ≡ false
  no_type_view =
      ap (λ (x : Expr). is_type_call_for (part_for (part_of x))) (sym (expr_again e v.0 v.1))
      ∙ no_type (rose_e e) v.1 h

-- ---- calls

is_type_for : (b : Bool) → b ≡ is_type_call_for (part_for (cond b type_call_part other_part))
is_type_for true = refl
is_type_for false = refl

-- a call that is no type call stays, in an expression and as a statement
module _ (names : List ℕ) (args kwargs : Bool) (f : Expr) where
  one_argument : (x : Expr) → is_type_call names args kwargs f (more_exprs x no_exprs) ≡ false
      → is_type_function f && is_plain names args kwargs ≡ false
  one_argument x = go (is_type_function f) (is_plain names args kwargs)
    where
      go : (a b : Bool) → a && (b && true) ≡ false → a && b ≡ false
      go true true t = t
      go true false t = refl
      go false b t = refl

  call_stays : (es : Exprs) → is_type_call names args kwargs f es ≡ false
      → call_expr names args kwargs f es ≡ call names args kwargs f es
  unfolding call_expr
  call_stays no_exprs t = refl
  call_stays (more_exprs x no_exprs) t =
      let whole = call names args kwargs f (more_exprs x no_exprs) in
      ap (λ (b : Bool). cond b (typ x whole) whole) (one_argument x t)
  call_stays (more_exprs x (more_exprs y es)) t = refl

  call_alone : (more : Expr → Stmts) (es : Exprs) → is_type_call names args kwargs f es ≡ false
      → call_stmts more names args kwargs f es ≡ one (expr (call names args kwargs f es))
  unfolding call_stmts
  call_alone more no_exprs t = refl
  call_alone more (more_exprs x no_exprs) t =
      let whole = call names args kwargs f (more_exprs x no_exprs) in
      ap (λ (b : Bool). cond b (more x) (one (expr whole))) (one_argument x t)
  call_alone more (more_exprs x (more_exprs y es)) t = refl

-- ---- one node, its parts being kept

-- an expression that the pass keeps, with so many places; and a row of such
record Law (e : Expr) (n : ℕ) : Type 0 where
  same : optimize_expr e ≡ e
  met : foldable e ≡ n

record Laws (es : Exprs) (n : ℕ) : Type 0 where
  same : optimize_exprs es ≡ es
  met : foldables es ≡ n

node_same : (e : Expr) → kept_r (rose_e e) ≡ true → is_type_call_for (part_for (part_of e)) ≡ false
    → optimize_exprs (parts_e e) ≡ parts_e e → Law e (foldables (parts_e e) + bit_of (folds_here e))
unfolding optimize_expr optimize_exprs foldable foldables folds_here
node_same (const c) h t q = record { same = refl; met = refl }
node_same (read p) h t q = record { same = refl; met = refl }
node_same (fresh f es) h t q = record {
  same = ap (fresh f) q;
  met = ap (λ (x : Exprs). foldables es + bit_of (fresh_folds f x)) q;
}
node_same (dict es) h t q = record { same = ap dict q; met = omega arith }
node_same (logic and x y) h t q = absurd (false≢true h)
node_same (oper w pay es) h t q = record {
  same = ap (oper w pay) q;
  met = ap (λ (x : Exprs). foldables es + bit_of (oper_folds w x)) q;
}
node_same (call names args kwargs f es) h t q =
    let callee = ap (part_e 0) q in
    let arguments = ap rest_e q in
    let places = ap₂ (λ (x : Expr) (xs : Exprs). bit_of (call_folds names args kwargs x xs)) callee arguments in
    record {
      same = ap₂ (call_expr names args kwargs) callee arguments
          ∙ call_stays names args kwargs f es (is_type_for (is_type_call names args kwargs f es) ∙ t);
      met = omega arith;
    }
node_same _ h t q = absurd (false≢true h)

places_of : (r : Rose) → places_r r ≡ bit_of (own_folds (own_of r) (lead_of (parts_of r))) + places_rs (parts_of r)
places_of (node s own ps) = refl

whole : (e : Expr) → ValidExpr e → kept_r (rose_e e) ≡ true → Laws (parts_e e) (places_rs (parts_of (rose_e e)))
    → Law e (places_r (rose_e e))
whole e v h parts =
    let l = node_same e h (no_type_view e v h) parts.same in
    let places = ap bit_of (folds_view e v h) in
    record { same = l.same; met = omega (arith, l.met, parts.met, places_of (rose_e e)) }

-- ---- all of them

mutual
  unfolding optimize_exprs foldables

  kept_tree : (e : Expr) → ValidExpr e → kept_r (rose_e e) ≡ true → Law e (places_r (rose_e e))
  kept_tree (const c) v h = whole (const c) v h (record { same = refl; met = refl })
  kept_tree (read p) v h = whole (read p) v h (record { same = refl; met = refl })
  kept_tree (fresh f es) v h =
      let e = fresh f es in
      whole e v h (kept_trees es 0 v.0 (parts_valid e v.1) (parts_kept (rose_e e) h))
  kept_tree (dict es) v h =
      let e = dict es in
      whole e v h (kept_trees es 0 v.0 (parts_valid e v.1) (parts_kept (rose_e e) h))
  kept_tree (logic and x y) v h = absurd (false≢true h)
  kept_tree (oper w pay es) v h =
      let e = oper w pay es in
      whole e v h (kept_trees es 0 v.0.1 (parts_valid e v.1) (parts_kept (rose_e e) h))
  kept_tree (call names args kwargs f es) v h =
      let e = call names args kwargs f es in
      let parts = parts_valid e v.1 in
      let k = both (kept_r (rose_e f)) (kepts_r (roses_e es)) (parts_kept (rose_e e) h) in
      let x = kept_tree f (v.0.0, parts.0) k.0 in
      let xs = kept_trees es 1 v.0.1 parts.1 k.1 in
      whole e v h (record { same = ap₂ more_exprs x.same xs.same; met = ap₂ ◌+◌ x.met xs.met })
  kept_tree _ v h = absurd (false≢true h)

  kept_trees : (es : Exprs) (i : ℕ) → Propers es → Valids (λ (i : ℕ). sort.Expr) i (roses_e es)
      → kepts_r (roses_e es) ≡ true → Laws es (places_rs (roses_e es))
  kept_trees no_exprs i p v h = record { same = refl; met = refl }
  kept_trees (more_exprs e es) i p v h =
      let k = both (kept_r (rose_e e)) (kepts_r (roses_e es)) h in
      let x = kept_tree e (p.0, v.0) k.0 in
      let xs = kept_trees es (suc i) p.1 v.1 k.1 in
      record { same = ap₂ more_exprs x.same xs.same; met = ap₂ ◌+◌ x.met xs.met }

-- as a statement
step_alone : (more : Expr → Stmts) (moreIf : Expr → Stmts → Stmts → Stmts) (e : Expr) → kept_r (rose_e e) ≡ true
    → is_type_call_for (part_for (part_of e)) ≡ false → alone_by (kind_of (rose_e e)) ≡ true
    → expr_step more moreIf e ≡ one (expr e)
unfolding expr_step
step_alone more moreIf (fresh tuple es) h t a =
    absurd (false≢true (ap alone_by (sym (kind_of_header 6 (count_e es) (omega arith))) ∙ a))
step_alone more moreIf (fresh list es) h t a =
    absurd (false≢true (ap alone_by (sym (kind_of_header 7 (count_e es) (omega arith))) ∙ a))
step_alone more moreIf (Tree.not e) h t a = absurd (false≢true h)
step_alone more moreIf (type_is u e) h t a = absurd (false≢true h)
step_alone more moreIf (logic and x y) h t a = absurd (false≢true h)
step_alone more moreIf (logic or x y) h t a = absurd (false≢true h)
step_alone more moreIf (call names args kwargs f es) h t a =
    call_alone names args kwargs f more es (is_type_for (is_type_call names args kwargs f es) ∙ t)
step_alone more moreIf _ h t a = refl

-- ---- the same of words

module _ (r : Rose) (v : Valid sort.Expr r) (h : kept_r r ≡ true) where
  meant : ValidExpr (expr_of r)
  meant = (proper_expr r v, subst (Valid sort.Expr) (sym (rose_expr r v)) v)

  meant_kept : kept_r (rose_e (expr_of r)) ≡ true
  meant_kept = ap kept_r (rose_expr r v) ∙ h

  pub kept_expr : (optimize_expr (expr_of r) ≡ expr_of r) × (foldable (expr_of r) ≡ places_r r)
  kept_expr =
      let l = kept_tree (expr_of r) meant meant_kept in
      (l.same, l.met ∙ ap places_r (rose_expr r v))

  pub kept_alone : alone_by (kind_of r) ≡ true → expr_stmts (expr_of r) ≡ one (expr (expr_of r))
  kept_alone a =
      let e = expr_of r in
      expr_unrolled e ∙ ap (λ (b : Bool). cond b no_stmts (expr_step expr_stmts if_stmts e)) (impure r v h a)
      ∙ step_alone expr_stmts if_stmts e meant_kept (no_type r v h)
      (ap (λ (x : Rose). alone_by (kind_of x)) (rose_expr r v) ∙ a)
