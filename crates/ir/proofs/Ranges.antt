-- The kind of a node that stands somewhere is one of those of its sort.
-- Assumes nothing.
use mathlib.Core.Bool.{true, false, true≢false}
use mathlib.Core.List.{List, [], ◌∷◌}
use mathlib.Core.Path.{◌≡◌, refl, ap, sym, subst, ◌∙◌}
use Prim.Native.Nat.{ℕ, ◌+◌, ◌≤◌}
use native.Mathlib.Omega.{arith}
use lib.ListN.{length, get_or}
use Rattle.std.specs.Prelude.{Result, Ok, Err, IsOk}
use Rattle.spec.specs.Rose.{Rose, node, size, At}
use Rattle.spec.specs.Grammar.{kind_in, detail_in, within, head_right, is_list, Valid}
use Rattle.spec.proofs.Heads.{expr_head_lem, stmt_head_lem, target_head_lem, single_head_lem, TargetHead, single}
use Rattle.spec.proofs.Heads.{within_low}
use Rattle.tables.proofs.Nones.{expr_kinds, stmt_kinds, target_kinds, head_none}
use Rattle.tables.specs.Kinds.{expr_number, node_number, IsNodeKind}
use Rattle.tables.specs.declared.exprs.ExprKind.{ExprKind}
use Rattle.tables.specs.declared.exprs.ExprKind.TheVariants as exprs
use Rattle.tables.specs.declared.kind.NodeKind.{NodeKind}
use Rattle.tables.specs.declared.kind.NodeKind.TheVariants as kinds
use Rattle.tables.specs.declared.kind.NoKind.{NoKind}
use Rattle.spec.specs.declared.Sort.{Sort}
use Rattle.spec.specs.declared.Sort.TheVariants as sort
use Rattle.ir.specs.Standing.{SomeNode, SomeExpr, SomeOf, SomeStmt, SomeTarget}
use Rattle.ir.proofs.Nodes.{headed}

-- a node of a sort
pub some_in : {s : Sort} {ws : List ℕ} {at : ℕ} → is_list s ≡ false → SomeOf s ws at → SomeNode ws at
some_in {s} e x = record {
  sort = s;
  node = e;
  tree = x.tree;
  valid = x.valid;
  here = x.here;
  inside = x.inside;
}

-- an expression is one
pub expr_in : {ws : List ℕ} {at : ℕ} → SomeExpr ws at → SomeOf sort.Expr ws at
expr_in x = record { tree = x.tree; valid = x.valid; here = x.here; inside = x.inside }

-- it has a header of its sort
head_in : {s : Sort} {ws : List ℕ} {at : ℕ} → is_list s ≡ false → SomeOf s ws at
    → head_right s (kind_in (get_or ws at 0)) (detail_in (get_or ws at 0)) ≡ true
head_in {s} {ws} {at} e x = go x.tree x.valid x.here
  where
    go : (r : Rose) → Valid s r → At ws at r
        → head_right s (kind_in (get_or ws at 0)) (detail_in (get_or ws at 0)) ≡ true
    go (node t [] ps) v a = absurd v.1
    go (node t (h ∷ pay) ps) v a = ap (λ (i : ℕ). head_right s (kind_in i) (detail_in i)) a.0.0 ∙ (headed e v.1).head

pub expr_range : {ws : List ℕ} {at : ℕ} → SomeExpr ws at → within 1 16 (kind_in (get_or ws at 0)) ≡ true
expr_range {ws} {at} x =
    let k = kind_in (get_or ws at 0) in
    let d = detail_in (get_or ws at 0) in
    expr_kinds {k = k} {d = d} (expr_head_lem k d (head_in refl (expr_in x)))

pub stmt_range : {ws : List ℕ} {at : ℕ} → SomeStmt ws at → within 32 40 (kind_in (get_or ws at 0)) ≡ true
stmt_range {ws} {at} x =
    let k = kind_in (get_or ws at 0) in
    let d = detail_in (get_or ws at 0) in
    stmt_kinds {k = k} {d = d} (stmt_head_lem k d (head_in refl x))

pub target_range : {ws : List ℕ} {at : ℕ} → SomeTarget ws at → within 64 69 (kind_in (get_or ws at 0)) ≡ true
target_range {ws} {at} x =
    let k = kind_in (get_or ws at 0) in
    let d = detail_in (get_or ws at 0) in
    target_kinds {k = k} {d = d} (target_head_lem k d (head_in refl x))

-- it is a node
pub stmt_some : {ws : List ℕ} {at : ℕ} → SomeStmt ws at → SomeNode ws at
stmt_some x = some_in refl x

pub target_some : {ws : List ℕ} {at : ℕ} → SomeTarget ws at → SomeNode ws at
target_some x = some_in refl x

-- what the check applies in `stmt_at` and in `target_at`
pub ruleset stmts = (stmt_range, stmt_some)

pub ruleset targets = (target_range, target_some)

-- ---- a node of whatever sort

expr_most : (kind : ExprKind) → expr_number kind ≤ 16
expr_most exprs.Const = omega arith
expr_most _ = omega arith

module _ {ws : List ℕ} {at : ℕ} (x : SomeNode ws at) where
  node_head : head_right x.sort (kind_in (get_or ws at 0)) (detail_in (get_or ws at 0)) ≡ true
  node_head = head_in x.node (record { tree = x.tree; valid = x.valid; here = x.here; inside = x.inside })

  -- some kind has its number
  node_kind : {n : ℕ} → n ≡ kind_in (get_or ws at 0) → ((kind : NodeKind) → node_number kind ≡ n → ⊥) → ⊥
  node_kind e f =
      true≢false
      (sym node_head ∙ head_none x.sort _ (detail_in (get_or ws at 0)) (λ kind q. f kind (q ∙ sym e)))

  pub node_named : {n : ℕ} (r : Result NodeKind NoKind) → IsNodeKind n r → n ≡ kind_in (get_or ws at 0) → IsOk r
  node_named (Ok kind) m e = refl
  node_named (Err none) m e = absurd (node_kind e m.1)

  -- one that is read as an expression's kind is an expression
  pub node_expr : {n : ℕ} (r : Result NodeKind NoKind) → IsNodeKind n r → n ≡ kind_in (get_or ws at 0)
      → (kind : ExprKind) → r ≡ Ok (kinds.Expr kind) → SomeExpr ws at
  node_expr {n} r m e kind q = go x.sort x.tree x.node x.valid x.here x.inside node_head
    where
      k : ℕ
      k = kind_in (get_or ws at 0)

      d : ℕ
      d = detail_in (get_or ws at 0)

      small : k ≤ 16
      small = let same : expr_number kind ≡ n = subst (IsNodeKind n) q m in omega (arith, expr_most kind, same, e)

      past : TargetHead k d → ⊥
      past t = omega (arith, small, within_low 64 69 k (target_kinds {k = k} {d = d} t))

      go : (s : Sort) (r : Rose) → is_list s ≡ false → Valid s r → At ws at r → at + size r ≤ length ws
          → head_right s k d ≡ true → SomeExpr ws at
      go sort.Expr r n v h i q = record { tree = r; valid = v; here = h; inside = i }
      go sort.Stmt r n v h i q =
          absurd (omega (arith, small, within_low 32 40 k (stmt_kinds {k = k} {d = d} (stmt_head_lem k d q))))
      go sort.Target r n v h i q = absurd (past (target_head_lem k d q))
      go sort.Single r n v h i q = absurd (past (single (single_head_lem k d q)))
      go sort.List r n v h i q = absurd (true≢false n)
