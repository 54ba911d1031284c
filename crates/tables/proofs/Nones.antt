-- The kinds of headers that are right, and what the tables say of a number that no kind has: no header is right, and
-- there are no payload and no parts.
-- Assumes nothing.
use mathlib.Core.Bool.{true, false}
use mathlib.Core.Path.{◌≡◌, refl, sym}
use Prim.Native.Nat.{ℕ, ◌+◌}
use borrow.Author.Tests.{ne_eqb}
use Rattle.spec.specs.Grammar.{within, expr_head, single_head, target_head, stmt_head, head_right}
use Rattle.spec.specs.Grammar.{part_count, part_sort}
use Rattle.spec.proofs.Outcomes.{by_test}
use Rattle.spec.proofs.Heads.{ExprHead, expr_head_lem, constant, place, tuple, list, dict, if_then, negation, type_is}
use Rattle.spec.proofs.Heads.{and, or, seq, operator, call, slice, builtin1, builtin2, index2}
use Rattle.spec.proofs.Heads.{local, captured, module', def}
use Rattle.spec.proofs.Heads.{StmtHead, stmt_head_lem, possible_gc, return, expr, assign, assign_modify, if_stmt, for}
use Rattle.spec.proofs.Heads.{break, continue, TargetHead, target_head_lem, tuple_target, single, single_head_lem}
use Rattle.spec.proofs.Heads.{dot, index, local_slot, captured_slot, module_slot}
use Rattle.spec.specs.declared.Sort.{Sort}
use Rattle.spec.specs.declared.Sort.TheVariants as sort
use Rattle.tables.specs.Payload.{pay_count, pay_right}
use Rattle.tables.specs.Kinds.{expr_number, stmt_number, target_number, node_number}
use Rattle.tables.specs.declared.exprs.ExprKind.{ExprKind}
use Rattle.tables.specs.declared.exprs.ExprKind.TheVariants as exprs
use Rattle.tables.specs.declared.stmts.StmtKind.{StmtKind}
use Rattle.tables.specs.declared.stmts.StmtKind.TheVariants as stmts
use Rattle.tables.specs.declared.targets.TargetKind.{TargetKind}
use Rattle.tables.specs.declared.targets.TargetKind.TheVariants as targets
use Rattle.tables.specs.declared.kind.NodeKind.{NodeKind}
use Rattle.tables.specs.declared.kind.NodeKind.TheVariants as kinds
use Rattle.tables.specs.Finds.{expr_kind, stmt_kind, target_kind}
use Rattle.tables.proofs.Rows.{Each, ranged}

-- ---- of a right header

-- an expression's kind is one of sixteen
pub expr_kinds : {k d : ℕ} → ExprHead k d → within 1 16 k ≡ true
expr_kinds (constant c) = refl
expr_kinds (place local) = refl
expr_kinds (place captured) = refl
expr_kinds (place module') = refl
expr_kinds (place def) = refl
expr_kinds tuple = refl
expr_kinds list = refl
expr_kinds dict = refl
expr_kinds if_then = refl
expr_kinds negation = refl
expr_kinds type_is = refl
expr_kinds and = refl
expr_kinds or = refl
expr_kinds seq = refl
expr_kinds (operator slice) = refl
expr_kinds (operator (builtin1 a b)) = refl
expr_kinds (operator builtin2) = refl
expr_kinds (operator index2) = refl
expr_kinds call = refl

-- a statement's is one of nine
pub stmt_kinds : {k d : ℕ} → StmtHead k d → within 32 40 k ≡ true
stmt_kinds possible_gc = refl
stmt_kinds return = refl
stmt_kinds expr = refl
stmt_kinds assign = refl
stmt_kinds assign_modify = refl
stmt_kinds if_stmt = refl
stmt_kinds for = refl
stmt_kinds break = refl
stmt_kinds continue = refl

-- a target's is one of six
pub target_kinds : {k d : ℕ} → TargetHead k d → within 64 69 k ≡ true
target_kinds tuple_target = refl
target_kinds (single dot) = refl
target_kinds (single index) = refl
target_kinds (single local_slot) = refl
target_kinds (single captured_slot) = refl
target_kinds (single module_slot) = refl

-- ---- of a number without a kind

expr_none : (n d : ℕ) → ((kind : ExprKind) → expr_number kind ≡ n → ⊥) → expr_head n d ≡ false
expr_none n d f =
    by_test _ (expr_head n d)
    (λ h. absurd (expr_kind n (expr_kinds {k = n} {d = d} (expr_head_lem n d h)) f)) (λ e. e)

stmt_none : (n d : ℕ) → ((kind : StmtKind) → stmt_number kind ≡ n → ⊥) → stmt_head n d ≡ false
stmt_none n d f =
    by_test _ (stmt_head n d)
    (λ h. absurd (stmt_kind n (stmt_kinds {k = n} {d = d} (stmt_head_lem n d h)) f)) (λ e. e)

target_none : (n d : ℕ) → ((kind : TargetKind) → target_number kind ≡ n → ⊥) → target_head n d ≡ false
target_none n d f =
    by_test _ (target_head n d)
    (λ h. absurd (target_kind n (target_kinds {k = n} {d = d} (target_head_lem n d h)) f)) (λ e. e)

single_none : (n d : ℕ) → ((kind : TargetKind) → target_number kind ≡ n → ⊥) → single_head n d ≡ false
single_none n d f =
    by_test _ (single_head n d)
    (λ h. absurd (target_kind n (target_kinds {k = n} {d = d} (single (single_head_lem n d h))) f)) (λ e. e)

-- whatever is asked for
pub head_none : (s : Sort) (n d : ℕ) → ((kind : NodeKind) → node_number kind ≡ n → ⊥) → head_right s n d ≡ false
head_none sort.Expr n d f = expr_none n d (λ kind. f (kinds.Expr kind))
head_none sort.Target n d f = target_none n d (λ kind. f (kinds.Target kind))
head_none sort.Single n d f = single_none n d (λ kind. f (kinds.Target kind))
head_none sort.Stmt n d f = stmt_none n d (λ kind. f (kinds.Stmt kind))
head_none sort.List n d f = refl

-- none of a range
without : (low len n : ℕ) → Each (λ (i : ℕ). n ≡ i → ⊥) low len → within low (low + len) n ≡ false
without low len n t =
    by_test _ (within low (low + len) n) (λ h. absurd (ranged (λ (i : ℕ). n ≡ i → ⊥) low len n h t refl)) (λ e. e)

module _ {n : ℕ} (f : (kind : NodeKind) → node_number kind ≡ n → ⊥) where
  not_expr : (kind : ExprKind) → n ≡ expr_number kind → ⊥
  not_expr kind e = f (kinds.Expr kind) (sym e)

  not_stmt : (kind : StmtKind) → n ≡ stmt_number kind → ⊥
  not_stmt kind e = f (kinds.Stmt kind) (sym e)

  not_target : (kind : TargetKind) → n ≡ target_number kind → ⊥
  not_target kind e = f (kinds.Target kind) (sym e)

  pub pay_none : (d w : ℕ) → pay_count n d w ≡ 0
  pay_none d w =
      simp (
        ne_eqb n 1 (not_expr exprs.Const),
        without 2 3 n
            (not_expr exprs.Local, (not_expr exprs.LocalCaptured, (not_expr exprs.Module, not_expr exprs.Def))),
        ne_eqb n 11 (not_expr exprs.Builtin1),
        ne_eqb n 16 (not_expr exprs.Call),
        ne_eqb n 35 (not_stmt stmts.Assign),
        ne_eqb n 64 (not_target targets.Dot),
        without 67 1 n (not_target targets.Local, not_target targets.LocalCaptured),
        ne_eqb n 69 (not_target targets.Module),
      )

  pub right_none : (d i w : ℕ) → pay_right n d i w ≡ true
  right_none d i w =
      simp (
        ne_eqb n 1 (not_expr exprs.Const),
        ne_eqb n 11 (not_expr exprs.Builtin1),
        ne_eqb n 16 (not_expr exprs.Call),
        ne_eqb n 64 (not_target targets.Dot),
        ne_eqb n 69 (not_target targets.Module),
      )

  pub parts_none : (d w : ℕ) → part_count n d w ≡ 0
  parts_none d w =
      simp (
        without 6 1 n (not_expr exprs.Tuple, not_expr exprs.List),
        ne_eqb n 66 (not_target targets.Tuple),
        ne_eqb n 8 (not_expr exprs.Dict),
        ne_eqb n 10 (not_expr exprs.Slice),
        ne_eqb n 16 (not_expr exprs.Call),
        ne_eqb n 11 (not_expr exprs.Builtin1),
        without 33 1 n (not_stmt stmts.Return, not_stmt stmts.Expr),
        ne_eqb n 64 (not_target targets.Dot),
        without 12 2 n (not_expr exprs.LogicalBinOp, (not_expr exprs.Seq, not_expr exprs.Builtin2)),
        without 35 1 n (not_stmt stmts.Assign, not_stmt stmts.AssignModify),
        ne_eqb n 65 (not_target targets.Index),
        ne_eqb n 9 (not_expr exprs.If),
        ne_eqb n 15 (not_expr exprs.Index2),
        without 37 1 n (not_stmt stmts.If, not_stmt stmts.For),
      )

  pub sort_none : (i : ℕ) → part_sort n i ≡ sort.Expr
  sort_none i =
      simp (
        ne_eqb n 66 (not_target targets.Tuple),
        without 35 3 n (not_stmt stmts.Assign, (not_stmt stmts.AssignModify, (not_stmt stmts.If, not_stmt stmts.For))),
      )
