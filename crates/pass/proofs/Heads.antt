-- A statement by its kind.
-- Assumes nothing.
use mathlib.Core.List.{List}
use mathlib.Core.Path.{◌≡◌, refl, sym, subst}
use Prim.Native.Nat.{ℕ, ◌+◌}
use native.Mathlib.Omega.{arith}
use lib.ListN.{get_or}
use Rattle.spec.specs.Grammar.{kind_in}
use Rattle.spec.specs.Tree.{Expr, Target, Stmts, rose_s}
use Rattle.spec.specs.Tree.{Stmt, possible_gc, break, continue, return, expr, assign, assign_modify, if_stmt, for}
use Rattle.spec.specs.PassStmts.{optimize_stmt}
use Rattle.spec.specs.Foldable.{foldable_stmt}
use Rattle.spec.specs.Views.{kind_of}
use Rattle.spec.proofs.Heads.{kind_of_header}
use Rattle.spec.proofs.Counts.{stmt_words}
use Rattle.spec.specs.declared.Sort.TheVariants as sort
use Rattle.ir.specs.Standing.{SomeNode}
use Rattle.ir.proofs.Nodes.{node_of, some_of}
use Rattle.ir.proofs.Ranges.{some_in}
use Rattle.pass.specs.Pruned.{ExprBelow, ExprAsk, ExprDone, StmtRoom, StmtAsk, StmtDone}
use Rattle.pass.specs.Pruned.{IfAsk, ForAsk}
use Rattle.pass.specs.declared.Pruned.{Pruned}
use Rattle.pass.proofs.Singles.{stmt_every}
use Rattle.pass.proofs.Simples.{some_stmt}

data Kind : ℕ → Stmt → Type 0 where
  possible_gc_kind : Kind 32 possible_gc
  return_kind : {e : Expr} → Kind 33 (return e)
  expr_kind : {e : Expr} → Kind 34 (expr e)
  assign_kind : {w : ℕ} {t : Target} {e : Expr} → Kind 35 (assign w t e)
  modify_kind : {op : ℕ} {t : Target} {e : Expr} → Kind 36 (assign_modify op t e)
  if_kind : {c : Expr} {t f : Stmts} → Kind 37 (if_stmt c t f)
  for_kind : {t : Target} {e : Expr} {b : Stmts} → Kind 38 (for t e b)
  break_kind : Kind 39 break
  continue_kind : Kind 40 continue

kind : (s : Stmt) → Kind (kind_of (rose_s s)) s
kind possible_gc = possible_gc_kind
kind break = break_kind
kind continue = continue_kind
kind (return e) = return_kind
kind (expr e) = expr_kind
kind (assign w t e) = assign_kind
kind (assign_modify op t e) =
    subst (λ (k : ℕ). Kind k (assign_modify op t e)) (sym (kind_of_header 36 op (omega arith))) modify_kind
kind (if_stmt c t f) = if_kind
kind (for t e b) = for_kind

is_expr : {s : Stmt} → Kind 34 s → (e : Expr) × (s ≡ expr e)
is_expr (expr_kind {e}) = (e, refl)

is_if : {s : Stmt} → Kind 37 s → (c : Expr) × (t : Stmts) × (f : Stmts) × (s ≡ if_stmt c t f)
is_if (if_kind {c} {t} {f}) = (c, t, f, refl)

is_for : {s : Stmt} → Kind 38 s → (t : Target) × (e : Expr) × (b : Stmts) × (s ≡ for t e b)
is_for (for_kind {t} {e} {b}) = (t, e, b, refl)

-- a statement with its header read
module _ {w : List ℕ} {at top : ℕ} (a : StmtAsk w at top) where
  some : SomeNode w at
  some = some_in refl (some_stmt a.asked)

  module _ {k : ℕ} (read : k ≡ kind_in (get_or w at 0)) where
    known : Kind k a.tree
    known =
        let node = node_of (some_of some refl read refl) refl refl refl in
        let is = (node.of sort.Stmt (rose_s a.tree) refl a.asked.is.valid.1 a.asked.is.here).is_kind in
        subst (λ (i : ℕ). Kind i a.tree) (sym is) (kind a.tree)

    known_as : (i : ℕ) → k ≡ i → Kind i a.tree
    known_as i is = subst (λ (i : ℕ). Kind i a.tree) is known

    asked_of : (s : Stmt) → a.tree ≡ s → StmtRoom w at top s
    asked_of s same = subst (StmtRoom w at top) same a.asked

    part_below : (e : Expr) → a.tree ≡ expr e → ExprBelow w (at + 1) top e
    part_below e same =
        let stands = asked_of (expr e) same in
        record {
          valid = (stands.is.valid.0, stands.is.valid.1.2.0);
          here = stands.is.here.1.0;
          below = omega (arith, stands.is.below);
        }

    pub stmt_expr : k ≡ 34 → ExprAsk w (at + 1) top
    stmt_expr is =
        let (e, same) = is_expr (known_as 34 is) in
        let stands = asked_of (expr e) same in
        record { tree = e; is = part_below e same; room = omega (arith, stands.room); short = stands.short }

    pub stmt_expr_done : k ≡ 34 → {v : List ℕ} {r : Pruned} → ExprDone w v (at + 1) top r → StmtDone w v at top r
    unfolding optimize_stmt foldable_stmt
    stmt_expr_done is done =
        let (e, same) = is_expr (known_as 34 is) in
        let m = done.right e (part_below e same) in
        record {
          frame = done.frame;
          begins = done.begins;
          right = stmt_every (asked_of (expr e) same)
              (record { from = omega (arith, m.from); holds = m.holds; met = m.met });
        }

    pub stmt_if : k ≡ 37 → IfAsk w at top
    stmt_if is =
        let (c, t, f, same) = is_if (known_as 37 is) in
        record {
          test = c;
          yes_list = t;
          no_list = f;
          asked = asked_of (if_stmt c t f) same;
        }

    pub stmt_for : k ≡ 38 → ForAsk w at top
    stmt_for is =
        let (t, e, b, same) = is_for (known_as 38 is) in
        record { target = t; over = e; body = b; asked = asked_of (for t e b) same }

-- what the check applies in `optimize_stmt`
pub ruleset kinds = (stmt_words, stmt_expr, stmt_if, stmt_for)
