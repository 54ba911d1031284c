-- Statements of a kept expression: where the expression begins, by the statement's words, and what the pass makes of
-- the statement.
-- Assumes nothing.
use mathlib.Core.Bool.{true}
use mathlib.Core.List.{List, [], ◌∷◌}
use mathlib.Core.Path.{◌≡◌, refl, ap, sym, subst, ◌∙◌}
use Prim.Native.Nat.{ℕ, ◌+◌, ◌≤◌, ◌<◌}
use native.Mathlib.Omega.{arith}
use borrow.Author.Tests.{lt-ltb}
use lib.Dec.{eqb}
use lib.ListN.{length, get_or}
use Rattle.std.specs.Prelude.{Option, Some, None}
use Rattle.spec.specs.Rose.{Rose, node, size, depth, At, Words}
use Rattle.spec.specs.Grammar.{kind_in, Valid}
use Rattle.spec.specs.Tree.{Slot, local_slot, captured_slot, module_slot, slot_words, slot}
use Rattle.spec.specs.Tree.{Expr, return, expr, assign, rose_e, rose_t, rose_s}
use Rattle.spec.specs.Meaning.{expr_of}
use Rattle.spec.specs.Proper.{ProperStmt, ValidExpr}
use Rattle.spec.specs.Pass.{optimize_expr, optimize_target}
use Rattle.spec.specs.PassStmts.{one, is_exit, is_terminal, optimize_stmt, expr_stmts}
use Rattle.spec.specs.Foldable.{foldable, foldable_target, foldable_stmt}
use Rattle.spec.specs.Views.{word_in}
use Rattle.spec.specs.declared.Sort.TheVariants as sort
use Rattle.spec.proofs.Meanings.{rose_expr, proper_expr}
use Rattle.kept.specs.Kept.{RoseStays, RoseKept}
use Rattle.kept.specs.Stated.{alone_by, Form, returned, stated, assigned, stmt_in, form_words, SlotRight, FormRight}
use Rattle.kept.specs.Stated.{ValueStays, StmtStays, StmtKept}
use Rattle.kept.specs.declared.Kept.{Kept}
use Rattle.kept.proofs.Laws.{kept_expr, kept_alone}

-- ---- where the expression begins

module _ {w : List ℕ} {at : ℕ} where
  -- an assignment to a slot
  value_slot : {value : ℕ} (s : Slot) → get_or w at 0 ≡ 35 → Words w (at + 2) (slot_words s) → SlotRight s
      → value ≡ at + 2 + length (slot_words s) → ValueStays w at value
  value_slot s e h l m = record {
    form = assigned (get_or w (at + 1) 0) s;
    here = (e, (refl, subst (λ (i : ℕ). Words w i (slot_words s)) (omega arith) h));
    ends = omega arith;
    right = l;
  }

  pub value_local : get_or w at 0 ≡ 35 → get_or w (at + 2) 0 ≡ 67 → ValueStays w at (at + 4)
  value_local e t = value_slot (local_slot (get_or w (at + 2 + 1) 0)) e (t, (refl, tt)) tt (omega arith)

  pub value_captured : get_or w at 0 ≡ 35 → get_or w (at + 2) 0 ≡ 68 → ValueStays w at (at + 4)
  value_captured e t = value_slot (captured_slot (get_or w (at + 2 + 1) 0)) e (t, (refl, tt)) tt (omega arith)

  pub value_module : get_or w at 0 ≡ 35 → get_or w (at + 2) 0 ≡ 69 → get_or w (at + 4) 0 < 65536
      → ValueStays w at (at + 5)
  value_module e t l =
      let four : at + 2 + 1 + 1 ≡ at + 4 = omega arith in
      value_slot (module_slot (get_or w (at + 2 + 1) 0) (get_or w (at + 4) 0)) e
      (t, (refl, (ap (λ (i : ℕ). get_or w i 0) four, tt))) l (omega arith)

-- ---- the statement

slot_valid : (s : Slot) → SlotRight s → Valid sort.Target (rose_t (slot s))
slot_valid (local_slot n) r = (refl, record { head = refl; ruled = (refl, tt); many = refl }, tt)
slot_valid (captured_slot n) r = (refl, record { head = refl; ruled = (refl, tt); many = refl }, tt)
slot_valid (module_slot n t) r =
    (refl, record { head = refl; ruled = (refl, (lt-ltb t 65536 r, tt)); many = refl }, tt)

-- what is so of the statement, by its form, where it is so of its expression
module _ (x : Expr) where
  form_valid : (f : Form) (k : ℕ) → FormRight f k → ValidExpr x
      → ProperStmt (stmt_in f x) × Valid sort.Stmt (rose_s (stmt_in f x))
  form_valid returned k r v = (v.0, (refl, record { head = refl; ruled = tt; many = refl }, (v.1, tt)))
  form_valid stated k r v = (v.0, (refl, record { head = refl; ruled = tt; many = refl }, (v.1, tt)))
  form_valid (assigned t s) k r v =
      ((tt, v.0), (refl, record { head = refl; ruled = (refl, tt); many = refl }, (slot_valid s r, (v.1, tt))))

  form_size : (f : Form) → size (rose_s (stmt_in f x)) ≡ length (form_words f) + size (rose_e x)
  form_size returned = omega arith
  form_size stated = omega arith
  form_size (assigned t s) = omega arith

  form_deep : (f : Form) → depth (rose_e x) ≤ 199 → depth (rose_s (stmt_in f x)) ≤ 200
  form_deep returned h = omega arith
  form_deep stated h = omega arith
  form_deep (assigned t s) h = omega arith

  form_at : (w : List ℕ) (at : ℕ) (f : Form) → Words w at (form_words f)
      → At w (at + length (form_words f)) (rose_e x) → At w at (rose_s (stmt_in f x))
  form_at w at returned h e = (h, (e, tt))
  form_at w at stated h e = (h, (e, tt))
  form_at w at (assigned t s) h e = (
    (h.0, (h.1.0, tt)),
    (
      (subst (λ (i : ℕ). Words w i (slot_words s)) (omega arith) h.1.1, tt),
      (subst (λ (i : ℕ). At w i (rose_e x)) (omega arith) e, tt),
    ),
  )

  form_stays : (f : Form) (k : ℕ) → FormRight f k → optimize_expr x ≡ x
      → (alone_by k ≡ true → expr_stmts x ≡ one (expr x)) → optimize_stmt (stmt_in f x) ≡ one (stmt_in f x)
  unfolding optimize_stmt optimize_target
  form_stays returned k r e a = ap (λ (y : Expr). one (return y)) e
  form_stays stated k r e a = ap expr_stmts e ∙ a r
  form_stays (assigned t s) k r e a = ap (λ (y : Expr). one (assign t (slot s) y)) e

  form_places : (f : Form) → foldable_stmt (stmt_in f x) ≡ foldable x
  unfolding foldable_stmt foldable_target
  form_places returned = refl
  form_places stated = refl
  form_places (assigned t s) = omega arith

  form_exits : (w : List ℕ) (at : ℕ) (f : Form) → Words w at (form_words f)
      → is_terminal (one (stmt_in f x)) ≡ eqb (get_or w at 0) 33
  unfolding is_terminal one is_exit
  form_exits w at returned h = ap (λ (y : ℕ). eqb y 33) (sym h.0)
  form_exits w at stated h = ap (λ (y : ℕ). eqb y 33) (sym h.0)
  form_exits w at (assigned t s) h = ap (λ (y : ℕ). eqb y 33) (sym h.0)

-- a valid expression's first word
first_word : (w : List ℕ) (a : ℕ) (r : Rose) → Valid sort.Expr r → At w a r → get_or w a 0 ≡ word_in r 0
first_word w a (node t [] ps) v h = absurd v.1
first_word w a (node t (x ∷ pay) ps) v h = h.0.0

stmt_stays : {w : List ℕ} {at value : ℕ} {k : Kept} → ValueStays w at value → RoseStays w value k
    → StmtStays w at k
stmt_stays {w} {at} {value} f r =
    let x = expr_of r.tree in
    let form = f.form in
    let back = rose_expr r.tree r.valid in
    let valid = subst (Valid sort.Expr) (sym back) r.valid in
    let here = subst (λ (i : ℕ). At w i (rose_e x)) f.ends (subst (At w value) (sym back) r.here) in
    let kept = kept_expr r.tree r.valid r.kept in
    let word = ap (λ (y : ℕ). alone_by (kind_in y)) (sym (first_word w value r.tree r.valid r.here)) in
    record {
      tree = stmt_in form x;
      valid = form_valid x form (kind_in (get_or w value 0)) f.right (proper_expr r.tree r.valid, valid);
      here = form_at x w at form f.here here;
      ends = omega (arith, r.ends, f.ends, form_size x form, ap size back);
      inside = r.inside;
      deep = form_deep x form (omega (arith, r.deep, ap depth back));
      stays = form_stays x form (kind_in (get_or w value 0)) f.right kept.0
          (λ a. kept_alone r.tree r.valid r.kept (word ∙ a));
      met = r.met ∙ sym kept.1 ∙ sym (form_places x form);
      exits = form_exits x w at form f.here;
    }

-- where the expression's place is told
pub stmt_kept : {w : List ℕ} {at value : ℕ} (k : Option Kept) → ValueStays w at value → RoseKept w value k
    → StmtKept w at k
stmt_kept (Some k) f r = stmt_stays f r
stmt_kept None f r = tt
