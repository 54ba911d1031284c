-- An expression by its kind and detail, as far as making statements of it tells expressions apart.
-- Assumes nothing.
use mathlib.Core.Bool.{Bool, false, ◌&&◌}
use mathlib.Core.List.{List}
use mathlib.Core.Path.{◌≡◌, refl, ap, sym, subst}
use Prim.Native.Nat.{ℕ, ◌-◌, ◌+◌, ◌/◌, ◌<◌}
use native.Mathlib.Omega.{arith}
use lib.Dec.{eqb}
use Rattle.spec.specs.Grammar.{header, kind_in, detail_in, within}
use Rattle.spec.specs.Tree
use Rattle.spec.specs.Tree.{boolean, int, string, type_function, len_function, other, local, captured, module', def}
use Rattle.spec.specs.Tree.{tuple, list, and, or, bit_of, count_e, rose_e, Stmts, expr}
use Rattle.spec.specs.Tree.{Expr, const, read, fresh, dict, if_then, type_is, logic, seq, oper, call, Exprs}
use Rattle.spec.specs.Proper.{Proper}
use Rattle.spec.specs.PassStmts.{one, expr_step}
use Rattle.spec.specs.Views.{kind_of, detail_of}
use Rattle.spec.proofs.Heads.{kind_of_header, detail_of_header, Operator, slice, builtin1, builtin2, index2, outside}
use Rattle.spec.proofs.Heads.{operator_view}

-- the statement stays as it is
abbrev pub Stays : Expr → Type 0
Stays e = (more : Expr → Stmts) (moreIf : Expr → Stmts → Stmts → Stmts) → expr_step more moreIf e ≡ one (expr e)

-- no kind and detail of which anything else is made
pub record Other (k d : ℕ) : Type 0 where
  pub no_parts : within 6 7 k ≡ false
  pub no_part : eqb k 11 && within 3 4 d ≡ false
  pub no_logic : eqb k 12 ≡ false
  pub no_call : eqb k 16 ≡ false

pub data Form : Expr → ℕ → ℕ → Type 0 where
  tuples : (es : Exprs) {d : ℕ} → Form (fresh tuple es) 6 d
  lists : (es : Exprs) {d : ℕ} → Form (fresh list es) 7 d
  negations : (e : Expr) → Form (Tree.not e) 11 3
  type_tests : (t : ℕ) (e : Expr) → Form (type_is t e) 11 4
  ands : (x y : Expr) → Form (logic and x y) 12 0
  ors : (x y : Expr) → Form (logic or x y) 12 1
  calls : (names : List ℕ) (args kwargs : Bool) (f : Expr) (es : Exprs)
      → Form (call names args kwargs f es) 16 (count_e es - (bit_of args + bit_of kwargs))
  others : (e : Expr) {k d : ℕ} → Stays e → Other k d → Form e k d

-- at a header's kind and detail
by_header : (P : ℕ → ℕ → Type 0) (k d : ℕ) → k < 256 → P k d → P (kind_in (header k d)) (detail_in (header k d))
by_header P k d l p =
    subst (λ (c : ℕ). P (kind_in (header k d)) c) (sym (detail_of_header k d l))
    (subst (λ (j : ℕ). P j d) (sym (kind_of_header k d l)) p)

operator_other : {k d : ℕ} → Operator k d → Other k d
operator_other slice = record { no_parts = refl; no_part = refl; no_logic = refl; no_call = refl }
operator_other (builtin1 {d} u v) =
    record { no_parts = refl; no_part = outside d u v; no_logic = refl; no_call = refl }
operator_other builtin2 = record { no_parts = refl; no_part = refl; no_logic = refl; no_call = refl }
operator_other index2 = record { no_parts = refl; no_part = refl; no_logic = refl; no_call = refl }

-- a kind of no such detail
plain : (e : Expr) (k d : ℕ) → Stays e → within 6 7 k ≡ false → eqb k 11 ≡ false → eqb k 12 ≡ false
    → eqb k 16 ≡ false → Form e k d
plain e k d s parts part logical called =
    others e s (record {
      no_parts = parts;
      no_part = ap (λ (b : Bool). b && within 3 4 d) part;
      no_logic = logical;
      no_call = called;
    })

pub form : (e : Expr) → Proper e → Form e (kind_of (rose_e e)) (detail_of (rose_e e))
unfolding expr_step
form (const Tree.none) p = plain _ 1 0 (λ more moreIf. refl) refl refl refl refl
form (const (boolean b)) p = plain _ 1 1 (λ more moreIf. refl) refl refl refl refl
form (const (int n)) p = plain _ 1 2 (λ more moreIf. refl) refl refl refl refl
form (const (string t)) p = plain _ 1 3 (λ more moreIf. refl) refl refl refl refl
form (const type_function) p = plain _ 1 4 (λ more moreIf. refl) refl refl refl refl
form (const len_function) p = plain _ 1 5 (λ more moreIf. refl) refl refl refl refl
form (const (other n t b e)) p = plain _ 1 6 (λ more moreIf. refl) refl refl refl refl
form (read (local n)) p = plain _ 2 0 (λ more moreIf. refl) refl refl refl refl
form (read (captured n)) p = plain _ 3 0 (λ more moreIf. refl) refl refl refl refl
form (read (module' n)) p = plain _ 4 0 (λ more moreIf. refl) refl refl refl refl
form (read (def n)) p = plain _ 5 0 (λ more moreIf. refl) refl refl refl refl
form (fresh tuple es) p = by_header (Form (fresh tuple es)) 6 (count_e es) (omega arith) (tuples es)
form (fresh list es) p = by_header (Form (fresh list es)) 7 (count_e es) (omega arith) (lists es)
form (dict es) p =
    by_header (Form (dict es)) 8 (count_e es / 2) (omega arith)
    (plain _ 8 (count_e es / 2) (λ more moreIf. refl) refl refl refl refl)
form (if_then c t f) p = plain _ 9 0 (λ more moreIf. refl) refl refl refl refl
form (Tree.not e) p = negations e
form (type_is t e) p = type_tests t e
form (logic and x y) p = ands x y
form (logic or x y) p = ors x y
form (seq x y) p = plain _ 13 0 (λ more moreIf. refl) refl refl refl refl
form (oper h pay es) p =
    others (oper h pay es) (λ more moreIf. refl)
    (operator_other (operator_view (kind_in h) (detail_in h) p.0))
form (call names args kwargs f es) p =
    by_header (Form (call names args kwargs f es)) 16 (count_e es - (bit_of args + bit_of kwargs)) (omega arith)
    (calls names args kwargs f es)
