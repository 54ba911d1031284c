-- A condition that stays: it is told by its header (`stays_way`), and `if_expr` makes If of it and the arms
-- (`stays_if_lem`).
-- Assumes nothing.
use mathlib.Core.Bool.{Bool, true, false, false≢true}
use mathlib.Core.List.{List, [], ◌∷◌}
use mathlib.Core.Path.{◌≡◌, refl, ap, ap₂, sym, ◌∙◌}
use Prim.Native.Nat.{ℕ, ◌+◌, ◌-◌, ◌/◌}
use native.Mathlib.Omega.{arith}
use borrow.Author.Tests.{ne_eqb}
use lib.ListN.{get_or}
use Rattle.spec.specs.Rose.{Rose, node, At}
use Rattle.spec.specs.Grammar.{kind_in, detail_in, Valid}
use Rattle.spec.specs.Tree
use Rattle.spec.specs.Tree.{local, tuple, list, and}
use Rattle.spec.specs.Tree.{Expr, const, read, fresh, dict, if_then, type_is, logic, oper, call, rose_e}
use Rattle.spec.specs.Tree.{bit_of, count_e}
use Rattle.spec.specs.Meaning.{expr_of}
use Rattle.spec.specs.Proper.{Proper}
use Rattle.spec.specs.Verdict.{truth_of}
use Rattle.spec.specs.Views.{word_in, kind_of, detail_of}
use Rattle.spec.specs.declared.Sort.TheVariants as sort
use Rattle.spec.specs.Pass.{decided, new_bool, if_left, if_step, nodes_of, if_bounded, if_expr}
use Rattle.spec.proofs.Heads.{Operator, slice, builtin1, builtin2, index2, operator_view}
use Rattle.spec.proofs.Meanings.{rose_expr, proper_expr}
use Rattle.spec.proofs.Views.{by_header}
use Rattle.tables.specs.Kinds.{expr_number}
use Rattle.tables.specs.declared.exprs.ExprKind.{ExprKind}
use Rattle.purity.specs.Told.{BoolOf}
use Rattle.optimize.specs.Passed.{stays_if, stays_by}
use Rattle.optimize.proofs.Sorts.{no_expr}

-- ---- what is made of it

pub stays_if_lem : (e t f : Expr) → stays_if e ≡ true → if_expr e t f ≡ if_then e t f
unfolding if_expr if_bounded nodes_of if_step new_bool decided truth_of if_left
stays_if_lem (read p) t f s = refl
stays_if_lem (if_then c x y) t f s = refl
stays_if_lem (type_is u e) t f s = refl
stays_if_lem (oper h pay es) t f s = refl
stays_if_lem (call names args kwargs g es) t f s = refl
stays_if_lem _ t f s = absurd (false≢true s)

-- ---- by its header

operator_stays : {k d : ℕ} → Operator k d → true ≡ stays_by k d
operator_stays slice = refl
operator_stays (builtin1 {d} u v) = simp (ne_eqb d 3 u)
operator_stays builtin2 = refl
operator_stays index2 = refl

stays_view : (e : Expr) → Proper e → stays_if e ≡ stays_by (kind_of (rose_e e)) (detail_of (rose_e e))
stays_view (const Tree.none) p = refl
stays_view (read (local n)) p = refl
stays_view (fresh tuple es) p = by_header stays_by 6 (count_e es) (omega arith)
stays_view (fresh list es) p = by_header stays_by 7 (count_e es) (omega arith)
stays_view (dict es) p = by_header stays_by 8 (count_e es / 2) (omega arith)
stays_view (logic and x y) p = refl
stays_view (oper h pay es) p = operator_stays (operator_view (kind_in h) (detail_in h) p.0)
stays_view (call names args kwargs f es) p =
    by_header stays_by 16 (count_e es - (bit_of args + bit_of kwargs)) (omega arith)
stays_view _ p = refl

stays_words : (r : Rose) → Valid sort.Expr r → stays_if (expr_of r) ≡ stays_by (kind_of r) (detail_of r)
stays_words r v =
    stays_view (expr_of r) (proper_expr r v) ∙ ap (λ (q : Rose). stays_by (kind_of q) (detail_of q)) (rose_expr r v)

first_word : (w : List ℕ) (at : ℕ) (r : Rose) → Valid sort.Expr r → At w at r → get_or w at 0 ≡ word_in r 0
first_word w at (node t [] ps) v a = absurd v.1
first_word w at (node t (h ∷ pay) ps) v a = a.0.0

pub stays_way : {w : List ℕ} {at h k d : ℕ} {b : Bool} → h ≡ get_or w at 0 → k ≡ kind_in h → d ≡ detail_in h
    → b ≡ stays_by k d → BoolOf stays_if w at b
stays_way {w} {at} eh ek ed eb = record {
  of = λ r v a.
      let same = eh ∙ first_word w at r v a in
      eb ∙ ap₂ stays_by (ek ∙ ap kind_in same) (ed ∙ ap detail_in same) ∙ sym (stays_words r v);
}

-- where no kind of expressions is, no expression stands
pub stays_none : {w : List ℕ} {at h n : ℕ} → h ≡ get_or w at 0 → n ≡ kind_in h
    → ((kind : ExprKind) → expr_number kind ≡ n → ⊥) → BoolOf stays_if w at false
stays_none {w} {at} eh en f = record {
  of = λ r v a.
      absurd (no_expr r v (λ kind q. f kind (q ∙ sym (en ∙ ap kind_in (eh ∙ first_word w at r v a)))));
}
