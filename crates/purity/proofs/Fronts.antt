-- The first part of If, Not, And, Or and Seq, however they are nested: where it is not pure, they are not.
-- Assumes nothing.
use mathlib.Core.Bool.{Bool, true, false}
use mathlib.Core.List.{List}
use mathlib.Core.Path.{◌≡◌, refl, ap, sym, ◌∙◌}
use Prim.Native.Nat.{ℕ, ◌+◌, ◌<◌}
use native.Mathlib.Omega.{arith}
use borrow.Author.Tests.{eqb-true, eqb-false}
use lib.Dec.{eqb}
use lib.ListN.{length, get_or}
use Rattle.spec.specs.Grammar.{kind_in, detail_in, within}
use Rattle.spec.specs.Views.{own_pure}
use Rattle.spec.proofs.Heads.{within_low, within_high}
use Rattle.spec.proofs.Outcomes.{by_test}
use Rattle.ir.specs.Standing.{NodeOf}
use Rattle.ir.proofs.Nodes.{some_of, bare_of}
use Rattle.ir.proofs.Ranges.{expr_range}
use Rattle.purity.specs.Told.{may_be_pure, IsImpure, fronts_by, FrontOf}
use Rattle.purity.proofs.Pures.{some_node, expr_inside, inv_start, inv_asks, inv_halt, kind_impure}

-- the kinds 12 and 13
either : (k : ℕ) → within 12 13 k ≡ true → (k ≡ 12 → ⊥) → k ≡ 13
either k e u = let l = within_low 12 13 k e in let h = within_high 12 13 k e in omega arith

module _ {ws : List ℕ} {at front h : ℕ} (eh : h ≡ get_or ws front 0) (f : FrontOf ws at front) where
  -- a node that is pure where its parts are, the first of them at the next word
  on : (k d n : ℕ) → NodeOf ws front k d 0 (front + 1) n → 0 < n
      → true ≡ own_pure k d 0 (get_or ws (front + 1) 0)
      → FrontOf ws at (front + 1)
  on k d n o some own =
      let inv = inv_start o refl own in
      record {
        some = inv_asks inv f.some some;
        impure = λ q. f.impure (inv_halt inv some q);
      }

  -- by its kind
  if_on : kind_in h ≡ 9 → FrontOf ws at (front + 1)
  if_on k = on 9 (detail_in h) 3 (bare_of (some_of (some_node f.some) eh (sym k) refl) refl refl) (omega arith) refl

  logic_on : kind_in h ≡ 12 → FrontOf ws at (front + 1)
  logic_on k =
      on 12 (detail_in h) 2 (bare_of (some_of (some_node f.some) eh (sym k) refl) refl refl) (omega arith) refl

  seq_on : kind_in h ≡ 13 → FrontOf ws at (front + 1)
  seq_on k = on 13 (detail_in h) 2 (bare_of (some_of (some_node f.some) eh (sym k) refl) refl refl) (omega arith) refl

  not_on : h ≡ 779 → FrontOf ws at (front + 1)
  not_on is =
      on 11 3 1 (bare_of (some_of (some_node f.some) eh (sym (ap kind_in is)) (sym (ap detail_in is))) refl refl)
      (omega arith) refl

  pub front_step : fronts_by h ≡ true → FrontOf ws at (front + 1)
  front_step e =
      by_test _ (eqb (kind_in h) 9) (λ t. if_on (eqb-true (kind_in h) 9 t))
      (λ t. by_test _ (within 12 13 (kind_in h))
      (λ u. by_test _ (eqb (kind_in h) 12) (λ v. logic_on (eqb-true (kind_in h) 12 v))
      (λ v. seq_on (either (kind_in h) u (eqb-false (kind_in h) 12 v))))
      (λ u.
      let rest : eqb h 779 ≡ true = sym (simp (t, u)) ∙ e in
      not_on (eqb-true h 779 rest)))

  -- a turn of the loop
  module _ {b : Bool} (is : b ≡ fronts_by h) (e : b ≡ true) where
    pub front_more : FrontOf ws at (front + 1)
    front_more = front_step (sym is ∙ e)

    pub front_next : front + 1 < length ws
    front_next = expr_inside front_more.some

module _ {ws : List ℕ} {at front : ℕ} (f : FrontOf ws at front) where
  pub front_range : within 1 16 (kind_in (get_or ws front 0)) ≡ true
  front_range = expr_range f.some

  -- of a kind that no pure node has
  pub front_impure : {k : ℕ} {b : Bool} → k ≡ kind_in (get_or ws front 0) → b ≡ may_be_pure k → b ≡ false
      → IsImpure ws at
  front_impure ek is e = f.impure (kind_impure (some_of (some_node f.some) refl ek refl) (sym is ∙ e))
