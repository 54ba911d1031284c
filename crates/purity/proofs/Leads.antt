-- The first operand of Not, And and Or, however they are nested: where its truth is not known, theirs is not.
-- Assumes nothing.
use mathlib.Core.Bool.{Bool, true, false, ◌||◌}
use mathlib.Core.List.{List}
use mathlib.Core.Path.{◌≡◌, refl, ap, sym, ◌∙◌}
use Prim.Native.Nat.{ℕ, ◌+◌, ◌<◌}
use borrow.Author.Tests.{eqb-true, eqb-false}
use lib.Dec.{eqb}
use lib.ListN.{length, get_or}
use Rattle.spec.specs.Grammar.{kind_in, detail_in, within}
use Rattle.spec.proofs.Outcomes.{neither, by_test}
use Rattle.ir.specs.Standing.{SomeExpr}
use Rattle.ir.proofs.Nodes.{node_of, some_of, bare_of}
use Rattle.purity.specs.Told.{may_be_known, joins, leads_by, IsUnknown, LeadOf}
use Rattle.ir.proofs.Ranges.{expr_range}
use Rattle.purity.proofs.Pures.{some_node, expr_inside}
use Rattle.purity.proofs.Truths.{not_asks, not_open, left_asks, unknown_way, other_way}

-- an expression at `lead`, without whose truth that of the one at `at` is not known
pub record Leading (ws : List ℕ) (at lead : ℕ) : Type 0 where
  pub some : SomeExpr ws lead
  pub unknown : IsUnknown ws lead → IsUnknown ws at

module _ {ws : List ℕ} {at lead k h : ℕ} (eh : h ≡ get_or ws lead 0) (ek : k ≡ kind_in h) where
  -- at Not, And and Or: one word further
  pub lead_step : Leading ws at lead → eqb k 12 || eqb h 779 ≡ true → Leading ws at (lead + 1)
  lead_step l e =
      by_test _ (eqb k 12)
      (λ t.
      let o = bare_of (some_of (some_node l.some) eh (sym (eqb-true k 12 t) ∙ ek) refl) refl refl in
      record {
        some = left_asks o refl l.some;
        unknown = λ q. l.unknown (unknown_way o refl q);
      })
      (λ t.
      let is = eqb-true h 779 (sym (ap (λ (b : Bool). b || eqb h 779) t) ∙ e) in
      let o = bare_of (some_of (some_node l.some) eh (sym (ap kind_in is)) (sym (ap detail_in is))) refl refl in
      record {
        some = not_asks o refl refl l.some;
        unknown = λ q. l.unknown (not_open o refl refl q);
      })

-- a turn of the loop
module _ {ws : List ℕ} {at lead h : ℕ} {b : Bool} (eh : h ≡ get_or ws lead 0) (l : Leading ws at lead)
    (is : b ≡ leads_by h) (e : b ≡ true) where
  pub lead_more : Leading ws at (lead + 1)
  lead_more = lead_step eh refl l (sym is ∙ e)

  pub lead_next : lead + 1 < length ws
  lead_next = expr_inside lead_more.some

module _ {ws : List ℕ} {at lead : ℕ} (l : LeadOf ws at lead) where
  pub lead_range : within 1 16 (kind_in (get_or ws lead 0)) ≡ true
  lead_range = expr_range l.some

  -- of a kind whose truth is not known
  pub lead_unknown : {k : ℕ} {b : Bool} → k ≡ kind_in (get_or ws lead 0) → b ≡ may_be_known k → b ≡ false
      → IsUnknown ws at
  lead_unknown {k} ek is e =
      let n = neither (eqb k 1) (within 6 8 k) (sym is ∙ e) in
      let x = some_of (some_node l.some) refl ek refl in
      l.unknown
      (other_way (node_of x refl refl refl) (eqb-false k 1 n.0) n.1
      (ap (λ (i : ℕ). joins i (detail_in (get_or ws lead 0))) ek ∙ l.plain))
