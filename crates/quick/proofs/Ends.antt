-- The quick walk over a constant or a read: the place that it finds is that of the reading.
-- Assumes nothing.
use mathlib.Core.Bool.{true}
use mathlib.Core.List.{List}
use mathlib.Core.Path.{◌≡◌, refl, sym}
use Prim.Native.Nat.{ℕ, ◌+◌, ◌≤◌, ◌<◌}
use native.Mathlib.Omega.{arith}
use borrow.Author.Tests.{eqb-true}
use lib.Dec.{eqb}
use lib.ListN.{length, get_or}
use Rattle.std.specs.Prelude.{Option, Some, None}
use Rattle.spec.specs.Outcome.{given}
use Rattle.spec.specs.Grammar.{kind_in, detail_in}
use Rattle.spec.specs.Reading.{read_at}
use Rattle.spec.specs.declared.Sort.TheVariants as sort
use Rattle.steps.specs.Steps.{next_of, head_step}
use Rattle.steps.specs.Quick.{Quick, NameAt, HeadAt}
use Rattle.steps.proofs.Decompose.{parts_end}
use Rattle.steps.proofs.Nodes.{node_each, node_pay, parts_goes}
use Rattle.steps.proofs.Owns.{by_read, read_pay_lem}

module _ (levels : ℕ) (ws : List ℕ) (at : ℕ) where
  pub const_told : at < length ws → 0 < levels → eqb (kind_in (get_or ws at 0)) 1 ≡ true
      → {d : ℕ} → d ≡ detail_in (get_or ws at 0) → (end : Option ℕ)
      → Quick (head_step ws sort.Expr at 1 d) end
      → Quick (next_of (read_at levels ws sort.Expr at)) end
  const_told inside level e {d} ed (Some end) own =
      let here : HeadAt ws at levels 1 d = record {
        inside = inside;
        level = level;
        is_kind = sym (eqb-true (kind_in (get_or ws at 0)) 1 e);
        is_detail = ed;
      } in
      node_each sort.Expr refl here own
  const_told inside level e ed None own = tt

  -- a header and any word
  by_kind : at + 1 < length ws → (k : ℕ) → 2 ≤ k → k ≤ 5 → HeadAt ws at levels k 0
      → next_of (read_at levels ws sort.Expr at) ≡ given (at + 1 + 1)
  by_kind m =
      let pay = read_pay_lem ws (at + 1) 0 m in
      by_read (λ (k : ℕ). HeadAt ws at levels k 0 → next_of (read_at levels ws sort.Expr at) ≡ given (at + 1 + 1))
      (λ here. node_pay sort.Expr refl here refl (pay 2 (omega arith) (omega arith)))
      (λ here. node_pay sort.Expr refl here refl (pay 3 (omega arith) (omega arith)))
      (λ here. node_pay sort.Expr refl here refl (pay 4 (omega arith) (omega arith)))
      (λ here. node_pay sort.Expr refl here refl (pay 5 (omega arith) (omega arith)))

  pub name_told : 0 < levels → NameAt ws at → at + 1 < length ws
      → next_of (read_at levels ws sort.Expr at) ≡ given (at + 1 + 1)
  name_told l here m = by_kind m (get_or ws at 0) here.low here.high (record {
    inside = here.inside;
    level = l;
    is_kind = omega (arith, here.high);
    is_detail = omega (arith, here.high);
  })

-- what the check applies where parts are read one by one
pub ruleset parts_one_by_one = (parts_goes, parts_end)
