-- `optimize::own_by` meets its contract: each way gives the numbers by the tables.
-- Assumes nothing.
use mathlib.Core.Path.{◌≡◌, ap, ◌∙◌}
use Prim.Native.Nat.{ℕ, ◌<◌}
use Rattle.std.proofs.Common.{rules}
use Rattle.spec.specs.Grammar.{part_count}
use Rattle.tables.specs.Kinds.{expr_number}
use Rattle.optimize.proofs.Nodes.{bare_numbers}
use Rattle.optimize.proofs.own_by.Goals as goal

pub returns : goal.returns
returns c =
    let few : expr_number c.args.kind < 16 = search rules in
    let no_builtin : expr_number c.args.kind ≡ 11 → ⊥ = search rules in
    let numbered = λ (x : ℕ). ap (λ (n : ℕ). part_count n c.args.detail x) c.number.ensures.0 in
    bare_numbers c.requires few no_builtin (λ x. c.parts_by_digit-count.ensures x ∙ numbered x)
