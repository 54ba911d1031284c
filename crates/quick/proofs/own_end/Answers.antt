-- `quick::own_end` meets its contract: a payload for two of the kinds, and none for the others.
-- Assumes nothing.
use mathlib.Core.Path.{◌≡◌, sym, ◌∙◌}
use Prim.Native.Nat.{◌<◌}
use Rattle.std.proofs.Common.{rules}
use Rattle.tables.specs.Kinds.{expr_number}
use Rattle.steps.proofs.Owns.{head_alone}
use Rattle.quick.proofs.own_end.Goals as goal

pub returns-in_default-2 : goal.returns-in_default-2
returns-in_default-2 c =
    let a = c.args in
    let k = expr_number a.kind in
    let past : 5 < k = search rules in
    let builtin : k ≡ 11 → ⊥ = search rules in
    let call : k ≡ 16 → ⊥ = search rules in
    head_alone a.words.now a.at k a.d (sym c.head_right.ensures ∙ c.if-not-head_right.false) past builtin call
