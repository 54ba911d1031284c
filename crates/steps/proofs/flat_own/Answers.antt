-- `steps::flat_own` meets its contract: a payload for four of the kinds, one word for reads, and none for the others.
-- Assumes nothing.
use mathlib.Core.Path.{◌≡◌, ap, sym, ◌∙◌}
use Prim.Native.Nat.{ℕ, ◌≤◌}
use Rattle.std.proofs.Common.{rules}
use Rattle.spec.specs.Grammar.{expr_head}
use Rattle.tables.specs.Kinds.{expr_number}
use Rattle.steps.proofs.Owns.{flat_told}
use Rattle.steps.proofs.flat_own.Goals as goal

pub returns : goal.returns
returns c =
    let a = c.args in
    let k = expr_number a.kind in
    let numbered = ap (λ (n : ℕ). expr_head n a.d) (sym c.number.ensures.0) in
    let right = numbered ∙ c.head_by_digit.ensures c.if-not-head_by_digit.false in
    let some : 2 ≤ k = search rules in
    let builtin : k ≡ 11 → ⊥ = search rules in
    let call : k ≡ 16 → ⊥ = search rules in
    flat_told a.words.now a.at k a.d right c.if-words-first.false some builtin call c.is_read.result
    (sym c.is_read.ensures)
