-- `kept::value_at` meets its contract: by the statement's words.
-- Assumes nothing.
use mathlib.Core.Logic.{inl, inr}
use mathlib.Core.Path.{◌≡◌}
use Prim.Native.Nat.{◌+◌, ◌<◌}
use lib.ListN.{get_or}
use Rattle.std.proofs.Common.{rules}
use Rattle.kept.proofs.Forms.{value_local, value_captured, value_module}
use Rattle.kept.proofs.value_at.Goals as goal

pub returns-in-Local : goal.returns-in-Local
returns-in-Local c =
    let a = c.args in
    let assign : get_or a.words.now a.at 0 ≡ 35 = search rules in
    elim c.in-Local.is [
      | inl e ↦ let slot : get_or a.words.now (a.at + 2) 0 ≡ 67 = search rules in value_local assign slot
      | inr e ↦ let slot : get_or a.words.now (a.at + 2) 0 ≡ 68 = search rules in value_captured assign slot
    ]

pub returns-in-Module : goal.returns-in-Module
returns-in-Module c =
    let a = c.args in
    let assign : get_or a.words.now a.at 0 ≡ 35 = search rules in
    let slot : get_or a.words.now (a.at + 2) 0 ≡ 69 = search rules in
    let text : get_or a.words.now (a.at + 4) 0 < 65536 = search rules in
    value_module assign slot text
