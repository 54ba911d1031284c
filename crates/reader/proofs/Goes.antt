-- What the check applies where parts are read one by one.
-- Assumes nothing.
use mathlib.Core.List.{List}
use mathlib.Core.Path.{◌≡◌, refl, ap, sym, fun_ext, ◌∙◌}
use Prim.Native.Nat.{ℕ, ◌-◌, ◌<◌}
use Rattle.spec.specs.Outcome.{Outcome}
use Rattle.spec.specs.Reading.{read_at}
use Rattle.spec.specs.declared.Sort.{Sort}
use Rattle.steps.specs.Steps.{next_of, parts_step, under}
use Rattle.steps.proofs.Decompose.{own_inside, own_refused, parts_end, parts_start}
use Rattle.reader.specs.Owns.{sort_of, IsOwn}
use Rattle.reader.specs.declared.Own.{Own}

-- the parts, each with so many levels left
abbrev pub parts_of : ℕ → List ℕ → Own → ℕ → ℕ → Outcome ℕ
parts_of below ws own i next =
    parts_step (λ s q. next_of (read_at below ws s q)) (sort_of own.kind) (own.count - i) i next

-- own words that are read leave the parts
module _ {levels : ℕ} {ws : List ℕ} {s : Sort} {at : ℕ} {own : Own} (x : IsOwn levels ws s at own) where
  pub parts_behind : at < own.first
  parts_behind = (own_inside levels ws s at own.first x.read).1

  pub parts_first : {below : ℕ} → below ≡ under levels s
      → next_of (read_at levels ws s at) ≡ parts_of below ws own 0 own.first
  parts_first {below} e =
      parts_start levels ws s at own.first _ _ own.count below x.read refl refl x.many e
      ∙ ap (λ (f : ℕ → Sort). parts_step (λ t q. next_of (read_at below ws t q)) f (own.count - 0) 0 own.first)
      (sym (fun_ext x.sorts))

pub ruleset parts = (own_inside, own_refused, parts_end, parts_behind, parts_first)
