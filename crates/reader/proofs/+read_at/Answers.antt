-- `reader::read_at` meets its contract: the own words, then the parts one by one.
-- Assumes nothing.
use Rattle.std.proofs.Common.{◌≡◌, ap, sym, ◌∙◌}
use native.Mathlib.Omega.{arith}
use mathlib.Core.List.{List}
use Rattle.spec.specs.Outcome.{Outcome}
use Rattle.spec.specs.Reading.{read_at}
use Rattle.spec.specs.declared.Sort.{Sort}
use Rattle.refusal.specs.Answers.{outcome_of}
use Rattle.steps.specs.Steps.{next_of}
use Rattle.steps.proofs.Decompose.{part_stops, part_goes, read_behind}
use Prim.Native.Nat.{ℕ}
use Rattle.reader.specs.Owns.{sort_of}
use Rattle.reader.proofs.+read_at.Goals as goal
use Rattle.reader.proofs.+read_at.Goals.{After-read_at-part}

-- the parts, as the loop reads them: their reader
abbrev reader : ℕ → List ℕ → Sort → ℕ → Outcome ℕ
reader below words s q = next_of (read_at below words s q)

-- one part
part_read : (t : ℕ) (c : After-read_at-part t)
    → reader c.levels_under-below.result c.args.words.now (sort_of c.in_ok-own.own.kind c.loop-i.i) c.loop-i.next
    ≡ outcome_of c.read_at-part.result
part_read t c =
    ap (λ (s : Sort). reader c.levels_under-below.result c.args.words.now s c.loop-i.next)
    (sym c.part_sort-want.ensures)
    ∙ sym c.read_at-part.ensures

pub returns-in_default : goal.returns-in_default
returns-in_default t c =
    let places = goal.at.returns-in_default t c in
    let own = c.in_ok-own.own in
    let e = part_read t places.After-read_at-part ∙ ap outcome_of c.in_default.is in
    let stops = part_stops (reader c.levels_under-below.result c.args.words.now) (sort_of own.kind) own.count c.loop-i.i
    c.loop-i.next c.loop-i-test.true e in
    rw c.in_default.is (sym (c.loop-i.invariant.1 ∙ stops))

pub loop-i-preserved : goal.loop-i-preserved
loop-i-preserved t c =
    let places = goal.at.loop-i-preserved t c in
    let l = c.loop-i in
    let own = c.in_ok-own.own in
    let e = part_read t places.After-read_at-part ∙ ap outcome_of c.in-Ok.is in
    let ends = read_behind c.levels_under-below.result _ (sort_of own.kind l.i) l.next _ e in (
      omega (arith, l.invariant.0),
      l.invariant.1
          ∙ part_goes (reader c.levels_under-below.result c.args.words.now) (sort_of own.kind) own.count l.i l.next
          c.loop-i-test.true e,
    )
