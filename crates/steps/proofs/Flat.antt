-- The walk over an expression node by node: whatever the reading gives of the expressions that are left, each with a
-- level more than there is room for nodes with parts, the reading gives of the whole.
-- Assumes nothing.
use mathlib.Core.List.{List}
use mathlib.Core.Path.{◌≡◌, refl, ap, sym, subst, fun_ext, ◌∙◌}
use Prim.Native.Nat.{ℕ, zero, suc, ◌+◌, ◌-◌, ◌*◌, ◌≤◌, ◌<◌}
use native.Mathlib.Omega.{arith}
use borrow.Author.Tests.{lt-ltb}
use lib.Dec.{ltb}
use lib.ListN.{length, get_or}
use mir.Val.{bool_byte}
use Rattle.spec.specs.Outcome.{Outcome, given, refused}
use Rattle.spec.specs.Grammar.{kind_in, detail_in, expr_head, part_count}
use Rattle.spec.specs.Reading.{bind, read_at}
use Rattle.spec.proofs.Outcomes.{not_given, passed}
use Rattle.spec.proofs.Readings.{sound, complete}
use Rattle.spec.specs.declared.Sort.TheVariants as sort
use Rattle.steps.specs.Steps.{next_of, pay_step, head_step, parts_step}
use Rattle.steps.proofs.Decompose.{next_given, pay_behind}
use Rattle.steps.proofs.Nodes.{exprs_one}
use Rattle.steps.proofs.Owns.{node_exprs}

-- what a step that was given goes on from
record Went (o : Outcome ℕ) (more : ℕ → Outcome ℕ) (end : ℕ) : Type 0 where
  place : ℕ
  first : o ≡ given place
  then : more place ≡ given end

went : (o : Outcome ℕ) (more : ℕ → Outcome ℕ) {end : ℕ} → bind o more ≡ given end → Went o more end
went (given p) more e = record { place = p; first = refl; then = e }
went (refused number place) more e = absurd (not_given e)

-- ---- expressions one by one, not counted

abbrev on : ℕ → List ℕ → ℕ → ℕ → Outcome ℕ
on levels ws zero p = given p
on levels ws (suc n) p = bind (next_of (read_at levels ws sort.Expr p)) (on levels ws n)

module _ (ws : List ℕ) where
  step_on : (levels n i p : ℕ)
      → parts_step (λ s q. next_of (read_at levels ws s q)) (λ j. sort.Expr) n i p ≡ on levels ws n p
  unfolding parts_step
  step_on levels zero i p = refl
  step_on levels (suc n) i p =
      ap (bind (next_of (read_at levels ws sort.Expr p))) (fun_ext (λ q. step_on levels n (suc i) q))

  -- the first n of them, and the m others
  split : (levels all n m p : ℕ) → all ≡ n + m → {end : ℕ} → on levels ws all p ≡ given end
      → Went (on levels ws n p) (on levels ws m) end
  split levels all zero m p q e =
      let others : all ≡ m = omega arith in
      record { place = p; first = refl; then = ap (λ (k : ℕ). on levels ws k p) (sym others) ∙ e }
  split levels zero (suc n) m p q e = absurd (omega arith)
  split levels (suc all) (suc n) m p q e =
      let w = went (next_of (read_at levels ws sort.Expr p)) (on levels ws all) e in
      let s = split levels all n m w.place (omega arith) w.then in
      record {
        place = s.place;
        first = ap (λ (o : Outcome ℕ). bind o (on levels ws n)) w.first ∙ s.first;
        then = s.then;
      }

  -- with more levels the same is read
  more_levels : (less more p : ℕ) → less ≤ more → {end : ℕ} → next_of (read_at less ws sort.Expr p) ≡ given end
      → next_of (read_at more ws sort.Expr p) ≡ given end
  more_levels less more p h {end} e =
      let (g, read, same) = next_given (read_at less ws sort.Expr p) end e in
      let s = sound less ws sort.Expr p g read in
      ap next_of (complete more ws sort.Expr p g.what s.valid s.here (omega (arith, s.ends, s.inside))
      (omega (arith, s.deep)))
      ∙ ap given (sym s.ends ∙ same)

  more_on : (less more n p : ℕ) → less ≤ more → {end : ℕ} → on less ws n p ≡ given end → on more ws n p ≡ given end
  more_on less more zero p h e = e
  more_on less more (suc n) p h e =
      let w = went (next_of (read_at less ws sort.Expr p)) (on less ws n) e in
      ap (λ (o : Outcome ℕ). bind o (on more ws n)) (more_levels less more p h w.first)
      ∙ more_on less more n w.place h w.then

-- ---- the walk

-- `left` expressions are to come from `next` on, and so many nodes with parts
pub record Flat (ws : List ℕ) (at levels next left room : ℕ) : Type 0 where
  all : {end : ℕ} → on (suc room) ws left next ≡ given end → next_of (read_at levels ws sort.Expr at) ≡ given end
  pub fits : left + 4294967296 * room ≤ 1 + 4294967296 * (levels - 1)

pub flat_start : (ws : List ℕ) (at levels : ℕ) → 0 < levels → Flat ws at levels at 1 (levels - 1)
flat_start ws at levels h = record { all = whole; fits = omega arith }
  where
    whole : {end : ℕ} → on (suc (levels - 1)) ws 1 at ≡ given end → next_of (read_at levels ws sort.Expr at) ≡ given end
    whole e =
        let same : suc (levels - 1) ≡ levels = omega arith in
        sym (exprs_one levels ws at)
        ∙ step_on ws levels 1 0 at
        ∙ ap (λ (l : ℕ). on l ws 1 at) (sym same)
        ∙ e

-- none is left
pub flat_end : {ws : List ℕ} {at levels next left room : ℕ} → left ≤ 0 → Flat ws at levels next left room
    → next_of (read_at levels ws sort.Expr at) ≡ given next
flat_end {ws} {next = next} {left = left} {room = room} h t =
    let none : left ≡ 0 = omega arith in
    t.all (ap (λ (n : ℕ). on (suc room) ws n next) none)

-- one node further: it has `count` parts, and takes `inner` of the room
module _ {ws : List ℕ} {at levels next left room k d first count inner : ℕ} (t : Flat ws at levels next left room)
    (some : 0 < left) (inside : next < length ws) (kind : k ≡ kind_in (get_or ws next 0))
    (detail : d ≡ detail_in (get_or ws next 0)) (own : head_step ws sort.Expr next k d ≡ given first)
    (parts : count ≡ part_count k d (get_or ws (next + 1) 0)) (one : inner ≡ bool_byte (ltb 0 count))
    (enough : inner ≤ room) (few : count < 4294967296) where
  -- the parts, where there are some, have a level less than the node
  parts_read : (n : ℕ) → count ≡ n → {end : ℕ} → on (suc (room - inner)) ws n first ≡ given end
      → on room ws n first ≡ given end
  parts_read zero none e = e
  parts_read (suc n) more e =
      let taken : inner ≡ 1 = one ∙ ap bool_byte (lt-ltb 0 count (omega arith)) in
      let below : suc (room - inner) ≡ room = omega arith in
      ap (λ (l : ℕ). on l ws (suc n) first) (sym below) ∙ e

  node_read : {end : ℕ} → on (suc (room - inner)) ws count first ≡ given end
      → next_of (read_at (suc room) ws sort.Expr next) ≡ given end
  node_read e =
      let below : suc room - 1 ≡ room = omega arith in
      node_exprs (record { inside = inside; level = omega arith; is_kind = kind; is_detail = detail }) own parts
      ∙ step_on ws (suc room - 1) count 0 first
      ∙ ap (λ (l : ℕ). on l ws count first) below
      ∙ parts_read count refl e

  -- the node and the others behind its parts
  run_read : (n : ℕ) → left ≡ suc n → {end : ℕ} → on (suc (room - inner)) ws (left - 1 + count) first ≡ given end
      → on (suc room) ws (suc n) next ≡ given end
  run_read n number e =
      let s = split ws (suc (room - inner)) (left - 1 + count) count n first (omega arith) e in
      ap (λ (o : Outcome ℕ). bind o (on (suc room) ws n)) (node_read s.first)
      ∙ more_on ws (suc (room - inner)) (suc room) n s.place (omega arith) s.then

  taken_fits : (b : ℕ) → count ≡ b → left - 1 + count + 4294967296 * (room - inner) ≤ 1 + 4294967296 * (levels - 1)
  taken_fits zero none = omega (arith, t.fits)
  taken_fits (suc b) more =
      let taken : inner ≡ 1 = one ∙ ap bool_byte (lt-ltb 0 count (omega arith)) in
      omega (arith, t.fits)

  pub flat_step : {rest : ℕ} → rest ≡ room - inner → Flat ws at levels first (left - 1 + count) rest
  flat_step e =
      subst (Flat ws at levels first (left - 1 + count)) (sym e)
      (record { all = go left refl; fits = taken_fits count refl })
    where
      go : (n : ℕ) → left ≡ n → {end : ℕ} → on (suc (room - inner)) ws (left - 1 + count) first ≡ given end
          → next_of (read_at levels ws sort.Expr at) ≡ given end
      go zero none e = absurd (omega arith)
      go (suc n) number e =
          t.all (ap (λ (m : ℕ). on (suc room) ws m next) number ∙ run_read n number e)

-- own words end behind their place
pub own_behind : (ws : List ℕ) (at k d first : ℕ) → head_step ws sort.Expr at k d ≡ given first → at < first
own_behind ws at k d first e =
    let pay = (passed (expr_head k d) (pay_step ws (at + 1) k d) 9 at e).1 in
    omega (arith, pay_behind ws d _ (at + 1) first pay)

-- where the walk begins, and where it ends
pub ruleset ends = (flat_start, flat_end)
