-- A walk through the words of an expression that sums the weight, node by node: the weight so far and that of the
-- expressions that are left are the whole weight.
-- Assumes nothing.
use mathlib.Core.List.{List, [], ◌∷◌}
use mathlib.Core.Path.{◌≡◌, refl}
use Prim.Native.Nat.{ℕ, ◌+◌, ◌-◌, ◌*◌, ◌≤◌, ◌<◌}
use native.Mathlib.Omega.{arith}
use borrow.Author.Tests.{le-ltb}
use lib.ListN.{length}
use Rattle.spec.specs.Rose.{Rose, Roses, nil, cons, size, At}
use Rattle.spec.specs.Rose.{count as countR}
use Rattle.spec.specs.Grammar.{Valid}
use Rattle.spec.specs.Weight.{own_weight, weights}
use Rattle.spec.specs.Weight.{weight as weightR}
use Rattle.spec.proofs.Weights.{rose_weight}
use Rattle.spec.specs.declared.Sort.TheVariants as sort
use Rattle.ir.specs.Standing.{SomeExpr, ExtentOf}
use Rattle.ir.proofs.Forests.{Forest, forest_expr, forest_end, Turn, forest_on, forest_turn}
use Rattle.walk.specs.Walked.{weight_by, WeightOf}

-- own words weigh by their number
pub more_weigh : (n : ℕ) → 2 ≤ n → weight_by n ≡ n
more_weigh n h = simp (le-ltb n 2 h)

own_by_lem : (own : List ℕ) → 1 ≤ length own → weight_by (length own) ≡ own_weight own
own_by_lem [] h = absurd (omega arith)
own_by_lem (w ∷ []) h = refl
own_by_lem (w ∷ (v ∷ vs)) h = more_weigh (length (w ∷ (v ∷ vs))) (omega arith)

-- ---- the walk

-- the expressions left, and the weight `sum` that is behind
pub record Pending (w : List ℕ) (next sum left end total : ℕ) : Type 0 where
  pub rest : Forest w next left end
  pub whole : sum + weights rest.trees ≡ total

-- whatever expression stands there
pub record Weighing (w : List ℕ) (at next sum left : ℕ) : Type 0 where
  pub all : (r : Rose) → Valid sort.Expr r → At w at r → Pending w next sum left (at + size r) (weightR r)

pub weigh_start : (w : List ℕ) (at : ℕ) → Weighing w at at 0 1
weigh_start w at = record {
  all = λ r v a. record {
    rest = record { trees = cons r nil; valid = (v, tt); here = (a, tt); many = refl; ends = omega arith };
    whole = omega arith;
  };
}

-- one node further
module _ {w : List ℕ} {next sum left end total own n more : ℕ} (h : 0 < left) (f : Pending w next sum left end total)
    (o : ExtentOf w next own n) (m : more ≡ weight_by own) where
  pub pending_step : Pending w (next + own) (sum + more) (left - 1 + n) end total
  pending_step =
      let s = forest_on h f.rest o in
      let past = s.past in
      let words : own ≡ length s.own = omega arith in
      let same = own_by_lem s.own (omega (arith, s.forward)) in
      let more-is : more ≡ own_weight s.own = cc in
      record { rest = s.rest; whole = omega (arith, f.whole, s.weighs) }

pub weigh_step : {w : List ℕ} {at next sum left own n more : ℕ} → 0 < left → Weighing w at next sum left
    → ExtentOf w next own n → more ≡ weight_by own
    → Weighing w at (next + own) (sum + more) (left - 1 + n)
weigh_step h t o m = record { all = λ r v a. pending_step h (t.all r v a) o m }

-- none is left
pub weigh_end : {w : List ℕ} {at next sum left : ℕ} → left ≤ 0 → Weighing w at next sum left → WeightOf w at next sum
weigh_end {w} {at} {next} {sum} {left} h t = record { of = λ r v a. (forest_end h (t.all r v a).rest, weighed r v a) }
  where
    none : (ps : Roses) → left ≡ countR ps → weights ps ≡ 0
    none nil m = refl
    none (cons p ps) m = absurd (omega arith)

    weighed : (r : Rose) → Valid sort.Expr r → At w at r → sum ≡ weightR r
    weighed r v a =
        let f = t.all r v a in
        omega (arith, f.whole, none f.rest.trees f.rest.many)

-- ---- within the words

module _ {w : List ℕ} {at next sum left : ℕ} (x : SomeExpr w at) (h : 0 < left) (t : Weighing w at next sum left) where
  pending : Pending w next sum left (at + size x.tree) (weightR x.tree)
  pending = t.all x.tree x.valid x.here

  pub weigh_expr : SomeExpr w next
  weigh_expr = forest_expr h pending.rest x.inside

  module _ {own n : ℕ} (o : ExtentOf w next own n) where
    pub weigh_turn : Turn w next left own n
    weigh_turn = forest_turn h pending.rest o x.inside

    -- the weight is at most twice the words
    pub fits : {more : ℕ} → more ≡ weight_by own → sum + more ≤ 2 * length w
    fits m = omega (arith, (pending_step h pending o m).whole, (rose_weight x.tree).1, x.inside)

-- what the check applies in `weigh`
pub ruleset weighs = (weigh_start, weigh_step, weigh_end, weigh_expr, weigh_turn)
