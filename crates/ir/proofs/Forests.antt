-- A walk through the words of expressions, node by node: what is left is a run of expressions.
-- Assumes nothing.
use mathlib.Core.List.{List, [], ◌∷◌}
use mathlib.Core.Path.{◌≡◌, refl, ap, sym, subst}
use Prim.Native.Nat.{ℕ, suc, ◌+◌, ◌-◌, ◌≤◌, ◌<◌}
use native.Mathlib.Nat.{add-zero, add_assoc}
use native.Mathlib.Omega.{arith}
use lib.ListN.{length}
use Rattle.spec.specs.Rose.{Rose, Roses, node, nil, cons, size, sizes, At, Ats, own_of, parts_of}
use Rattle.spec.specs.Rose.{count as countR}
use Rattle.spec.specs.Grammar.{Valid, Valids}
use Rattle.spec.specs.Weight.{own_weight, weight, weights}
use Rattle.spec.proofs.Meanings.{expr_parts}
use Rattle.spec.specs.declared.Sort.TheVariants as sort
use Rattle.ir.specs.Standing.{SomeExpr, Shape, NodeOf, ExtentOf, ValidExprs, SomeExprs, SkipOf}

-- ---- runs of trees, one behind the other

abbrev pub join_r : Roses → Roses → Roses
join_r nil qs = qs
join_r (cons p ps) qs = cons p (join_r ps qs)

join_at : (w : List ℕ) (ps qs : Roses) (a : ℕ) → Ats w a ps → Ats w (a + sizes ps) qs → Ats w a (join_r ps qs)
join_at w nil qs a t u = subst (λ (k : ℕ). Ats w k qs) (add-zero a) u
join_at w (cons p ps) qs a t u = (
  t.0,
  join_at w ps qs (a + size p) t.1
      (subst (λ (k : ℕ). Ats w k qs) (sym (add_assoc a (size p) (sizes ps))) u),
)

-- a run of expressions is one wherever it begins to be counted
pub from : (i j : ℕ) (ps : Roses) → Valids (λ (n : ℕ). sort.Expr) i ps → Valids (λ (n : ℕ). sort.Expr) j ps
from i j nil v = tt
from i j (cons p ps) v = (v.0, from (suc i) (suc j) ps v.1)

join_valid : (ps qs : Roses) (i : ℕ) → Valids (λ (n : ℕ). sort.Expr) i ps → ValidExprs qs
    → Valids (λ (n : ℕ). sort.Expr) i (join_r ps qs)
join_valid nil qs i v u = from 0 i qs u
join_valid (cons p ps) qs i v u = (v.0, join_valid ps qs (suc i) v.1 u)

join_count : (ps qs : Roses) → countR (join_r ps qs) ≡ countR ps + countR qs
join_count nil qs = omega arith
join_count (cons p ps) qs = omega (arith, join_count ps qs)

join_sizes : (ps qs : Roses) → sizes (join_r ps qs) ≡ sizes ps + sizes qs
join_sizes nil qs = omega arith
join_sizes (cons p ps) qs = omega (arith, join_sizes ps qs)

join_weights : (ps qs : Roses) → weights (join_r ps qs) ≡ weights ps + weights qs
join_weights nil qs = omega arith
join_weights (cons p ps) qs = omega (arith, join_weights ps qs)

-- an expression has a word, so a run has no more trees than words
pub own_some : (r : Rose) → Valid sort.Expr r → 1 ≤ length (own_of r)
own_some (node t [] ps) v = absurd v.1
own_some (node t (h ∷ pay) ps) v = omega arith

pub size_parts : (r : Rose) → size r ≡ length (own_of r) + sizes (parts_of r)
size_parts (node t own ps) = refl

weight_parts : (r : Rose) → weight r ≡ own_weight (own_of r) + weights (parts_of r)
weight_parts (node t own ps) = refl

pub at_parts : (w : List ℕ) (a : ℕ) (r : Rose) → At w a r → Ats w (a + length (own_of r)) (parts_of r)
at_parts w a (node t own ps) h = h.1

count_words : (ps : Roses) (i : ℕ) → Valids (λ (n : ℕ). sort.Expr) i ps → countR ps ≤ sizes ps
count_words nil i v = omega arith
count_words (cons p ps) i v = omega (arith, own_some p v.0, size_parts p, count_words ps (suc i) v.1)

-- ---- the walk

-- `left` expressions stand from `next` up to `end`
pub record Forest (w : List ℕ) (next left end : ℕ) : Type 0 where
  pub trees : Roses
  pub valid : ValidExprs trees
  pub here : Ats w next trees
  pub many : left ≡ countR trees
  pub ends : end ≡ next + sizes trees

-- none is left: the walk is at the end
pub forest_end : {w : List ℕ} {next left end : ℕ} → left ≤ 0 → Forest w next left end → next ≡ end
forest_end {next = next} {left = left} {end = end} h f = go f.trees f.many f.ends
  where
    go : (ps : Roses) → left ≡ countR ps → end ≡ next + sizes ps → next ≡ end
    go nil m e = omega arith
    go (cons p ps) m e = absurd (omega arith)

-- some are left: one node further
module _ {w : List ℕ} {next left end : ℕ} (h : 0 < left) (f : Forest w next left end) where
  pub forest_expr : end ≤ length w → SomeExpr w next
  forest_expr i = go f.trees f.valid f.here f.many f.ends
    where
      go : (ps : Roses) → ValidExprs ps → Ats w next ps → left ≡ countR ps → end ≡ next + sizes ps → SomeExpr w next
      go nil v a m e = absurd (omega arith)
      go (cons p ps) v a m e = record { tree = p; valid = v.0; here = a.0; inside = omega arith }

  module _ (k d x first n : ℕ) (o : NodeOf w next k d x first n) where
    pub record Walked : Type 0 where
      pub rest : Forest w first (left - 1 + n) end
      -- the node with its parts, and what was left behind it
      pub tree : Rose
      pub proper : Valid sort.Expr tree
      pub shape : Shape tree next k d x first n
      pub behind : Roses
      pub were : f.trees ≡ cons tree behind
      pub are : rest.trees ≡ join_r (parts_of tree) behind
      pub forward : next < first
      pub few : left - 1 + n ≤ end
      -- the words of the node, and what they weigh
      pub own : List ℕ
      pub past : first ≡ next + length own
      pub weighs : weights f.trees ≡ own_weight own + weights rest.trees

    pub forest_step : Walked
    forest_step = go f.trees refl f.valid f.here f.many f.ends
      where
        go : (ps : Roses) → f.trees ≡ ps → ValidExprs ps → Ats w next ps → left ≡ countR ps
            → end ≡ next + sizes ps → Walked
        go nil q v a m e = absurd (omega arith)
        go (cons p ps) q v a m e =
            let s = o.of sort.Expr p refl v.0 a.0 in
            let own = own_some p v.0 in
            let sp = size_parts p in
            let first-is = s.is_first in
            let parts_at : Ats w first (parts_of p) =
            subst (λ (i : ℕ). Ats w i (parts_of p)) (sym first-is) (at_parts w next p a.0) in
            let then_at : next + size p ≡ first + sizes (parts_of p) = omega arith in
            let valid = join_valid (parts_of p) ps 0 (expr_parts p v.0) (from 1 0 ps v.1) in
            let all = join_sizes (parts_of p) ps in
            let many = join_count (parts_of p) ps in
            let words = count_words (join_r (parts_of p) ps) 0 valid in
            let number = s.is_count in
            record {
              rest = record {
                trees = join_r (parts_of p) ps;
                valid = valid;
                here = join_at w (parts_of p) ps first parts_at (subst (λ (i : ℕ). Ats w i ps) then_at a.1);
                many = omega arith;
                ends = omega arith;
              };
              tree = p;
              proper = v.0;
              shape = s;
              behind = ps;
              were = q;
              are = refl;
              forward = omega arith;
              few = omega arith;
              own = own_of p;
              past = first-is;
              weighs = omega (arith, ap weights q, weight_parts p, join_weights (parts_of p) ps);
            }

-- a step further by a node's extent, within the words
pub record Turn (w : List ℕ) (next left own n : ℕ) : Type 0 where
  pub forward : 0 < own
  pub inside : next + own ≤ length w
  pub few : left - 1 + n ≤ length w

module _ {w : List ℕ} {next left end own n : ℕ} (h : 0 < left) (f : Forest w next left end)
    (o : ExtentOf w next own n) where
  pub forest_on : Walked h f o.kind o.detail o.word (next + own) n o.node
  forest_on = forest_step h f o.kind o.detail o.word (next + own) n o.node

  pub forest_turn : end ≤ length w → Turn w next left own n
  forest_turn i =
      let s = forest_on in
      record {
        forward = omega (arith, s.forward);
        inside = omega (arith, s.rest.ends);
        few = omega (arith, s.few);
      }

-- the walk over every run of n expressions that stands at a place
pub record Walk (w : List ℕ) (at n next left : ℕ) : Type 0 where
  pub all : (ps : Roses) → ValidExprs ps → Ats w at ps → n ≡ countR ps → Forest w next left (at + sizes ps)

pub walk_start : (w : List ℕ) (at n : ℕ) → Walk w at n at n
walk_start w at n = record { all = λ ps v a m. record { trees = ps; valid = v; here = a; many = m; ends = refl } }

pub walk_step : {w : List ℕ} {at n next left own m : ℕ} → 0 < left → Walk w at n next left → ExtentOf w next own m
    → Walk w at n (next + own) (left - 1 + m)
walk_step h t o = record { all = λ ps v a e. (forest_on h (t.all ps v a e) o).rest }

pub walk_end : {w : List ℕ} {at n next left : ℕ} → left ≤ 0 → Walk w at n next left → SkipOf w at n next
walk_end h t = record { of = λ ps v a e. forest_end h (t.all ps v a e) }

-- over a run that is known to stand there
module _ {w : List ℕ} {at n next left : ℕ} (s : SomeExprs w at n) (h : 0 < left) (t : Walk w at n next left) where
  known : Forest w next left (at + sizes s.trees)
  known = t.all s.trees s.valid s.here s.many

  pub walk_expr : SomeExpr w next
  walk_expr = forest_expr h known s.inside

  pub walk_turn : {own m : ℕ} → ExtentOf w next own m → Turn w next left own m
  walk_turn o = forest_turn h known o s.inside

-- what the check applies in `skip`
pub ruleset walks = (walk_start, walk_step, walk_end, walk_expr, walk_turn)

-- ---- one expression

pub some_one : {w : List ℕ} {at : ℕ} → SomeExpr w at → SomeExprs w at 1
some_one x = record {
  trees = cons x.tree nil;
  valid = (x.valid, tt);
  here = (x.here, tt);
  many = refl;
  inside = omega (arith, x.inside);
}

pub skip_one : {w : List ℕ} {at next : ℕ} (r : Rose) → Valid sort.Expr r → At w at r → SkipOf w at 1 next
    → next ≡ at + size r
skip_one r v a q = omega (arith, q.of (cons r nil) (v, tt) (a, tt) refl)
