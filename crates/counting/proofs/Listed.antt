-- All expressions built from True, False, Local 0, Not, And and Or with exactly n nodes: `formulas n` has each of them
-- once, and nothing else (`listed`).
-- Assumes nothing.
use mathlib.Core.Path.{◌≡◌, refl, sym, ap, ap₂, subst, subst₂, ◌∙◌}
use mathlib.Core.Bool.{true, false}
use mathlib.Core.List.{List, map}
use mathlib.Core.Logic.{inl, inr, ⊎_elim}
use Prim.Native.Nat.{ℕ, zero, suc, ◌+◌, ◌-◌, ◌≤◌, ◌<◌}
use native.Mathlib.Omega.{arith}
use Rattle.std.proofs.lemmas.Bool.{and_from, and_parts, false≢true, eqb-true, cases_lt}
use Rattle.spec.specs.Tree.{Const, boolean, Place, local, Logic, and, or, Expr, const, read, not, logic}
use Rattle.spec.specs.Verdict.{is_bool}
use Rattle.spec.specs.Pass.{nodes_of}
use Rattle.spec.proofs.Unroll.{some_nodes}
use Rattle.counting.specs.Formulas.{is_local_0, built, Formula, Once, Listed}
use Rattle.counting.specs.Formulas.{leaves, pairs, joins, splits, next, formulas}
use Rattle.counting.proofs.Places.{In, Single, in_append, single_left, single_right, in_map, single_map}
use Rattle.counting.proofs.Places.{Pair, in_pairs, single_pairs, in_at, place_of, place_stands, place_only}
use Rattle.counting.proofs.Recurrence.{formulas_next}

-- ---- constructors

not_same : (x y : Expr) → not x ≡ not y → x ≡ y
not_same x y e = cc

logic_same : (l : Logic) (x y u v : Expr) → logic l u v ≡ logic l x y → (u ≡ x) × (v ≡ y)
logic_same l x y u v e = (cc, cc)

logic_not : (l : Logic) (x y u : Expr) → not u ≡ logic l x y → ⊥
logic_not l x y u e = cc

-- ---- what is built from these

formula_not : (n : ℕ) (e : Expr) → Formula n e → Formula (suc n) (not e)
unfolding built nodes_of
formula_not n e h = record { from_these = h.from_these; exactly = ap suc h.exactly }

formula_logic : (n m : ℕ) (l : Logic) (x y : Expr) → Formula n x → Formula m y → Formula (suc (n + m)) (logic l x y)
unfolding built nodes_of
formula_logic n m l x y h k = record {
  from_these = and_from (built x) (built y) h.from_these k.from_these;
  exactly = ap₂ (λ (a b : ℕ). suc (a + b)) h.exactly k.exactly;
}

formula_leaf : (e : Expr) → In e leaves → Formula 1 e
unfolding built nodes_of
formula_leaf e (inl h) = subst (Formula 1) h (record { from_these = refl; exactly = refl })
formula_leaf e (inr (inl h)) = subst (Formula 1) h (record { from_these = refl; exactly = refl })
formula_leaf e (inr (inr (inl h))) = subst (Formula 1) h (record { from_these = refl; exactly = refl })
formula_leaf e (inr (inr (inr h))) = absurd h

-- ---- And and Or

-- which operator, and of what
record Join (xs ys : List Expr) (e : Expr) : Type 0 where
  operator : Logic
  parts : Pair (logic operator) xs ys e

in_joins : (e : Expr) (xs ys : List Expr) → In e (joins xs ys) → Join xs ys e
in_joins e xs ys h =
    ⊎_elim (λ l. record { operator = and; parts = in_pairs (logic and) ys e xs l })
    (λ r. record { operator = or; parts = in_pairs (logic or) ys e xs r })
    (in_append e (pairs and xs ys) (pairs or xs ys) h)

pairs_single : (l : Logic) (x y : Expr) (xs ys : List Expr) → Single x xs → Single y ys
    → Single (logic l x y) (pairs l xs ys)
pairs_single l x y xs ys s t = single_pairs (logic l) ys x y (logic_same l x y) xs s t

and_or : (x y u v : Expr) → logic and u v ≡ logic or x y → ⊥
and_or x y u v e = cc

joins_single : (l : Logic) (x y : Expr) (xs ys : List Expr) → Single x xs → Single y ys
    → Single (logic l x y) (joins xs ys)
joins_single and x y xs ys s t =
    single_left (logic and x y) (pairs and xs ys) (pairs or xs ys) (pairs_single and x y xs ys s t)
    (λ i. let p = in_pairs (logic or) ys (logic and x y) xs i in and_or p.first p.second x y (sym p.makes))
joins_single or x y xs ys s t =
    single_right (logic or x y) (pairs and xs ys) (pairs or xs ys)
    (λ i. let p = in_pairs (logic and) ys (logic or x y) xs i in and_or x y p.first p.second p.makes)
    (pairs_single or x y xs ys s t)

-- ---- the lists by the number of nodes on the left

-- where lists for numbers are given, what an expression of `splits` is made of
record Split (f : ℕ → List Expr) (rest lefts : ℕ) (e : Expr) : Type 0 where
  left : ℕ
  low : left < lefts
  join : Join (f left) (f (rest - left)) e

in_splits : (f : ℕ → List Expr) (rest lefts : ℕ) (e : Expr) → In e (splits f rest lefts) → Split f rest lefts e
unfolding splits
in_splits f rest zero e h = absurd h
in_splits f rest (suc left) e h =
    ⊎_elim
    (λ l. let t = in_splits f rest left e l in record { left = t.left; low = omega arith; join = t.join })
    (λ r. record { left = left; low = omega arith; join = in_joins e (f left) (f (rest - left)) r })
    (in_append e (splits f rest left) (joins (f left) (f (rest - left))) h)

-- where each of the list for a number has that number of nodes, And or Or of x and y stands only in the lists that have
-- as many nodes on the left as x
module _ (f : ℕ → List Expr) (exact : (k : ℕ) (e : Expr) → In e (f k) → nodes_of e ≡ k) (l : Logic) (x y : Expr) where
  join_left : (k : ℕ) (ys : List Expr) → Join (f k) ys (logic l x y) → nodes_of x ≡ k
  join_left k ys j =
      let p = j.parts in
      let e : p.first ≡ x = cc p.makes in
      ap nodes_of (sym e) ∙ exact k p.first p.of_first

  joins_left : (k : ℕ) (ys : List Expr) → In (logic l x y) (joins (f k) ys) → nodes_of x ≡ k
  joins_left k ys i = join_left k ys (in_joins (logic l x y) (f k) ys i)

  splits_low : (rest lefts : ℕ) → In (logic l x y) (splits f rest lefts) → nodes_of x < lefts
  splits_low rest lefts i =
      let s = in_splits f rest lefts (logic l x y) i in
      let e = join_left s.left (f (rest - s.left)) s.join in
      omega arith

  splits_single : (rest lefts : ℕ) → nodes_of x < lefts → Single x (f (nodes_of x)) → Single y (f (rest - nodes_of x))
      → Single (logic l x y) (splits f rest lefts)
  unfolding splits
  splits_single rest zero h s t = absurd (omega arith)
  splits_single rest (suc left) h s t =
      let before = splits f rest left in
      let last = joins (f left) (f (rest - left)) in
      ⊎_elim
      (λ under. single_left (logic l x y) before last (splits_single rest left under s t)
      (λ i. omega (arith, joins_left left (f (rest - left)) i)))
      (λ over. let e : nodes_of x ≡ left = omega arith in
      single_right (logic l x y) before last (λ i. omega (arith, splits_low rest left i))
      (subst (λ (k : ℕ). Single (logic l x y) (joins (f k) (f (rest - k)))) e
      (joins_single l x y (f (nodes_of x)) (f (rest - nodes_of x)) s t)))
      (cases_lt (nodes_of x) left)

-- ---- nothing else

in_next : (f : ℕ → List Expr) (n : ℕ) → ((k : ℕ) → k < n → (e : Expr) → In e (f k) → Formula k e)
    → (e : Expr) → In e (next f n) → Formula n e
unfolding next
in_next f zero sound e h = absurd h
in_next f (suc zero) sound e h = formula_leaf e h
in_next f (suc (suc n)) sound e h =
    ⊎_elim
    (λ l. let t = in_map not e (f (suc n)) l in
    subst (Formula (suc (suc n))) t.1 (formula_not (suc n) t.0 (sound (suc n) (omega arith) t.0 t.2)))
    (λ r. let t = in_splits f (suc n) (suc n) e r in
    let low = t.low in
    let p = t.join.parts in
    let sum : suc (t.left + (suc n - t.left)) ≡ suc (suc n) = omega arith in
    subst₂ Formula sum p.makes
    (formula_logic t.left (suc n - t.left) t.join.operator p.first p.second
    (sound t.left (omega arith) p.first p.of_first)
    (sound (suc n - t.left) (omega arith) p.second p.of_second)))
    (in_append e (map not (f (suc n))) (splits f (suc n) (suc n)) h)

formulas_below : (bound n : ℕ) → n < bound → (e : Expr) → In e (formulas n) → Formula n e
formulas_below zero n h e i = absurd (omega arith)
formulas_below (suc bound) n h e i =
    in_next formulas n (λ k less u j. formulas_below bound k (omega arith) u j) e
    (subst (λ (es : List Expr). In e es) (formulas_next n) i)

formulas_sound : (n : ℕ) (e : Expr) → In e (formulas n) → Formula n e
formulas_sound n e i = formulas_below (suc n) n (omega arith) e i

-- ---- each once

const_single : (c : Const) → is_bool c ≡ true → Single (const c) leaves
const_single (boolean true) h = inl (refl, ⊎_elim (λ e. cc) (⊎_elim (λ e. cc) (λ none. none)))
const_single (boolean false) h = inr (λ e. cc, inl (refl, ⊎_elim (λ e. cc) (λ none. none)))
const_single _ h = absurd (false≢true h)

read_single : (p : Place) → is_local_0 p ≡ true → Single (read p) leaves
read_single (local n) h =
    subst (λ (k : ℕ). Single (read (local k)) leaves) (sym (eqb-true n 0 h))
    (inr (λ e. cc, inr (λ e. cc, inl (refl, λ none. none))))
read_single _ h = absurd (false≢true h)

from_next : (n : ℕ) (e : Expr) → Single e (next formulas n) → Single e (formulas n)
from_next n e s = subst (λ (es : List Expr). Single e es) (sym (formulas_next n)) s

not_single : (n : ℕ) (e : Expr) → 1 ≤ n → Single e (formulas n) → Single (not e) (formulas (suc n))
unfolding next
not_single zero e some s = absurd (omega arith)
not_single (suc n) e some s =
    from_next (suc (suc n)) (not e)
    (single_left (not e) (map not (formulas (suc n))) (splits formulas (suc n) (suc n))
    (single_map not e (λ x p. not_same x e p) (formulas (suc n)) s)
    (λ i. let j = (in_splits formulas (suc n) (suc n) (not e) i).join in
    logic_not j.operator j.parts.first j.parts.second e (sym j.parts.makes)))

logic_single : (n : ℕ) (l : Logic) (x y : Expr) → nodes_of x + nodes_of y ≡ n → Single x (formulas (nodes_of x))
    → Single y (formulas (nodes_of y)) → Single (logic l x y) (formulas (suc n))
unfolding next
logic_single zero l x y sum s t = absurd (omega (arith, some_nodes x))
logic_single (suc n) l x y sum s t =
    let right : nodes_of y ≡ suc n - nodes_of x = omega arith in
    from_next (suc (suc n)) (logic l x y)
    (single_right (logic l x y) (map not (formulas (suc n))) (splits formulas (suc n) (suc n))
    (λ i. let p = in_map not (logic l x y) (formulas (suc n)) i in logic_not l x y p.0 p.1)
    (splits_single formulas (λ k e i. (formulas_sound k e i).exactly) l x y (suc n) (suc n)
    (omega (arith, some_nodes y)) s
    (subst (λ (k : ℕ). Single y (formulas k)) right t)))

formula_single : (e : Expr) → built e ≡ true → Single e (formulas (nodes_of e))
unfolding built nodes_of next
formula_single (const c) h = from_next 1 (const c) (const_single c h)
formula_single (read p) h = from_next 1 (read p) (read_single p h)
formula_single (not e) h = not_single (nodes_of e) e (some_nodes e) (formula_single e h)
formula_single (logic l x y) h =
    let parts = and_parts (built x) (built y) h in
    logic_single (nodes_of x + nodes_of y) l x y refl (formula_single x parts.0) (formula_single y parts.1)
formula_single _ h = absurd (false≢true h)

once_single : (e : Expr) (es : List Expr) → Single e es → Once e es
once_single e es s = record {
  place = place_of e es s;
  stands = place_stands e es s;
  nowhere_else = place_only e es s;
}

pub listed : (n : ℕ) → Listed n (formulas n)
listed n = record {
  every = λ e h. once_single e (formulas n)
      (subst (λ (k : ℕ). Single e (formulas k)) h.exactly (formula_single e h.from_these));
  no_other = λ e i at. formulas_sound n e (in_at e (formulas n) i at);
}
