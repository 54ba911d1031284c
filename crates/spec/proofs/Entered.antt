-- The nodes that the inline check enters, and its visits. For other crates, which need not look at the definitions: the
-- nodes in word order by a node and its parts (`order_parts` of Inlinings, `order_more`, `up_more`), how many they are,
-- that a safe expression is one with at most 101 of them and none forbidden, and the visits on a yes and on a no.
-- Assumes nothing.
use mathlib.Core.Bool.{Bool, true, false, not, cond, ◌&&◌, ◌||◌, true≢false, or_assoc}
use mathlib.Core.List.{List, [], ◌∷◌, ◌++◌}
use mathlib.Core.Option.{Option}
use mathlib.Core.Path.{◌≡◌, refl, ap, ap₂, sym, ◌∙◌}
use Prim.Native.Nat.{ℕ, zero, suc, ◌+◌, ◌≤◌, max, min}
use native.Mathlib.Omega.{arith}
use borrow.Author.Tests.{leb-true, not-true}
use lib.Dec.{leb, ltb, leb-suc-zero}
use lib.ListN.{length, length-append, replicate, length-replicate}
use Rattle.std.proofs.lemmas.Grind.{common_steps}
use Rattle.spec.specs.Tree.{Place, Expr, Exprs, no_exprs, more_exprs}
use Rattle.spec.specs.Views.{parts_e}
use Rattle.spec.specs.Pass.{nodes_of, nodes_in}
use Rattle.spec.specs.Inlining.{forbidden_place, forbidden, forbiddens, locals_place, locals_of, locals_in}
use Rattle.spec.specs.Inlining.{most_nodes, safe, forbids, in_order, in_orders, up_to_forbidden, visits}
use Rattle.spec.specs.Inlining.{safe_nodes, unsafe_after, safety}
use Rattle.spec.proofs.Outcomes.{both}
use Rattle.spec.proofs.Views.{by_parts, all_by_parts}
use Rattle.spec.proofs.Unroll.{some_nodes}
use Rattle.spec.proofs.Inlinings.{own_read, of_read, own_forbidden, own_locals, own_forbids}
use Rattle.spec.proofs.Inlinings.{nodes_parts, forbidden_parts, locals_parts, order_parts}

-- ---- lists of nodes, each by whether it is forbidden

-- one of them is
abbrev pub any_of : List Bool → Bool
any_of [] = false
any_of (b ∷ bs) = b || any_of bs

any_append : (bs cs : List Bool) → any_of (bs ++ cs) ≡ any_of bs || any_of cs
any_append [] cs = refl
any_append (b ∷ bs) cs = ap (λ c. b || c) (any_append bs cs) ∙ sym (or_assoc b (any_of bs) (any_of cs))

-- up to the first: at most all, at least one if there is one, and all where none is forbidden
pub up_most : (bs : List Bool) → up_to_forbidden bs ≤ length bs
unfolding up_to_forbidden
up_most [] = omega arith
up_most (true ∷ bs) = omega arith
up_most (false ∷ bs) = omega (arith, up_most bs)

pub up_some : (bs : List Bool) → 1 ≤ length bs → 1 ≤ up_to_forbidden bs
unfolding up_to_forbidden
up_some [] h = absurd (omega arith)
up_some (true ∷ bs) h = omega arith
up_some (false ∷ bs) h = omega arith

pub up_none : (bs : List Bool) → any_of bs ≡ false → up_to_forbidden bs ≡ length bs
unfolding up_to_forbidden
up_none [] e = refl
up_none (true ∷ bs) e = absurd (true≢false e)
up_none (false ∷ bs) e = ap suc (up_none bs e)

-- of two lists, one behind the other: within the first, if one there is forbidden; else beyond it
pub up_append : (bs cs : List Bool)
    → up_to_forbidden (bs ++ cs) ≡ cond (any_of bs) (up_to_forbidden bs) (length bs + up_to_forbidden cs)
unfolding up_to_forbidden
up_append [] cs = omega arith
up_append (true ∷ bs) cs = refl
up_append (false ∷ bs) cs =
    ap suc (up_append bs cs) ∙ out (any_of bs) (up_to_forbidden bs) (length bs) (up_to_forbidden cs)
  where
    out : (b : Bool) (m n k : ℕ) → suc (cond b m (n + k)) ≡ cond b (suc m) (suc n + k)
    out true m n k = refl
    out false m n k = omega arith

-- ---- n nodes that are not forbidden, ahead of others

abbrev pub past : ℕ → List Bool → List Bool
past n bs = replicate n false ++ bs

pub past_length : (n : ℕ) (bs : List Bool) → length (past n bs) ≡ n + length bs
past_length n bs = length-append (replicate n false) bs ∙ ap (λ m. m + length bs) (length-replicate n false)

pub past_any : (n : ℕ) (bs : List Bool) → any_of (past n bs) ≡ any_of bs
past_any zero bs = refl
past_any (suc n) bs = past_any n bs

pub past_up : (n : ℕ) (bs : List Bool) → up_to_forbidden (past n bs) ≡ n + up_to_forbidden bs
unfolding up_to_forbidden
past_up zero bs = omega arith
past_up (suc n) bs = omega (arith, past_up n bs)

-- one more
pub past_more : (n : ℕ) (bs : List Bool) → past n (false ∷ bs) ≡ past (n + 1) bs
past_more n bs = grind (arith, common_steps)

-- ---- what makes it a no

-- forbidden, or a local that is not below the count
abbrev barred : ℕ → Bool → ℕ → Bool
barred params f n = f || ltb params n

barred_both : (p : ℕ) (f g : Bool) (m n : ℕ) → barred p (f || g) (max m n) ≡ barred p f m || barred p g n
barred_both p f g m n = grind (arith, common_steps)

not_barred : (p : ℕ) (f : Bool) (n : ℕ) → not (barred p f n) ≡ not f && leb n p
not_barred p f n = grind (arith, common_steps)

-- ---- expressions

module _ (params : ℕ) where
  -- of expressions one behind the other
  pub order_none : in_orders params no_exprs ≡ []
  unfolding in_orders
  order_none = refl

  pub order_more : (e : Expr) (es : Exprs) → in_orders params (more_exprs e es) ≡ in_order params e ++ in_orders params
      es
  unfolding in_orders
  order_more e es = refl

  -- they are as many as there are nodes
  abbrev Counted : Expr → Type 0
  Counted e = length (in_order params e) ≡ nodes_of e

  abbrev AllCounted : Exprs → Type 0
  AllCounted es = length (in_orders params es) ≡ nodes_in es

  counted_step : (e : Expr) → AllCounted (parts_e e) → Counted e
  counted_step e q = ap length (order_parts params e) ∙ ap suc q ∙ sym (nodes_parts e)

  counted_none : AllCounted no_exprs
  unfolding in_orders nodes_in
  counted_none = refl

  counted_more : (e : Expr) (es : Exprs) → Counted e → AllCounted es → AllCounted (more_exprs e es)
  unfolding in_orders nodes_in
  counted_more e es p q = length-append (in_order params e) (in_orders params es) ∙ ap₂ ◌+◌ p q

  pub order_nodes : (e : Expr) → length (in_order params e) ≡ nodes_of e
  order_nodes = by_parts Counted AllCounted counted_step counted_none counted_more

  pub orders_nodes : (es : Exprs) → length (in_orders params es) ≡ nodes_in es
  orders_nodes = all_by_parts Counted AllCounted counted_step counted_none counted_more

  -- one of them is forbidden where LocalCaptured, Module or Def is there, or a local that is not below the count
  abbrev Barred : Expr → Type 0
  Barred e = any_of (in_order params e) ≡ barred params (forbidden e) (locals_of e)

  abbrev AllBarred : Exprs → Type 0
  AllBarred es = any_of (in_orders params es) ≡ barred params (forbiddens es) (locals_in es)

  own_barred : (q : Option Place)
      → of_read false (forbids params) q ≡ barred params (of_read false forbidden_place q) (of_read 0 locals_place q)
  own_barred q = grind (arith, common_steps)

  barred_step : (e : Expr) → AllBarred (parts_e e) → Barred e
  barred_step e q =
      ap any_of (order_parts params e) ∙ ap₂ ◌||◌ (own_barred (own_read e)) q
      ∙ sym (barred_both params (own_forbidden e) (forbiddens (parts_e e)) (own_locals e) (locals_in (parts_e e)))
      ∙ sym (ap₂ (barred params) (forbidden_parts e) (locals_parts e))

  barred_none : AllBarred no_exprs
  unfolding in_orders forbiddens locals_in
  barred_none = sym (leb-suc-zero params)

  barred_more : (e : Expr) (es : Exprs) → Barred e → AllBarred es → AllBarred (more_exprs e es)
  unfolding in_orders forbiddens locals_in
  barred_more e es p q =
      any_append (in_order params e) (in_orders params es) ∙ ap₂ ◌||◌ p q
      ∙ sym (barred_both params (forbidden e) (forbiddens es) (locals_of e) (locals_in es))

  pub order_any : (e : Expr) → any_of (in_order params e) ≡ forbidden e || ltb params (locals_of e)
  order_any = by_parts Barred AllBarred barred_step barred_none barred_more

  -- safe: at most 101 nodes, and none of them forbidden
  pub safe_order : (e : Expr) → safe params e ≡ leb (nodes_of e) most_nodes && not (any_of (in_order params e))
  unfolding safe
  safe_order e =
      ap (λ b. leb (nodes_of e) most_nodes && b)
      (sym (ap not (order_any e) ∙ not_barred params (forbidden e) (locals_of e)))

  -- ---- up to the first that is forbidden

  -- by the node itself and its parts
  pub up_parts : (e : Expr) → up_to_forbidden (in_order params e)
      ≡ cond (own_forbids params e) 1 (suc (up_to_forbidden (in_orders params (parts_e e))))
  unfolding up_to_forbidden
  up_parts e = ap up_to_forbidden (order_parts params e) ∙ first (own_forbids params e) (in_orders params (parts_e e))
    where
      first : (b : Bool) (bs : List Bool) → up_to_forbidden (b ∷ bs) ≡ cond b 1 (suc (up_to_forbidden bs))
      first true bs = refl
      first false bs = refl

  -- of expressions one behind the other: within the first, or beyond all its nodes
  pub up_more : (e : Expr) (es : Exprs) → up_to_forbidden (in_orders params (more_exprs e es))
      ≡ cond (any_of (in_order params e)) (up_to_forbidden (in_order params e))
      (nodes_of e + up_to_forbidden (in_orders params es))
  up_more e es =
      ap up_to_forbidden (order_more e es) ∙ up_append (in_order params e) (in_orders params es)
      ∙ ap (λ n. cond (any_of (in_order params e)) (up_to_forbidden (in_order params e))
      (n + up_to_forbidden (in_orders params es))) (order_nodes e)

  -- ---- visits

  module _ (e : Expr) where
    -- at least one, at most 101, and at most all nodes
    pub visits_some : 1 ≤ visits params e
    unfolding visits
    visits_some =
        let many : 1 ≤ length (in_order params e) = omega (arith, order_nodes e, some_nodes e) in
        omega (arith, up_some (in_order params e) many)

    pub visits_most : visits params e ≤ most_nodes
    unfolding visits
    visits_most = omega arith

    pub visits_nodes : visits params e ≤ nodes_of e
    unfolding visits
    visits_nodes = omega (arith, up_most (in_order params e), order_nodes e)

    -- where no node is forbidden: all nodes, or the limit
    pub visits_allowed : any_of (in_order params e) ≡ false → visits params e ≡ min most_nodes (nodes_of e)
    unfolding visits
    visits_allowed n = ap (min most_nodes) (up_none (in_order params e) n ∙ order_nodes e)

    -- on a yes all of them
    pub visits_safe : safe params e ≡ true → visits params e ≡ nodes_of e
    visits_safe s =
        let parts = both (leb (nodes_of e) most_nodes) (not (any_of (in_order params e))) (sym (safe_order e) ∙ s) in
        visits_allowed (not-true (any_of (in_order params e)) parts.1)
        ∙ omega (arith, leb-true (nodes_of e) most_nodes parts.0)

    -- so both answers carry them
    pub safety_visits : safety params e
        ≡ cond (safe params e) (safe_nodes (visits params e)) (unsafe_after (visits params e))
    unfolding safety
    safety_visits = by (safe params e) (λ s. sym (visits_safe s))
      where
        by : (b : Bool) → (b ≡ true → nodes_of e ≡ visits params e)
            → cond b (safe_nodes (nodes_of e)) (unsafe_after (visits params e))
            ≡ cond b (safe_nodes (visits params e)) (unsafe_after (visits params e))
        by true same = ap safe_nodes (same refl)
        by false same = refl

    -- with n nodes passed and these ones left
    module _ (n : ℕ) (bs : List Bool) (order : in_order params e ≡ past n bs) where
      pub past_safe : safe params e ≡ leb (n + length bs) most_nodes && not (any_of bs)
      past_safe =
          let nodes = sym (order_nodes e) ∙ ap length order ∙ past_length n bs in
          safe_order e
          ∙ ap₂ (λ m b. leb m most_nodes && not b) nodes (ap any_of order ∙ past_any n bs)

      pub past_visits : visits params e ≡ min most_nodes (n + up_to_forbidden bs)
      unfolding visits
      past_visits = ap (min most_nodes) (ap up_to_forbidden order ∙ past_up n bs)
