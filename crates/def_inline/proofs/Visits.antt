-- A walk through the words of an expression that enters its nodes in word order. Of the nodes in order, those entered
-- are passed and none of them is forbidden; the others are the nodes of the expressions that the walk has still ahead.
-- Assumes nothing.
use mathlib.Core.Bool.{Bool, true, false, not, cond, ◌&&◌}
use mathlib.Core.List.{List, [], ◌∷◌, ◌++◌, append-nil, append_assoc}
use mathlib.Core.Path.{◌≡◌, refl, ap, ap₂, sym, ◌∙◌}
use Prim.Native.Nat.{ℕ, ◌+◌, ◌-◌, ◌≤◌, ◌<◌}
use native.Mathlib.Omega.{arith}
use borrow.Author.Tests.{le-leb, lt-leb}
use lib.Dec.{eqb, leb, ltb}
use lib.ListN.{length}
use Rattle.spec.specs.Rose.{Rose, Roses, nil, cons, size, At, parts_of}
use Rattle.spec.specs.Rose.{count as countR}
use Rattle.spec.specs.Grammar.{within, Valid}
use Rattle.spec.specs.Tree.{Expr}
use Rattle.spec.specs.Meaning.{expr_of, exprs_of}
use Rattle.spec.specs.Views.{word_in, kind_of}
use Rattle.spec.specs.Pass.{nodes_in}
use Rattle.spec.specs.Inlining.{most_nodes, in_order, in_orders, up_to_forbidden}
use Rattle.spec.proofs.Unroll.{some_nodes}
use Rattle.spec.proofs.Inlinings.{forbids_by, order_words}
use Rattle.spec.proofs.Entered.{any_of, past, past_more, past_safe, past_visits, order_none, order_more, orders_nodes}
use Rattle.spec.specs.declared.Sort.TheVariants as sort
use Rattle.ir.specs.Standing.{SomeExpr, NodeOf}
use Rattle.ir.proofs.Forests.{join_r, Forest, forest_expr, forest_step}
use Rattle.def_inline.specs.Told.{own_safe, SafeOf}

-- ---- the nodes of expressions one behind the other

abbrev order_of : ℕ → Roses → List Bool
order_of p ps = in_orders p (exprs_of ps)

-- a node by its own words
own_forbids_lem : (p k w : ℕ) → forbids_by p k w ≡ not (own_safe k w p)
own_forbids_lem p k w = by (eqb k 2) (ltb w p) (within 3 5 k)
  where
    by : (local below other : Bool) → cond local (not below) other ≡ not (cond local below (not other))
    by true below other = refl
    by false below true = refl
    by false below false = refl

and_false : (b : Bool) → b && false ≡ false
and_false true = refl
and_false false = refl

order_cons : (p : ℕ) (r : Rose) (ps : Roses) → order_of p (cons r ps) ≡ in_order p (expr_of r) ++ order_of p ps
unfolding exprs_of
order_cons p r ps = order_more p (expr_of r) (exprs_of ps)

-- one run behind another
order_join : (p : ℕ) (ps qs : Roses) → order_of p (join_r ps qs) ≡ order_of p ps ++ order_of p qs
unfolding exprs_of
order_join p nil qs = sym (ap (λ bs. bs ++ order_of p qs) (order_none p))
order_join p (cons r ps) qs =
    order_cons p r (join_r ps qs) ∙ ap (λ bs. in_order p (expr_of r) ++ bs) (order_join p ps qs)
    ∙ sym (append_assoc (in_order p (expr_of r)) (order_of p ps) (order_of p qs))
    ∙ sym (ap (λ bs. bs ++ order_of p qs) (order_cons p r ps))

-- one node on: the node itself, then its parts and what is behind it
order_on : (p : ℕ) (r : Rose) (ps : Roses) → Valid sort.Expr r
    → order_of p (cons r ps) ≡ not (own_safe (kind_of r) (word_in r 1) p) ∷ order_of p (join_r (parts_of r) ps)
order_on p r ps v =
    order_cons p r ps ∙ ap (λ bs. bs ++ order_of p ps) (order_words r v p)
    ∙ ap₂ (λ b bs. b ∷ bs) (own_forbids_lem p (kind_of r) (word_in r 1)) (sym (order_join p (parts_of r) ps))

-- expressions left, and none left
some_left : (p n : ℕ) (ps : Roses) → 0 < n → n ≡ countR ps → 1 ≤ length (order_of p ps)
unfolding exprs_of nodes_in
some_left p n nil h m = absurd (omega arith)
some_left p n (cons q ps) h m = omega (arith, some_nodes (expr_of q), orders_nodes p (exprs_of (cons q ps)))

none_left : (p n : ℕ) (ps : Roses) → n ≡ 0 → n ≡ countR ps → order_of p ps ≡ []
unfolding exprs_of
none_left p n nil h m = order_none p
none_left p n (cons q ps) h m = absurd (omega arith)

-- ---- the walk

-- the expressions left of e, with so many nodes entered
pub record Going (w : List ℕ) (p visits next left end : ℕ) (e : Expr) : Type 0 where
  pub some : 0 < left
  pub rest : Forest w next left end
  pub order : in_order p e ≡ past visits (order_of p rest.trees)

-- whatever expression stands there, where some are left and the node that is entered next is numbered from 1
pub record Visiting (w : List ℕ) (at p entered next left : ℕ) : Type 0 where
  pub all : (r : Rose) → Valid sort.Expr r → At w at r → Going w p (entered - 1) next left (at + size r) (expr_of r)

pub visit_start : (w : List ℕ) (at p : ℕ) → Visiting w at p 1 at 1
unfolding exprs_of
visit_start w at p = record {
  all = λ r v a. record {
    some = omega arith;
    rest = record { trees = cons r nil; valid = (v, tt); here = (a, tt); many = refl; ends = omega arith };
    order = sym (order_cons p r nil ∙ ap (λ bs. in_order p (expr_of r) ++ bs) (order_none p)
        ∙ append-nil (in_order p (expr_of r)));
  };
}

-- a step forward, and how many are left
pub record Turn (w : List ℕ) (next left first n : ℕ) : Type 0 where
  pub forward : next < first
  pub inside : first ≤ length w
  pub few : left - 1 + n ≤ length w

-- a node is entered
module _ {w : List ℕ} {at p entered next left : ℕ} (t : Visiting w at p entered next left) where
  module _ (x : SomeExpr w at) where
    going : Going w p (entered - 1) next left (at + size x.tree) (expr_of x.tree)
    going = t.all x.tree x.valid x.here

    pub visit_node : SomeExpr w next
    visit_node = forest_expr going.some going.rest x.inside

    pub visit_turn : {k d y first n : ℕ} → NodeOf w next k d y first n → Turn w next left first n
    visit_turn o =
        let s = forest_step going.some going.rest _ _ _ _ _ o in
        record {
          forward = s.forward;
          inside = omega (arith, s.rest.ends, x.inside);
          few = omega (arith, s.few, x.inside);
        }

  -- too many
  pub visit_many : entered ≡ 102 → SafeOf w at p (record { safe = false; visits = 101 })
  visit_many many = record {
    of = λ r v a.
        let g = t.all r v a in
        let bs = order_of p g.rest.trees in
        let all_in : entered - 1 ≡ 101 = omega arith in
        let order = g.order ∙ ap (λ n. past n bs) all_in in
        let more = some_left p left g.rest.trees g.some g.rest.many in (
          sym (past_safe p (expr_of r) 101 bs order
              ∙ ap (λ b. b && not (any_of bs)) (lt-leb (101 + length bs) most_nodes (omega (arith, more)))),
          sym (past_visits p (expr_of r) 101 bs order ∙ omega arith),
        );
  }

  module _ (begun : 1 ≤ entered) (few : entered ≤ 101) {k d y first n : ℕ} (o : NodeOf w next k d y first n) where
    -- what the node says of a whole expression
    record Entered (e : Expr) (end : ℕ) : Type 0 where
      rest : Forest w first (left - 1 + n) end
      order : in_order p e ≡ past (entered - 1) (not (own_safe k y p) ∷ order_of p rest.trees)

    entered_lem : (e : Expr) (end : ℕ) → Going w p (entered - 1) next left end e → Entered e end
    entered_lem e end g =
        let s = forest_step g.some g.rest k d y first n o in
        let node = s.shape in
        record {
          rest = s.rest;
          order = g.order
              ∙ ap (past (entered - 1)) (ap (order_of p) s.were ∙ order_on p s.tree s.behind s.proper
              ∙ ap₂ (λ b bs. not b ∷ bs) (ap₂ (λ a b. own_safe a b p) (sym node.is_kind) (sym node.is_word))
              (ap (order_of p) (sym s.are)));
        }

    -- one that may not be there
    pub visit_forbidden : {b : Bool} → b ≡ own_safe k y p → b ≡ false
        → SafeOf w at p (record { safe = false; visits = entered })
    unfolding up_to_forbidden
    visit_forbidden told no' = record {
      of = λ r v a.
          let i = entered_lem (expr_of r) (at + size r) (t.all r v a) in
          let bs = order_of p i.rest.trees in
          let order = i.order ∙ ap (λ b. past (entered - 1) (not b ∷ bs)) (sym told ∙ no') in (
            sym (past_safe p (expr_of r) (entered - 1) (true ∷ bs) order
                ∙ and_false (leb (entered - 1 + length (true ∷ bs)) most_nodes)),
            sym (past_visits p (expr_of r) (entered - 1) (true ∷ bs) order ∙ omega arith),
          );
    }

    -- and one that may
    module _ {b : Bool} (told : b ≡ own_safe k y p) (yes' : b ≡ true) where
      record Past (e : Expr) (end : ℕ) : Type 0 where
        rest : Forest w first (left - 1 + n) end
        order : in_order p e ≡ past entered (order_of p rest.trees)

      past_lem : (e : Expr) (end : ℕ) → Going w p (entered - 1) next left end e → Past e end
      past_lem e end g =
          let i = entered_lem e end g in
          let bs = order_of p i.rest.trees in
          let one : entered - 1 + 1 ≡ entered = omega arith in
          record {
            rest = i.rest;
            order = i.order ∙ ap (λ b. past (entered - 1) (not b ∷ bs)) (sym told ∙ yes')
                ∙ past_more (entered - 1) bs ∙ ap (λ m. past m bs) one;
          }

      -- as the last
      pub visit_end : left - 1 + n ≡ 0 → SafeOf w at p (record { safe = true; visits = entered })
      unfolding up_to_forbidden
      visit_end none = record {
        of = λ r v a.
            let i = past_lem (expr_of r) (at + size r) (t.all r v a) in
            let order = i.order
            ∙ ap (past entered) (none_left p (left - 1 + n) i.rest.trees none i.rest.many) in (
              sym (past_safe p (expr_of r) entered [] order
                  ∙ ap (λ b. b && true) (le-leb (entered + 0) most_nodes (omega arith))),
              sym (past_visits p (expr_of r) entered [] order ∙ omega arith),
            );
      }

      -- ahead of others
      pub visit_step : (left - 1 + n ≡ 0 → ⊥) → Visiting w at p (entered + 1) first (left - 1 + n)
      visit_step more = record {
        all = λ r v a.
            let i = past_lem (expr_of r) (at + size r) (t.all r v a) in
            let one : entered ≡ entered + 1 - 1 = omega arith in
            record {
              some = omega arith;
              rest = i.rest;
              order = i.order ∙ ap (λ m. past m (order_of p i.rest.trees)) one;
            };
      }

-- what the check applies in `is_safe_to_inline_expr`
pub ruleset entered_in_order = (visit_start, visit_node, visit_turn, visit_many, visit_forbidden, visit_step, visit_end)
