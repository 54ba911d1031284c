-- The three facts by which inlining is safe (how many nodes, a forbidden one, the highest local) and the nodes in word
-- order, each by a node's own words and its parts. For other crates: the lemmas `.._parts` speak of an expression, the
-- lemmas `.._words` of words and what they mean; `nodes_words`, `forbidden_words` and `locals_words` are for code that
-- asks for one of the three facts alone.
-- Assumes nothing.
use mathlib.Core.Bool.{Bool, true, false, not, cond, ◌&&◌, ◌||◌}
use mathlib.Core.List.{◌∷◌}
use mathlib.Core.Option.{Option, none, some}
use mathlib.Core.Path.{◌≡◌, refl, ap, ap₂, ◌∙◌}
use Prim.Native.Nat.{ℕ, suc, max}
use native.Mathlib.Omega.{arith}
use lib.Dec.{eqb, ltb}
use Rattle.std.proofs.lemmas.Grind.{common_steps}
use Rattle.spec.specs.Rose.{Rose, parts_of}
use Rattle.spec.specs.Grammar.{header, within, Valid}
use Rattle.spec.specs.Tree.{Place}
use Rattle.spec.specs.Tree.{Expr, const, read, type_is}
use Rattle.spec.specs.Tree.{rose_e}
use Rattle.spec.specs.Proper.{Proper}
use Rattle.spec.specs.Meaning.{expr_of, exprs_of}
use Rattle.spec.specs.Views.{word_in, kind_of, detail_of, parts_e}
use Rattle.spec.specs.Pass.{nodes_of, nodes_in}
use Rattle.spec.specs.Inlining.{forbidden_place, forbidden, forbiddens, locals_place, locals_of, locals_in}
use Rattle.spec.specs.Inlining.{forbids, in_order, in_orders, is_first_local}
use Rattle.spec.specs.declared.Sort.TheVariants as sort
use Rattle.spec.proofs.Meanings.{rose_expr, proper_expr}
use Rattle.spec.proofs.Views.{parts_meant}

-- ---- an expression

-- the place that it reads itself, its parts apart
abbrev pub own_read : Expr → Option Place
own_read (read p) = some p
own_read _ = none

abbrev pub of_read : {A : Type 0} → A → (Place → A) → Option Place → A
of_read a f none = a
of_read a f (some p) = f p

-- what it is itself
abbrev pub own_forbidden : Expr → Bool
own_forbidden e = of_read false forbidden_place (own_read e)

abbrev pub own_locals : Expr → ℕ
own_locals e = of_read 0 locals_place (own_read e)

-- whether it is forbidden itself where there are so many parameters
abbrev pub own_forbids : ℕ → Expr → Bool
own_forbids params e = of_read false (forbids params) (own_read e)

-- the same facts by the parts
pub nodes_parts : (e : Expr) → nodes_of e ≡ suc (nodes_in (parts_e e))
unfolding nodes_of
nodes_parts (const c) = refl
nodes_parts _ = omega arith

pub forbidden_parts : (e : Expr) → forbidden e ≡ own_forbidden e || forbiddens (parts_e e)
unfolding forbidden
forbidden_parts e = grind (arith, common_steps)

pub locals_parts : (e : Expr) → locals_of e ≡ max (own_locals e) (locals_in (parts_e e))
unfolding locals_of
locals_parts (const c) = refl
locals_parts _ = omega arith

-- the node itself, then its parts' nodes
pub order_parts : (params : ℕ) (e : Expr) → in_order params e ≡ own_forbids params e ∷ in_orders params (parts_e e)
unfolding in_order
order_parts params e = grind (arith, common_steps)

-- ---- its own words

-- by its kind and its first payload word
abbrev forbidden_by : ℕ → Bool
forbidden_by k = within 3 5 k

abbrev locals_by : ℕ → ℕ → ℕ
locals_by k w = cond (eqb k 2) (suc w) 0

abbrev pub forbids_by : ℕ → ℕ → ℕ → Bool
forbids_by params k w = cond (eqb k 2) (not (ltb w params)) (within 3 5 k)

-- the three side by side
abbrev own_facts : ℕ → Expr → Bool × ℕ × Bool
own_facts params e = (own_forbidden e, own_locals e, own_forbids params e)

abbrev own_by : ℕ → ℕ → ℕ → ℕ → Bool × ℕ × Bool
own_by params w k d = (forbidden_by k, locals_by k w, forbids_by params k w)

own_view : (params : ℕ) (e : Expr) → Proper e
    → own_facts params e ≡ own_by params (word_in (rose_e e) 1) (kind_of (rose_e e)) (detail_of (rose_e e))
own_view params e p = grind (arith, common_steps)

-- ---- a type test

abbrev pub is_type_is : Expr → Bool
is_type_is (type_is t e) = true
is_type_is _ = false

pub type_is_word : (e : Expr) → Proper e → is_type_is e ≡ eqb (word_in (rose_e e) 0) (header 11 4)
type_is_word e p = grind (arith, common_steps)

pub local_words : (e : Expr) → Proper e → is_first_local e ≡ eqb (word_in (rose_e e) 0) 2 && eqb (word_in (rose_e e) 1)
    0
local_words e p = grind (arith, common_steps)

-- ---- words

module _ (r : Rose) (v : Valid sort.Expr r) where
  own_words : (params : ℕ) → own_facts params (expr_of r) ≡ own_by params (word_in r 1) (kind_of r) (detail_of r)
  own_words params =
      own_view params (expr_of r) (proper_expr r v)
      ∙ ap (λ x. own_by params (word_in x 1) (kind_of x) (detail_of x)) (rose_expr r v)

  pub nodes_words : nodes_of (expr_of r) ≡ suc (nodes_in (exprs_of (parts_of r)))
  nodes_words = nodes_parts (expr_of r) ∙ ap (λ es. suc (nodes_in es)) (parts_meant r v)

  pub forbidden_words : forbidden (expr_of r) ≡ within 3 5 (kind_of r) || forbiddens (exprs_of (parts_of r))
  forbidden_words =
      forbidden_parts (expr_of r)
      ∙ ap₂ (λ b es. b || forbiddens es) (ap (λ x. x.0) (own_words 0)) (parts_meant r v)

  pub locals_words : locals_of (expr_of r)
      ≡ max (cond (eqb (kind_of r) 2) (suc (word_in r 1)) 0) (locals_in (exprs_of (parts_of r)))
  locals_words =
      locals_parts (expr_of r) ∙ ap₂ (λ n es. max n (locals_in es)) (ap (λ x. x.1) (own_words 0)) (parts_meant r v)

  pub order_words : (params : ℕ)
      → in_order params (expr_of r) ≡ forbids_by params (kind_of r) (word_in r 1) ∷ in_orders params
      (exprs_of (parts_of r))
  order_words params =
      order_parts params (expr_of r)
      ∙ ap₂ (λ b es. b ∷ in_orders params es) (ap (λ x. x.2) (own_words params)) (parts_meant r v)
