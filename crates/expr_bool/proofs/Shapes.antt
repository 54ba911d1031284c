-- What a node's kind and detail say of the expression, and what a condition made of it is.
-- Assumes nothing.
use mathlib.Core.Bool.{Bool, true, false, ◌&&◌, beq, true≢false}
use mathlib.Core.Path.{◌≡◌, refl, ap, ap₂, sym, ◌∙◌}
use Prim.Native.Nat.{ℕ}
use native.Mathlib.Omega.{arith}
use borrow.Author.Tests.{eqb-true}
use lib.Dec.{eqb}
use Rattle.spec.specs.Grammar.{kind_in, detail_in}
use Rattle.spec.specs.Tree
use Rattle.spec.specs.Tree.{Const}
use Rattle.spec.specs.Tree.{Place, local}
use Rattle.spec.specs.Tree.{tuple, Logic, and, or, logic_detail}
use Rattle.spec.specs.Tree.{Expr, const, read, fresh, logic, oper, rose_e}
use Rattle.spec.specs.Proper.{is_operator, Proper}
use Rattle.spec.specs.Views.{kind_of, detail_of}
use Rattle.spec.specs.Verdict.{truth_of}
use Rattle.spec.specs.Running.{decides}
use Rattle.spec.specs.Pass.{Condition, expr_condition, not_condition, logic_condition, new_bool, decided}
use Rattle.spec.specs.declared.Truth.{Truth}
use Rattle.spec.specs.declared.Truth.TheVariants as truth
use Rattle.spec.proofs.Outcomes.{both}
use Rattle.expr_bool.specs.Asked.{logic_by}

-- an expression by what `new` does with it
pub data Way : ℕ → ℕ → Expr → Type 0 where
  not_way : (x : Expr) → Way 11 3 (Tree.not x)
  logic_way : (l : Logic) (x y : Expr) → Way 12 (logic_detail l) (logic l x y)
  plain_way : (k d : ℕ) (e : Expr) → (eqb k 11 && eqb d 3 ≡ true → ⊥) → (k ≡ 12 → ⊥)
      → (truth_of e ≡ truth.Unknown → new_bool e ≡ expr_condition e)
      → Way k d e

-- a truth that is unknown leaves what is made of the parts
stays : {t : Truth} {c : Condition} → t ≡ truth.Unknown → decided t c ≡ c
unfolding decided
stays {t} {c} p = ap (λ (u : Truth). decided u c) p

plain : {k d : ℕ} {e : Expr} → (k ≡ 11 → d ≡ 3 → ⊥) → (k ≡ 12 → ⊥)
    → (truth_of e ≡ truth.Unknown → new_bool e ≡ expr_condition e) → Way k d e
plain {k} {d} {e} n m q =
    plain_way k d e
    (λ h. let b = both (eqb k 11) (eqb d 3) h in n (eqb-true k 11 b.0) (eqb-true d 3 b.1)) m q

-- no operator is Not, And or Or
operator_not : (k d : ℕ) → is_operator k d ≡ true → k ≡ 11 → d ≡ 3 → ⊥
operator_not k d o p q = true≢false (sym o ∙ ap₂ is_operator p q)

operator_logic : (k d : ℕ) → is_operator k d ≡ true → k ≡ 12 → ⊥
operator_logic k d o e = true≢false (sym o ∙ ap (λ (n : ℕ). is_operator n d) e)

way_const : (c : Const) → Way (kind_of (rose_e (const c))) (detail_of (rose_e (const c))) (const c)
unfolding new_bool
way_const Tree.none = plain (λ h g. omega arith) (λ h. omega arith) (λ u. stays u)
way_const _ = plain (λ h g. omega arith) (λ h. omega arith) (λ u. stays u)

way_read : (p : Place) → Way (kind_of (rose_e (read p))) (detail_of (rose_e (read p))) (read p)
unfolding new_bool
way_read (local n) = plain (λ h g. omega arith) (λ h. omega arith) (λ u. stays u)
way_read _ = plain (λ h g. omega arith) (λ h. omega arith) (λ u. stays u)

pub way : (e : Expr) → Proper e → Way (kind_of (rose_e e)) (detail_of (rose_e e)) e
unfolding new_bool
way (const c) p = way_const c
way (read q) p = way_read q
way (fresh tuple es) p = plain (λ h g. omega arith) (λ h. omega arith) (λ u. stays u)
way (Tree.not e) p = not_way e
way (logic and x y) p = logic_way and x y
way (logic or x y) p = logic_way or x y
way (oper h pay es) p =
    plain (operator_not (kind_in h) (detail_in h) p.0) (operator_logic (kind_in h) (detail_in h) p.0) (λ u. stays u)
way _ p = plain (λ h g. omega arith) (λ h. omega arith) (λ u. stays u)

-- by the tests that `new` makes
pub of_not : {k d : ℕ} {e : Expr} (P : Expr → Type 0) → Way k d e → eqb k 11 && eqb d 3 ≡ true
    → ((x : Expr) → P (Tree.not x)) → P e
of_not P (not_way x) h f = f x
of_not P (logic_way l x y) h f = absurd (true≢false (sym h))
of_not P (plain_way j c g n m q) h f = absurd (n h)

pub of_logic : {k d : ℕ} {e : Expr} (P : Expr → Type 0) → Way k d e → k ≡ 12
    → ((l : Logic) (x y : Expr) → d ≡ logic_detail l → P (logic l x y)) → P e
of_logic P (not_way x) h f = absurd (omega arith)
of_logic P (logic_way l x y) h f = f l x y refl
of_logic P (plain_way j c g n m q) h f = absurd (m h)

pub of_plain : {k d : ℕ} {e : Expr} → Way k d e → eqb k 11 && eqb d 3 ≡ false → (k ≡ 12 → ⊥)
    → truth_of e ≡ truth.Unknown → new_bool e ≡ expr_condition e
of_plain (not_way x) h m u = absurd (true≢false h)
of_plain (logic_way l x y) h m u = absurd (m refl)
of_plain (plain_way k d e n g q) h m u = q u

-- Not, And and Or of unknown truth
pub not_made_lem : (x : Expr) → truth_of (Tree.not x) ≡ truth.Unknown
    → new_bool (Tree.not x) ≡ not_condition (new_bool x)
unfolding new_bool
not_made_lem x u = stays u

pub logic_made_lem : (l : Logic) (x y : Expr) → truth_of (logic l x y) ≡ truth.Unknown
    → new_bool (logic l x y) ≡ logic_condition l (new_bool x) (new_bool y)
unfolding new_bool
logic_made_lem l x y u = stays u

-- the truth that decides, and the detail of Or
pub decides_by : (o b : Bool) → decides (logic_by o) b ≡ beq b o
unfolding decides
decides_by true true = refl
decides_by true false = refl
decides_by false true = refl
decides_by false false = refl

pub logic_by_lem : (l : Logic) → logic_by (eqb (logic_detail l) 1) ≡ l
logic_by_lem and = refl
logic_by_lem or = refl
