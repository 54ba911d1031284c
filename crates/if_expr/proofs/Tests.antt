-- `test_at`: what a node's kind and detail say of a condition, and the condition by the answer.
-- Assumes nothing.
use mathlib.Core.Bool.{true, false, ◌&&◌, true≢false}
use mathlib.Core.List.{List}
use mathlib.Core.Path.{◌≡◌, refl, ap, ap₂, sym, subst, ◌∙◌}
use Prim.Native.Nat.{ℕ, ◌+◌}
use native.Mathlib.Omega.{arith}
use borrow.Author.Tests.{eq-eqb, eqb-true}
use lib.Dec.{eqb}
use lib.ListN.{length}
use Rattle.spec.specs.Rose.{own_of}
use Rattle.spec.specs.Grammar.{kind_in, detail_in}
use Rattle.spec.specs.Tree
use Rattle.spec.specs.Tree.{Const, other}
use Rattle.spec.specs.Tree.{Place, local}
use Rattle.spec.specs.Tree.{tuple, and}
use Rattle.spec.specs.Tree.{Expr, const, read, fresh, if_then, logic, seq, oper, rose_e}
use Rattle.spec.specs.Proper.{is_operator, Proper}
use Rattle.spec.specs.Views.{kind_of, detail_of}
use Rattle.spec.specs.Pass.{if_left}
use Rattle.spec.proofs.Outcomes.{both}
use Rattle.spec.specs.declared.Sort.TheVariants as sort
use Rattle.ir.specs.Standing.{SomeExpr, Shape, NodeOf}
use Rattle.expr_bool.specs.Asked.{ExprAt}
use Rattle.if_expr.specs.Arms.{Tested, is_not, is_seq, is_plain, TestAsk, TestDone}
use Rattle.if_expr.specs.declared.Test.TheVariants as test

-- ---- a condition by its kind and detail

-- nothing is taken off it
abbrev pub Stays : Expr → Type 0
Stays e = (more : Expr → Expr → Expr → Expr) (t f : Expr) → if_left more e t f ≡ if_then e t f

data Way : ℕ → ℕ → Expr → Type 0 where
  not_way : (x : Expr) → Way 11 3 (Tree.not x)
  seq_way : (p x : Expr) → Way 13 0 (seq p x)
  plain_way : (k d : ℕ) (e : Expr) → (eqb k 11 && eqb d 3 ≡ true → ⊥) → (k ≡ 13 → ⊥) → Stays e → Way k d e

plain : {k d : ℕ} {e : Expr} → (k ≡ 11 → d ≡ 3 → ⊥) → (k ≡ 13 → ⊥) → Stays e → Way k d e
plain {k} {d} {e} n m s =
    plain_way k d e
    (λ h. let b = both (eqb k 11) (eqb d 3) h in n (eqb-true k 11 b.0) (eqb-true d 3 b.1)) m s

-- no operator is Not or Seq
operator_not : (k d : ℕ) → is_operator k d ≡ true → k ≡ 11 → d ≡ 3 → ⊥
operator_not k d o p q = true≢false (sym o ∙ ap₂ is_operator p q)

operator_seq : (k d : ℕ) → is_operator k d ≡ true → k ≡ 13 → ⊥
operator_seq k d o e = true≢false (sym o ∙ ap (λ (n : ℕ). is_operator n d) e)

way_const : (c : Const) → Way (kind_of (rose_e (const c))) (detail_of (rose_e (const c))) (const c)
unfolding if_left
way_const Tree.none = plain (λ h g. omega arith) (λ h. omega arith) (λ more t f. refl)
way_const _ = plain (λ h g. omega arith) (λ h. omega arith) (λ more t f. refl)

way_read : (p : Place) → Way (kind_of (rose_e (read p))) (detail_of (rose_e (read p))) (read p)
unfolding if_left
way_read (local n) = plain (λ h g. omega arith) (λ h. omega arith) (λ more t f. refl)
way_read _ = plain (λ h g. omega arith) (λ h. omega arith) (λ more t f. refl)

way : (e : Expr) → Proper e → Way (kind_of (rose_e e)) (detail_of (rose_e e)) e
unfolding if_left
way (const c) p = way_const c
way (read q) p = way_read q
way (fresh tuple es) p = plain (λ h g. omega arith) (λ h. omega arith) (λ more t f. refl)
way (Tree.not e) p = not_way e
way (logic and x y) p = plain (λ h g. omega arith) (λ h. omega arith) (λ more t f. refl)
way (seq x y) p = seq_way x y
way (oper h pay es) p =
    plain (operator_not (kind_in h) (detail_in h) p.0) (operator_seq (kind_in h) (detail_in h) p.0)
    (λ more t f. refl)
way _ p = plain (λ h g. omega arith) (λ h. omega arith) (λ more t f. refl)

-- ---- the answer, by the tests that are made

module _ {w : List ℕ} {at first : ℕ} where
  by_not : {k d : ℕ} {e : Expr} → Way k d e → eqb k 11 && eqb d 3 ≡ true → first ≡ at + length (own_of (rose_e e))
      → Tested w at e (test.Not first)
  by_not (not_way x) h f = is_not x first f
  by_not (seq_way p x) h f = absurd (true≢false (sym h))
  by_not (plain_way k d e n m s) h f = absurd (n h)

  by_seq : {k d : ℕ} {e : Expr} → Way k d e → k ≡ 13 → first ≡ at + length (own_of (rose_e e))
      → Tested w at e (test.Seq first)
  by_seq (not_way x) h f = absurd (omega arith)
  by_seq (seq_way p x) h f = is_seq p x first f
  by_seq (plain_way k d e n m s) h f = absurd (m h)

by_plain : {w : List ℕ} {at k d : ℕ} {e : Expr} → Way k d e → eqb k 11 && eqb d 3 ≡ false → (k ≡ 13 → ⊥)
    → Tested w at e test.Stays
by_plain (not_way x) h m = absurd (true≢false h)
by_plain (seq_way p x) h m = absurd (m refl)
by_plain (plain_way k d e n g s) h m = is_plain e s

pub test_node : {w : List ℕ} {at : ℕ} → TestAsk w at → SomeExpr w at
test_node a = record { tree = rose_e a.tree; valid = a.stands.valid.1; here = a.stands.here; inside = a.inside }

module _ {w : List ℕ} {at k d x first n : ℕ} (o : NodeOf w at k d x first n) where
  shape : (e : Expr) → ExprAt w at e → Shape (rose_e e) at k d x first n
  shape e s = o.of sort.Expr (rose_e e) refl s.valid.1 s.here

  found : (e : Expr) → ExprAt w at e → Way k d e
  found e s =
      let z = shape e s in
      subst (λ (i : ℕ). Way i d e) (sym z.is_kind)
      (subst (λ (j : ℕ). Way (kind_of (rose_e e)) j e) (sym z.is_detail) (way e s.valid.0))

  pub test_not : k ≡ 11 → d ≡ 3 → TestDone w at (test.Not first)
  test_not h g = record {
    right = λ e s. by_not (found e s) (simp (eq-eqb k 11 h, eq-eqb d 3 g)) (shape e s).is_first;
  }

  pub test_seq : k ≡ 13 → TestDone w at (test.Seq first)
  test_seq h = record { right = λ e s. by_seq (found e s) h (shape e s).is_first }

  pub test_stays : eqb k 11 && eqb d 3 ≡ false → (k ≡ 13 → ⊥) → TestDone w at test.Stays
  test_stays h m = record { right = λ e s. by_plain (found e s) h m }

-- what the check applies in `test_at`
pub ruleset tests = (test_node, test_not, test_seq, test_stays)

-- ---- the condition, by the answer

-- a Not with its part, and a Seq with its parts
pub record NotIs (at : ℕ) (e : Expr) (part : ℕ) : Type 0 where
  pub inner : Expr
  pub is : e ≡ Tree.not inner
  pub place : part ≡ at + 1

pub record SeqIs (at : ℕ) (e : Expr) (part : ℕ) : Type 0 where
  pub left : Expr
  pub other : Expr
  pub is : e ≡ seq left other
  pub place : part ≡ at + 1

module _ {w : List ℕ} {at : ℕ} where
  pub not_is_lem : {e : Expr} {part : ℕ} → Tested w at e (test.Not part) → NotIs at e part
  not_is_lem (is_not x part e) = record { inner = x; is = refl; place = e }

  pub seq_is_lem : {e : Expr} {part : ℕ} → Tested w at e (test.Seq part) → SeqIs at e part
  seq_is_lem (is_seq p x part e) = record { left = p; other = x; is = refl; place = e }

  pub stays_is : {e : Expr} → Tested w at e test.Stays → Stays e
  stays_is (is_plain e s) = s
