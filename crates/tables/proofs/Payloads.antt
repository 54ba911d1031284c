-- The payload rules of `spec` and this crate's numbers for them say the same: how many words, and whether word i
-- is right.
-- Assumes nothing.
use mathlib.Core.Bool.{Bool, true, false, cond, ◌||◌}
use mathlib.Core.List.{List, [], ◌∷◌}
use mathlib.Core.Path.{◌≡◌, refl, ap, sym, ◌∙◌, subst}
use Prim.Native.Nat.{ℕ, zero, suc, ◌%◌, ◌<◌}
use native.Mathlib.Omega.{arith}
use borrow.Author.Tests.{ne_eqb, eqb-true, leb-true}
use lib.Dec.{eqb, leb, ltb, eqb-suc-zero}
use lib.ListN.{length, get_or, replicate, length-replicate, get_or-replicate}
use Rattle.spec.specs.Grammar.{kind_in, detail_in, within, Rule, text, any, facts, word_right}
use Rattle.spec.specs.Grammar.{const_rules, builtin_rules, rules}
use Rattle.spec.proofs.Outcomes.{both, by_test}
use Rattle.tables.specs.Payload.{const_count, builtin_count, pay_count, const_right, pay_right}

-- a length under a test
length_cond : (t : Bool) (xs ys : List Rule) → length (cond t xs ys) ≡ cond t (length xs) (length ys)
length_cond true xs ys = refl
length_cond false xs ys = refl

const_length : (d : ℕ) → length (const_rules d) ≡ const_count d
const_length d =
    simp (length_cond)
    (by_test _ (eqb d 1) (λ e. rw (eqb-true d 1 e)) (λ a. by_test _ (eqb d 2) (λ e. rw (eqb-true d 2 e))
    (λ b. by_test _ (eqb d 3) (λ e. rw (eqb-true d 3 e)) (λ g. simp (a, b, g)))))

builtin_length : (d : ℕ) → length (builtin_rules d) ≡ builtin_count d
builtin_length d = simp length_cond

-- a constant has one payload word, but for class 6
pub one_pay : (h : ℕ) → kind_in h ≡ 1 → (h ≡ 1537 → ⊥) → const_count (detail_in h) ≡ 1
one_pay h e u = simp (ne_eqb (detail_in h) 6 (λ (d : detail_in h ≡ 6). u (omega (arith, e, d))))

abbrev PayCount : ℕ → ℕ → ℕ → Type 0
PayCount d w k = length (rules k d w) ≡ pay_count k d w

pub pay_count_lem : (d w k : ℕ) → PayCount d w k
pay_count_lem d w k =
    by_test _ (eqb k 1) (λ e. at 1 e (const_length d))
    (λ a. by_test _ (within 2 5 k) (λ e. simp (a, e))
    (λ b. by_test _ (eqb k 11) (λ e. at 11 e (builtin_length d))
    (λ g. by_test _ (eqb k 16) (λ e. at 16 e (ap suc (length-replicate (w % 65536) text) ∙ omega arith))
    (λ f. by_test _ (eqb k 35) (λ e. at 35 e refl)
    (λ h. by_test _ (eqb k 64) (λ e. at 64 e refl)
    (λ j. by_test _ (within 67 68 k) (λ e. simp (a, b, g, f, h, j, e))
    (λ l. by_test _ (eqb k 69) (λ e. at 69 e refl) (λ m. simp (a, b, g, f, h, j, l, m)))))))))
  where
    at : (kind : ℕ) → eqb k kind ≡ true → PayCount d w kind → PayCount d w k
    at kind e p = subst (PayCount d w) (sym (eqb-true k kind e)) p

-- an index below one is 0, and one below two is 0 or 1
under_one : (i : ℕ) → i < 1 → i ≡ 0
under_one i h = omega arith

-- what is to be shown of payload word i
abbrev ConstRight : ℕ → ℕ → ℕ → Type 0
ConstRight i w d = i < const_count d → word_right (get_or (const_rules d) i any) d w ≡ const_right d i w

const_right_lem : (i w d : ℕ) → ConstRight i w d
const_right_lem i w d =
    by_test _ (eqb d 1) (λ e. at 1 e (λ h. rw (under_one i h)))
    (λ a. by_test _ (eqb d 2) (λ e. at 2 e (λ h. rw (under_one i h)))
    (λ b. by_test _ (eqb d 3) (λ e. at 3 e (λ h. rw (under_one i h)))
    (λ g. by_test _ (eqb d 6) (λ e. at 6 e (other i)) (λ f. simp (a, b, g, f) (λ h. rw (under_one i h))))))
  where
    at : (class : ℕ) → eqb d class ≡ true → ConstRight i w class → ConstRight i w d
    at class e p = subst (ConstRight i w) (sym (eqb-true d class e)) p

    other : (j : ℕ) → j < 2 → word_right (get_or (any ∷ facts ∷ []) j any) 6 w ≡ eqb j 0 || ltb w 262144
    other zero h = refl
    other (suc zero) h = refl
    other (suc (suc j)) h = absurd (omega arith)

-- the same of a node of any kind
abbrev PayRight : ℕ → ℕ → ℕ → ℕ → ℕ → Type 0
PayRight d i w v k = i < pay_count k d w → word_right (get_or (rules k d w) i any) d v ≡ pay_right k d i v

builtin_right : (d i v : ℕ) → i < builtin_count d → word_right (get_or (builtin_rules d) i any) d v ≡ ltb v 65536
builtin_right d i v =
    by_test _ (within 5 6 d) (λ e. simp e (two i))
    (λ a. by_test _ (eqb d 4 || eqb d 7) (λ e. simp (a, e) (λ h. rw (under_one i h)))
    (λ b. simp (a, b) (λ h. absurd (omega arith))))
  where
    two : (j : ℕ) → j < 2 → word_right (get_or (text ∷ text ∷ []) j any) d v ≡ ltb v 65536
    two zero h = refl
    two (suc zero) h = refl
    two (suc (suc j)) h = absurd (omega arith)

call_right : (d i w v : ℕ) → PayRight d i w v 16
call_right d zero w v h = refl
call_right d (suc i) w v h =
    let e : get_or (replicate (w % 65536) text) i any ≡ text = get_or-replicate (w % 65536) i text any (omega arith) in
    simp (e, eqb-suc-zero i)

module_right : (d i w v : ℕ) → PayRight d i w v 69
module_right d zero w v h = refl
module_right d (suc zero) w v h = refl
module_right d (suc (suc i)) w v h = absurd (omega arith)

pub pay_right_lem : (d i w v k : ℕ) → PayRight d i w v k
pay_right_lem d i w v k =
    by_test _ (eqb k 1) (λ e. at 1 e (const_right_lem i v d))
    (λ a. by_test _ (within 2 5 k) (λ e. small a e)
    (λ b. by_test _ (eqb k 11) (λ e. at 11 e (builtin_right d i v))
    (λ g. by_test _ (eqb k 16) (λ e. at 16 e (call_right d i w v))
    (λ f. by_test _ (eqb k 35) (λ e. at 35 e (λ h. rw (under_one i h)))
    (λ h. by_test _ (eqb k 64) (λ e. at 64 e (λ h. rw (under_one i h)))
    (λ j. by_test _ (within 67 68 k) (λ e. slots a b g f h j e)
    (λ l. by_test _ (eqb k 69) (λ e. at 69 e (module_right d i w v))
    (λ m. simp (a, b, g, f, h, j, l, m) (λ z. absurd (omega arith))))))))))
  where
    at : (kind : ℕ) → eqb k kind ≡ true → PayRight d i w v kind → PayRight d i w v k
    at kind e p = subst (PayRight d i w v) (sym (eqb-true k kind e)) p

    differs : (kind : ℕ) → (k ≡ kind → ⊥) → eqb k kind ≡ false
    differs kind n = ne_eqb k kind n

    small : eqb k 1 ≡ false → within 2 5 k ≡ true → PayRight d i w v k
    small a e =
        let r = both (leb 2 k) (leb k 5) e in
        let low = leb-true 2 k r.0 in
        let high = leb-true k 5 r.1 in
        simp (
          a,
          e,
          differs 11 (λ z. omega arith),
          differs 16 (λ z. omega arith),
          differs 64 (λ z. omega arith),
          differs 69 (λ z. omega arith),
        )
        (λ h. rw (under_one i h))

    slots : eqb k 1 ≡ false → within 2 5 k ≡ false → eqb k 11 ≡ false → eqb k 16 ≡ false → eqb k 35 ≡ false
        → eqb k 64 ≡ false
        → within 67 68 k ≡ true → PayRight d i w v k
    slots a b g f h j e =
        let r = both (leb 67 k) (leb k 68) e in
        let high = leb-true k 68 r.1 in
        simp (a, b, g, f, h, j, e, differs 69 (λ z. omega arith)) (λ z. rw (under_one i z))
