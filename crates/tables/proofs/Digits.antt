-- The digits of a number, one for each kind or class, hold what the tables say of it.
-- Assumes nothing.
use mathlib.Core.Bool.{Bool, true, false, not, ◌&&◌, ◌||◌, true≢false}
use mathlib.Core.Path.{◌≡◌, refl, ap}
use Prim.Native.Nat.{ℕ, zero, suc, ◌+◌, ◌*◌, ◌/◌, ◌%◌, ◌≤◌, ◌<◌, ◌^◌}
use native.Mathlib.Omega.{arith}
use lib.Dec.{eqb, ltb, leb}
use borrow.Author.Tests.{eqb-true, ltb-true, ltb-false, le-leb, eq-eqb, ne_eqb}
use Rattle.spec.specs.Grammar.{expr_head, part_count}
use Rattle.spec.proofs.Outcomes.{both}
use Rattle.tables.specs.Payload.{const_right}

-- ---- whatever holds of 0 and so on

abbrev Each : (ℕ → Type 0) → ℕ → Type 0
Each P zero = Unit {0}
Each P (suc n) = P 0 × Each (λ i. P (suc i)) n

each : (P : ℕ → Type 0) (n : ℕ) → Each P n → (k : ℕ) → k < n → P k
each P zero t k h = absurd (omega arith)
each P (suc n) t zero h = t.0
each P (suc n) t (suc k) h = each (λ i. P (suc i)) n t.1 k (omega arith)

-- ---- parts_by_digit

abbrev base : ℕ → ℕ
base k = 3612467649449033728 / 2 ^ (4 * k) % 16

abbrev more : ℕ → ℕ
more k = 8875147264 / 2 ^ (4 * k) % 16

abbrev Counted : ℕ → Type 0
Counted k = eqb k 10 ≡ false → (d w : ℕ) → base k + more k * d ≡ part_count k d w

-- a detail adds two parts at most
few_more : (k : ℕ) → k < 16 → more k ≤ 2
few_more k h =
    each (λ (n : ℕ). more n ≤ 2) 16 (
      omega arith,
      (
        omega arith,
        (
          omega arith,
          (
            omega arith,
            (
              omega arith,
              (
                omega arith,
                (
                  omega arith,
                  (
                    omega arith,
                    (
                      omega arith,
                      (
                        omega arith,
                        (
                          omega arith,
                          (
                            omega arith,
                            (
                              omega arith,
                              (
                                omega arith,
                                (omega arith, (omega arith, tt)),
                              ),
                            ),
                          ),
                        ),
                      ),
                    ),
                  ),
                ),
              ),
            ),
          ),
        ),
      ),
    )
    k h

twice : (a d : ℕ) → a ≤ 2 → a * d ≤ 2 * d
twice zero d h = omega arith
twice (suc zero) d h = omega arith
twice (suc (suc zero)) d h = omega arith
twice (suc (suc (suc a))) d h = absurd (omega arith)

pub more_fits : (k d : ℕ) → k < 16 → more k * d ≤ 2 * d
more_fits k d h = twice (more k) d (few_more k h)

-- kinds that add nothing for a detail, those that add one part, a Dict's two, and the Slice
pub count_digits : (k d w : ℕ) → k < 16 → eqb k 10 ≡ false → base k + more k * d ≡ part_count k d w
count_digits k d w h q =
    each Counted 16 (
      fixed,
      (
        fixed,
        (
          fixed,
          (
            fixed,
            (
              fixed,
              (
                fixed,
                (
                  one,
                  (
                    one,
                    (
                      two,
                      (
                        fixed,
                        (
                          λ q d w. absurd (true≢false q),
                          (
                            fixed,
                            (
                              fixed,
                              (
                                fixed,
                                (fixed, (fixed, tt)),
                              ),
                            ),
                          ),
                        ),
                      ),
                    ),
                  ),
                ),
              ),
            ),
          ),
        ),
      ),
    )
    k h q d w
  where
    fixed : {n : ℕ} {q : Bool} → q ≡ false → (d w : ℕ) → n + 0 * d ≡ n
    fixed q d w = omega arith

    one : {q : Bool} → q ≡ false → (d w : ℕ) → 0 + 1 * d ≡ d
    one q d w = omega arith

    two : {q : Bool} → q ≡ false → (d w : ℕ) → 0 + 2 * d ≡ 2 * d
    two q d w = omega arith

-- ---- head_by_digit

abbrev head_bits : ℕ → ℕ
head_bits k = 360625556900806656 / 2 ^ (4 * k) % 16

abbrev Headed : ℕ → Type 0
Headed k =
    0 < k → (d : ℕ) → eqb (d / 2 ^ head_bits k) 0 && (not (eqb k 14) || leb d 17) ≡ true → expr_head k d ≡ true

pub head_digits : (k d : ℕ) → k < 16 → 0 < k → eqb (d / 2 ^ head_bits k) 0 && (not (eqb k 14) || leb d 17) ≡ true
    → expr_head k d ≡ true
head_digits k d h p q =
    each Headed 16 (
      λ p d q. absurd (omega arith),
      (
        class,
        (
          none,
          (
            none,
            (
              none,
              (
                none,
                (
                  any,
                  (
                    any,
                    (
                      any,
                      (
                        none,
                        (
                          eight,
                          (eight, (two, (none, (operator, (none, tt))))),
                        ),
                      ),
                    ),
                  ),
                ),
              ),
            ),
          ),
        ),
      ),
    )
    k h p d q
  where
    quotient : (d m : ℕ) (r : Bool) → eqb (d / m) 0 && r ≡ true → d / m ≡ 0
    quotient d m r q = eqb-true (d / m) 0 (both (eqb (d / m) 0) r q).0

    none : {p : Type 0} → p → (d : ℕ) → eqb (d / 1) 0 && true ≡ true → eqb d 0 ≡ true
    none p d q = eq-eqb d 0 (omega (arith, quotient d 1 true q))

    class : {p : Type 0} → p → (d : ℕ) → eqb (d / 1) 0 && true ≡ true → leb d 6 ≡ true
    class p d q = le-leb d 6 (omega (arith, quotient d 1 true q))

    two : {p : Type 0} → p → (d : ℕ) → eqb (d / 2) 0 && true ≡ true → leb d 1 ≡ true
    two p d q = le-leb d 1 (omega (arith, quotient d 2 true q))

    eight : {p : Type 0} → p → (d : ℕ) → eqb (d / 8) 0 && true ≡ true → leb d 7 ≡ true
    eight p d q = le-leb d 7 (omega (arith, quotient d 8 true q))

    operator : {p : Type 0} → p → (d : ℕ) → eqb (d / 32) 0 && leb d 17 ≡ true → leb d 17 ≡ true
    operator p d q = (both (eqb (d / 32) 0) (leb d 17) q).1

    any : {p : Type 0} → p → (d : ℕ) → eqb (d / 256) 0 && true ≡ true → true ≡ true
    any p d q = refl

-- ---- const_fits

abbrev word_bits : ℕ → ℕ
word_bits d = 9007199525273856 / 2 ^ (8 * d) % 256

pub word_bits_lem : (d : ℕ) → d < 7 → word_bits d < 64
word_bits_lem d h =
    each (λ (n : ℕ). word_bits n < 64) 7
    (omega arith, (omega arith, (omega arith, (omega arith, (omega arith, (omega arith, (omega arith, tt)))))))
    d h

abbrev Fitted : ℕ → Type 0
Fitted d = (w : ℕ) → w < 4294967296 → eqb (w / 2 ^ word_bits d) 0 ≡ const_right d 0 w

pub fits_digits : (d w : ℕ) → d < 7 → w < 4294967296 → eqb (w / 2 ^ word_bits d) 0 ≡ const_right d 0 w
fits_digits d w h f =
    each Fitted 7 (nothing, (bool, (any, (text, (nothing, (nothing, (any, tt))))))) d h w f
  where
    nothing : (w : ℕ) → w < 4294967296 → eqb (w / 1) 0 ≡ eqb w 0
    nothing w f = let whole : w / 1 ≡ w = omega arith in ap (λ (n : ℕ). eqb n 0) whole

    any : (w : ℕ) → w < 4294967296 → eqb (w / 4294967296) 0 ≡ true
    any w f = eq-eqb (w / 4294967296) 0 (omega arith)

    bool : (w : ℕ) → w < 4294967296 → eqb (w / 2) 0 ≡ ltb w 2
    bool w f = go (ltb w 2) refl
      where
        go : (b : Bool) → ltb w 2 ≡ b → eqb (w / 2) 0 ≡ b
        go true e = eq-eqb (w / 2) 0 (omega (arith, ltb-true w 2 e))
        go false e = ne_eqb (w / 2) 0 (λ z. absurd (omega (arith, z, ltb-false w 2 e)))

    text : (w : ℕ) → w < 4294967296 → eqb (w / 65536) 0 ≡ ltb w 65536
    text w f = go (ltb w 65536) refl
      where
        go : (b : Bool) → ltb w 65536 ≡ b → eqb (w / 65536) 0 ≡ b
        go true e = eq-eqb (w / 65536) 0 (omega (arith, ltb-true w 65536 e))
        go false e = ne_eqb (w / 65536) 0 (λ z. absurd (omega (arith, z, ltb-false w 65536 e)))
