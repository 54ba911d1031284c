-- The payload rules of `spec`'s Grammar.antt as numbers: how many payload words, and whether word i is right.
-- proofs/Payloads.antt proves that they say the same.
use Rattle.std.specs.Prelude.{Bool, true, cond, ◌&&◌, ◌||◌, ℕ, ◌+◌, ◌%◌, eqb, leb, ltb}
use Rattle.spec.specs.Grammar.{within}

abbrev pub const_count : ℕ → ℕ
const_count d = cond (eqb d 6) 2 1

abbrev pub builtin_count : ℕ → ℕ
builtin_count d = cond (within 5 6 d) 2 (cond (eqb d 4 || eqb d 7) 1 0)

abbrev pub pay_count : ℕ → ℕ → ℕ → ℕ
pay_count k d w =
    cond (eqb k 1) (const_count d)
    (cond (within 2 5 k) 1
    (cond (eqb k 11) (builtin_count d)
    (cond (eqb k 16) (1 + w % 65536)
    (cond (eqb k 35) 1 (cond (eqb k 64) 1 (cond (within 67 68 k) 1 (cond (eqb k 69) 2 0)))))))

abbrev pub const_right : ℕ → ℕ → ℕ → Bool
const_right d i w =
    cond (eqb d 1) (ltb w 2)
    (cond (eqb d 2) true (cond (eqb d 3) (ltb w 65536) (cond (eqb d 6) (eqb i 0 || ltb w 262144) (eqb w 0))))

abbrev pub pay_right : ℕ → ℕ → ℕ → ℕ → Bool
pay_right k d i w =
    cond (eqb k 1) (const_right d i w)
    (cond (eqb k 16 && eqb i 0) (ltb w 262144 && leb (w % 65536) d)
    (cond ((eqb k 11 || eqb k 16) || (eqb k 64 || (eqb k 69 && eqb i 1))) (ltb w 65536) true))
