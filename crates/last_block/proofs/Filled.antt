-- How many words there are up to the last that is not zero, one word more, and what it tells of the words behind.
-- Assumes nothing.
use Rattle.std.proofs.Common.{◌≡◌, ℕ, zero, suc, ◌+◌, ◌-◌, Bool, true, false, cond, ◌&&◌, eqb, leb, List, [], ◌∷◌, ◌++◌}
use Rattle.std.proofs.Common.{length, take, drop, sym, refl, ap, ◌∙◌, ap₂, arith}
use lib.Dec.{leb-zero, leb-suc-zero, leb-suc-suc}
use Rattle.spec.specs.Blocks.{all_zero, unused, used_in}
use Rattle.spec.proofs.LastBlocks.{drop_take}

unfoldable pub filled_in : List ℕ → ℕ
filled_in [] = 0
filled_in (w ∷ ws) = cond (all_zero (w ∷ ws)) 0 (suc (filled_in ws))

zero_more : (xs : List ℕ) (x : ℕ) → all_zero (xs ++ (x ∷ [])) ≡ all_zero xs && eqb x 0
unfolding all_zero
zero_more [] x = go (eqb x 0)
  where
    go : (t : Bool) → t && true ≡ t
    go true = refl
    go false = refl
zero_more (w ∷ xs) x = ap (λ (t : Bool). eqb w 0 && t) (zero_more xs x) ∙ go (eqb w 0) (all_zero xs) (eqb x 0)
  where
    go : (a b c : Bool) → a && (b && c) ≡ (a && b) && c
    go true b c = refl
    go false b c = refl

-- one word more
pub filled_more : (xs : List ℕ) (x : ℕ) → filled_in (xs ++ (x ∷ [])) ≡ cond (eqb x 0) (filled_in xs) (suc (length xs))
unfolding filled_in all_zero
filled_more [] x = go (eqb x 0)
  where
    go : (t : Bool) → ◌≡◌ {A = ℕ} (cond (t && true) 0 1) (cond t 0 1)
    go true = refl
    go false = refl
filled_more (w ∷ xs) x =
    ap₂ (λ (t : Bool) (n : ℕ). cond (eqb w 0 && t) 0 (suc n)) (zero_more xs x) (filled_more xs x)
    ∙ go (eqb w 0) (all_zero xs) (eqb x 0)
  where
    go : (a b c : Bool)
        → cond (a && (b && c)) 0 (suc (cond c (filled_in xs) (suc (length xs))))
        ≡ cond c (cond (a && b) 0 (suc (filled_in xs))) (suc (suc (length xs)))
    go true true true = refl
    go true true false = refl
    go true false true = refl
    go true false false = refl
    go false b true = refl
    go false b false = refl

filled_none : (xs : List ℕ) → all_zero xs ≡ true → filled_in xs ≡ 0
unfolding filled_in
filled_none [] e = refl
filled_none (w ∷ ws) e = ap (λ (t : Bool). cond t 0 (suc (filled_in ws))) e

-- the words behind the first n are zero exactly where the last that is not zero is among these
pub filled_behind : (xs : List ℕ) (n : ℕ) → leb (filled_in xs) n ≡ all_zero (drop n xs)
unfolding filled_in all_zero
filled_behind [] n = leb-zero n ∙ go n
  where
    go : (n : ℕ) → true ≡ all_zero (drop n [])
    go zero = refl
    go (suc n) = refl
filled_behind (w ∷ ws) zero = go (all_zero (w ∷ ws))
  where
    go : (t : Bool) → leb (cond t 0 (suc (filled_in ws))) 0 ≡ t
    go true = leb-zero 0
    go false = leb-suc-zero (filled_in ws)
filled_behind (w ∷ ws) (suc n) = go (eqb w 0) (all_zero ws) refl ∙ filled_behind ws n
  where
    go : (a b : Bool) → all_zero ws ≡ b → leb (cond (a && b) 0 (suc (filled_in ws))) (suc n) ≡ leb (filled_in ws) n
    go true true e = leb-zero (suc n) ∙ sym (ap (λ (k : ℕ). leb k n) (filled_none ws e) ∙ leb-zero n)
    go true false e = leb-suc-suc (filled_in ws) n
    go false b e = leb-suc-suc (filled_in ws) n

-- refusal 4 by that number: of a block's words but the last, those behind word 0 and the rule words
pub filled_unused : (ws : List ℕ) → leb (filled_in (take 127 ws)) (1 + used_in ws) ≡ all_zero (unused ws)
filled_unused ws =
    let e : 127 - (1 + used_in ws) ≡ 126 - used_in ws = omega arith in
    filled_behind (take 127 ws) (1 + used_in ws)
    ∙ ap all_zero (drop_take (1 + used_in ws) 127 ws ∙ ap (λ (k : ℕ). take k (drop (1 + used_in ws) ws)) e)
