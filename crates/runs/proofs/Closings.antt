-- `close_logic`: an If is written around its condition and one of its arms, which stand in their places.
-- Assumes nothing.
use mathlib.Core.Bool.{Bool, true, false}
use mathlib.Core.List.{List, [], ◌∷◌}
use mathlib.Core.Path.{◌≡◌, refl, sym, subst, ◌∙◌}
use Prim.Native.Nat.{ℕ, ◌+◌, ◌≤◌, ◌<◌, ◌^◌}
use native.Mathlib.Omega.{arith}
use lib.ListN.{length, get_or}
use Rattle.spec.specs.Rose.{size, At, Ats}
use Rattle.spec.specs.Tree.{Expr, no_stmts, if_stmt, rose_e, rose_l, roses_s}
use Rattle.spec.specs.PassStmts.{is_exit}
use Rattle.ir.specs.Written.{Written}
use Rattle.expr_forms.specs.Made.{Is}
use Rattle.expr_forms.proofs.Moves.{is_agree}
use Rattle.runs.specs.Held.{Holds, SingleDone, first_of, CloseAsk, CloseDone}
use Rattle.runs.specs.declared.Run.{Run}
use Rattle.runs.proofs.Holding.{holds_agree, holds_few}

pub first_past : (arms : ℕ) (o : Bool) → (arms + 1 ≤ first_of arms o) × (first_of arms o ≤ arms + 2)
first_past arms true = (omega arith, omega arith)
first_past arms false = (omega arith, omega arith)

-- ---- the header and two count words

-- they stand at top, at `arms` and at `place`, and every other word is w's
record Around (w z : List ℕ) (top arms place m n : ℕ) : Type 0 where
  head : get_or z top 0 ≡ 37
  first : get_or z arms 0 ≡ m
  second : get_or z place 0 ≡ n
  below : (k : ℕ) → k < top → get_or z k 0 ≡ get_or w k 0
  inner : (k : ℕ) → top < k → k < arms → get_or z k 0 ≡ get_or w k 0
  between : (k : ℕ) → arms < k → k < place → get_or z k 0 ≡ get_or w k 0
  above : (k : ℕ) → place < k → get_or z k 0 ≡ get_or w k 0

around : {w v x z : List ℕ} {top arms place m n a b r : ℕ} → top < arms → arms < place → Written w v top (37 ∷ []) a
    → Written v x arms (m ∷ []) b → Written x z place (n ∷ []) r → Around w z top arms place m n
around {top = top} {arms = arms} t l d e f = record {
  head = f.below top (omega arith) ∙ e.below top t ∙ d.here.0;
  first = f.below arms l ∙ e.here.0;
  second = f.here.0;
  below = λ k h. f.below k (omega arith) ∙ e.below k (omega arith) ∙ d.below k h;
  inner = λ k g h. f.below k (omega arith) ∙ e.below k h ∙ d.above k (omega (arith, d.ends));
  between = λ k g h. f.below k h ∙ e.above k (omega (arith, e.ends)) ∙ d.above k (omega (arith, d.ends));
  above = λ k g.
      f.above k (omega (arith, f.ends))
      ∙ e.above k (omega (arith, e.ends))
      ∙ d.above k (omega (arith, d.ends));
}

is_around : {w z : List ℕ} {top arms place m n : ℕ} {c : Expr} → Around w z top arms place m n → Is w (top + 1) arms c
    → Is z (top + 1) arms c
is_around {top = top} g i =
    is_agree (record { word = λ k h. g.inner (top + 1 + k) (omega arith) (omega (arith, i.ends)) }) i

-- ---- the function

module _ {w : List ℕ} {top arms : ℕ} {run : Run} {o : Bool} (a : CloseAsk w top arms run o) where
  pub close_places : (top < arms) × (arms + 1 ≤ run.end) × (run.end < length w)
  close_places = (
    omega (arith, a.closed.is.ends),
    omega (arith, (first_past arms o).0, a.closed.begins, a.closed.holds.ends),
    omega (arith, a.room),
  )

  module _ {v x z : List ℕ} {body second : ℕ} (d : Written w v top (37 ∷ []) body) where
    -- the second arm
    pub close_or : {last : ℕ} → o ≡ true → Written v x arms (0 ∷ []) second
        → Written x z second (run.count ∷ []) last
        → {r : Run} → SingleDone top run.end r → CloseDone w z top arms run o r
    unfolding is_exit
    close_or q e f {r} one =
        let g = around close_places.0 (omega (arith, e.ends)) d e f in
        subst (λ (b : Bool). CloseDone w z top arms run b r) (sym q) (record {
          frame = record { word = g.below };
          begins = one.begins;
          right = λ c ss s.
              let there : run.at ≡ arms + 2 = s.begins in
              let i = is_around g s.is in
              let h : Holds z run ss = holds_agree
              (record { word = λ k l. g.above (run.at + k) (omega (arith, there, e.ends)) }) s.holds in
              let e₁ : arms ≡ top + 1 + size (rose_e c) = i.ends in
              let e₂ : second ≡ top + 1 + size (rose_e c) + size (rose_l no_stmts) = omega (arith, e₁, e.ends) in
              one.right z (if_stmt c no_stmts ss) (
                (g.head, tt),
                (
                  i.here,
                  (
                    subst (λ (m : ℕ). At z m (rose_l no_stmts)) e₁ ((g.first, tt), tt),
                    (
                      subst (λ (m : ℕ). At z m (rose_l ss)) e₂ (
                        (g.second ∙ h.counts, tt),
                        subst (λ (m : ℕ). Ats z m (roses_s ss)) (omega (arith, there, e.ends)) h.here,
                      ),
                      tt,
                    ),
                  ),
                ),
              ) (omega (arith, e₁, there, h.ends)) refl;
        })

    -- the first arm
    pub close_and : {last : ℕ} → o ≡ false → Written v x arms (run.count ∷ []) second
        → Written x z run.end (0 ∷ []) last
        → {r : Run} → SingleDone top last r → CloseDone w z top arms run o r
    unfolding is_exit
    close_and {last} q e f {r} one =
        let g = around close_places.0 (omega (arith, close_places.1)) d e f in
        subst (λ (b : Bool). CloseDone w z top arms run b r) (sym q) (record {
          frame = record { word = g.below };
          begins = one.begins;
          right = λ c ss s.
              let there : run.at ≡ arms + 1 = s.begins in
              let i = is_around g s.is in
              let h : Holds z run ss = holds_agree
              (record { word = λ k l. g.between (run.at + k) (omega (arith, there)) (omega (arith, s.holds.ends)) })
              s.holds in
              let e₁ : arms ≡ top + 1 + size (rose_e c) = i.ends in
              let e₂ : run.end ≡ top + 1 + size (rose_e c) + size (rose_l ss) = omega (arith, e₁, there, h.ends) in
              one.right z (if_stmt c ss no_stmts) (
                (g.head, tt),
                (
                  i.here,
                  (
                    subst (λ (m : ℕ). At z m (rose_l ss)) e₁ (
                      (g.first ∙ h.counts, tt),
                      subst (λ (m : ℕ). Ats z m (roses_s ss)) there h.here,
                    ),
                    (subst (λ (m : ℕ). At z m (rose_l no_stmts)) e₂ ((g.second, tt), tt), tt),
                  ),
                ),
              ) (omega (arith, e₂, f.ends)) refl;
        })
