-- How many words of an expression are its own, and how many parts it has, by its kind.
-- Assumes nothing.
use mathlib.Core.Bool.{true, false}
use mathlib.Core.List.{List}
use mathlib.Core.Path.{◌≡◌, refl, ap, sym, ◌∙◌}
use Prim.Native.Nat.{ℕ, ◌+◌, ◌≤◌, ◌<◌}
use native.Mathlib.Omega.{arith}
use lib.ListN.{length, get_or}
use Rattle.spec.specs.Grammar.{kind_in, detail_in, within, part_count}
use Rattle.spec.proofs.Heads.{within_high}
use Rattle.tables.specs.Payload.{pay_count}
use Rattle.tables.proofs.Rows.{ranged}
use Rattle.ir.specs.Standing.{first_pay, SomeExpr, SomeNodeOf, ExtentOf}
use Rattle.ir.proofs.Rows.{outside, not_within, bare_pay}
use Rattle.ir.proofs.Nodes.{node_inside, some_node, some_of, node_of, bare_word}
use Rattle.ir.proofs.Ranges.{expr_range}

pub expr_inside : {ws : List ℕ} {at : ℕ} → SomeExpr ws at → at < length ws
expr_inside x = node_inside (some_node x)

module _ {ws : List ℕ} {at d : ℕ} (x : SomeExpr ws at) (ed : d ≡ detail_in (get_or ws at 0)) where
  abbrev Here : ℕ → Type 0
  Here k = k ≡ kind_in (get_or ws at 0)

  extent : (k : ℕ) → Here k → {w own n : ℕ} → w ≡ first_pay ws at k d → own ≡ 1 + pay_count k d w
      → n ≡ part_count k d w
      → ExtentOf ws at own n
  extent k ek {w} {own} {n} ew eo en =
      let read : SomeNodeOf ws at k d = some_of (some_node x) refl ek ed in
      record { kind = k; detail = d; word = w; node = node_of read ew (omega (arith, eo)) en }

  pub read_extent : {k : ℕ} → Here k → within 2 5 k ≡ true → ExtentOf ws at 2 0
  read_extent {k} ek e =
      ranged (λ (j : ℕ). Here j → ExtentOf ws at 2 0) 2 3 k e (
        λ h. extent 2 h refl refl refl,
        (λ h. extent 3 h refl refl refl, (λ h. extent 4 h refl refl refl, λ h. extent 5 h refl refl refl)),
      )
      ek

  pub const_extent : {k : ℕ} → Here k → k ≡ 1 → {pay : ℕ} → pay ≡ pay_count 1 d 0 → ExtentOf ws at (1 + pay) 0
  const_extent ek e p = extent 1 (sym e ∙ ek) refl (ap (λ (n : ℕ). 1 + n) p) refl

  pub call_extent : {k : ℕ} → Here k → k ≡ 16 → {w pay n : ℕ} → w ≡ get_or ws (at + 1) 0 → pay ≡ pay_count 16 d w
      → n ≡ part_count 16 d w
      → ExtentOf ws at (1 + pay) n
  call_extent ek e ew p en = extent 16 (sym e ∙ ek) ew (ap (λ (n : ℕ). 1 + n) p) en

  pub builtin_extent : {k : ℕ} → Here k → k ≡ 11 → {pay : ℕ} → pay ≡ pay_count 11 d 0 → ExtentOf ws at (1 + pay) 1
  builtin_extent ek e p = extent 11 (sym e ∙ ek) refl (ap (λ (n : ℕ). 1 + n) p) refl

  pub bare_extent : {k : ℕ} → Here k → within 2 5 k ≡ false → (k ≡ 1 → ⊥) → (k ≡ 16 → ⊥) → (k ≡ 11 → ⊥) → {n : ℕ}
      → n ≡ part_count k d 0
      → ExtentOf ws at 1 n
  bare_extent {k} ek r u v b en =
      let high = within_high 1 16 k (ap (within 1 16) ek ∙ expr_range x) in
      let none : pay_count k d 0 ≡ 0 =
      bare_pay k d 0 (not_within 1 5 k (λ l m. outside 2 5 k r (omega arith) m)) v b (omega arith) in
      extent k ek (sym (bare_word ws at k d none)) (omega (arith, none)) en

  module _ {k : ℕ} (ek : Here k) (r : within 2 5 k ≡ false) (c : k ≡ 1 → ⊥) (v : k ≡ 16 → ⊥) (b : k ≡ 11 → ⊥) where
    -- the row of a number that is its kind's
    pub row_extent : {j n : ℕ} → k ≡ j → n ≡ part_count j d 0 → ExtentOf ws at 1 n
    row_extent e en = bare_extent ek r c v b (en ∙ ap (λ (i : ℕ). part_count i d 0) (sym e))

    -- Tuple and List; And, Or, Seq and Builtin2
    pub parts_extent : within 6 7 k ≡ true → ExtentOf ws at 1 d
    parts_extent h =
        ranged (λ (j : ℕ). k ≡ j → ExtentOf ws at 1 d) 6 1 k h (λ e. row_extent e refl, λ e. row_extent e refl) refl

    pub two_extent : within 12 14 k ≡ true → ExtentOf ws at 1 2
    two_extent h =
        ranged (λ (j : ℕ). k ≡ j → ExtentOf ws at 1 2) 12 2 k h
        (λ e. row_extent e refl, (λ e. row_extent e refl, λ e. row_extent e refl)) refl

    -- If and Index2 are what is left
    pub last_extent : within 6 7 k ≡ false → within 12 14 k ≡ false → (k ≡ 8 → ⊥) → (k ≡ 10 → ⊥) → ExtentOf ws at 1 3
    last_extent p t u s =
        let none : (low high : ℕ) → within low high k ≡ false → (j : ℕ) → low ≤ j → j ≤ high → k ≡ j
        → ExtentOf ws at 1 3 =
        λ low high h j l m e. absurd (outside low high k h (omega (arith, l, e)) (omega (arith, m, e))) in
        let read = none 2 5 r in
        let two = none 12 14 t in
        ranged (λ (j : ℕ). k ≡ j → ExtentOf ws at 1 3) 1 15 k (ap (within 1 16) ek ∙ expr_range x) (
          λ e. absurd (c e),
          (
            read 2 (omega arith) (omega arith),
            (
              read 3 (omega arith) (omega arith),
              (
                read 4 (omega arith) (omega arith),
                (
                  read 5 (omega arith) (omega arith),
                  (
                    none 6 7 p 6 (omega arith) (omega arith),
                    (
                      none 6 7 p 7 (omega arith) (omega arith),
                      (
                        λ e. absurd (u e),
                        (
                          λ e. row_extent e refl,
                          (
                            λ e. absurd (s e),
                            (
                              λ e. absurd (b e),
                              (
                                two 12 (omega arith) (omega arith),
                                (
                                  two 13 (omega arith) (omega arith),
                                  (two 14 (omega arith) (omega arith), (λ e. row_extent e refl, λ e. absurd (v e))),
                                ),
                              ),
                            ),
                          ),
                        ),
                      ),
                    ),
                  ),
                ),
              ),
            ),
          ),
        )
        refl

-- what the check applies in `extent_at`
pub ruleset extents = (
  expr_range,
  read_extent,
  const_extent,
  call_extent,
  builtin_extent,
  parts_extent,
  two_extent,
  row_extent,
  last_extent,
)
