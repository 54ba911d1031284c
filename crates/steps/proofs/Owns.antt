-- The own words of an expression, and the expressions that they leave.
-- Assumes nothing.
use mathlib.Core.Bool.{Bool, true, false}
use mathlib.Core.List.{List}
use mathlib.Core.Path.{◌≡◌, refl, ap, ap₂, sym, fun_ext, ◌∙◌}
use Prim.Native.Nat.{ℕ, zero, suc, ◌+◌, ◌-◌, ◌≤◌, ◌<◌}
use native.Mathlib.Omega.{arith}
use Rattle.std.proofs.lemmas.Grind.{common_steps}
use borrow.Author.Tests.{le-leb, ne_eqb}
use lib.ListN.{length, get_or}
use mir.Val.{bool_byte}
use Rattle.spec.specs.Outcome.{given}
use Rattle.spec.specs.Grammar.{within, expr_head, part_count, part_sort}
use Rattle.spec.specs.Reading.{read_at}
use Rattle.spec.proofs.Outcomes.{passed}
use Rattle.spec.proofs.Heads.{within_high, expr_head_lem}
use Rattle.spec.proofs.Meanings.{part_expr}
use Rattle.spec.specs.declared.Sort.{Sort}
use Rattle.spec.specs.declared.Sort.TheVariants as sort
use Rattle.tables.specs.Payload.{pay_count, pay_right}
use Rattle.steps.specs.Steps.{next_of, pay_step, head_step, parts_step, exprs_step}
use Rattle.steps.specs.Quick.{HeadAt}
use Rattle.steps.proofs.Decompose.{pay_ends}
use Rattle.steps.proofs.Nodes.{pay_one, pay_two, head_told, node_parts_lem}

-- ---- own words

-- a constant has one payload word, or two
module _ (ws : List ℕ) (at d : ℕ) (l : at + 1 < length ws) (right : pay_right 1 d 0 (get_or ws (at + 1) 0) ≡ true)
  where
    pub const_one : d < 6 → head_step ws sort.Expr at 1 d ≡ given (at + 1 + 1)
    const_one h =
        head_told sort.Expr ws at 1 d (le-leb d 6 (omega arith))
        (pay_one ws (at + 1) 1 d l right (simp (ne_eqb d 6 (λ z. omega arith))))

    pub const_two : d ≡ 6 → at + 1 + 1 < length ws → pay_right 1 6 1 (get_or ws (at + 1 + 1) 0) ≡ true
        → head_step ws sort.Expr at 1 d ≡ given (at + 1 + 1 + 1)
    const_two e m more =
        head_told sort.Expr ws at 1 d (le-leb d 6 (omega arith)) (pay_two ws (at + 1) 1 d l right (rw e) m (rw e more))

-- the kinds with no payload
no_pay : (k d w : ℕ) → expr_head k d ≡ true → 5 < k → (k ≡ 11 → ⊥) → (k ≡ 16 → ⊥) → pay_count k d w ≡ 0
no_pay k d w e l u v = grind (arith, common_steps)

module _ (ws : List ℕ) (at k d : ℕ) where
  pub head_alone : expr_head k d ≡ true → 5 < k → (k ≡ 11 → ⊥) → (k ≡ 16 → ⊥)
      → head_step ws sort.Expr at k d ≡ given (at + 1)
  head_alone e l u v =
      let n : pay_count k d (get_or ws (at + 1) 0) ≡ 0 = no_pay k d _ e l u v in
      head_told sort.Expr ws at k d e (pay_ends ws (at + 1) k d 0 (at + 1) (omega arith))

-- the kinds of reads
pub by_read : (P : ℕ → Type 0) → P 2 → P 3 → P 4 → P 5 → (k : ℕ) → 2 ≤ k → k ≤ 5 → P k
by_read P p q r s zero a b = absurd (omega arith)
by_read P p q r s (suc zero) a b = absurd (omega arith)
by_read P p q r s (suc (suc zero)) a b = p
by_read P p q r s (suc (suc (suc zero))) a b = q
by_read P p q r s (suc (suc (suc (suc zero)))) a b = r
by_read P p q r s (suc (suc (suc (suc (suc zero))))) a b = s
by_read P p q r s (suc (suc (suc (suc (suc (suc k)))))) a b = absurd (omega arith)

-- a read has one payload word, any
pub read_pay_lem : (ws : List ℕ) (at d : ℕ) → at < length ws → (k : ℕ) → 2 ≤ k → k ≤ 5
    → pay_step ws at k d ≡ given (at + 1)
read_pay_lem ws at d m =
    by_read (λ (k : ℕ). pay_step ws at k d ≡ given (at + 1)) (pay_one ws at 2 d m refl refl)
    (pay_one ws at 3 d m refl refl) (pay_one ws at 4 d m refl refl) (pay_one ws at 5 d m refl refl)

-- no payload but a read's
module _ (ws : List ℕ) (at k d : ℕ) (e : expr_head k d ≡ true) (m : at + 1 < length ws) (some : 2 ≤ k)
    (u : k ≡ 11 → ⊥) (v : k ≡ 16 → ⊥) where
  pub flat_told : (b : Bool) → within 2 5 k ≡ b → head_step ws sort.Expr at k d ≡ given (at + 1 + bool_byte b)
  flat_told true q =
      head_told sort.Expr ws at k d e (read_pay_lem ws (at + 1) d m k some (within_high 2 5 k q))
  flat_told false q =
      let alone : at + 1 ≡ at + 1 + 0 = omega arith in
      let past : 5 < k = grind (arith, common_steps) in
      head_alone ws at k d e past u v ∙ ap given alone

-- ---- an expression

-- its parts are expressions
part_told : (ws : List ℕ) (at k d : ℕ) {first : ℕ} → head_step ws sort.Expr at k d ≡ given first → (i : ℕ)
    → part_sort k i ≡ sort.Expr
part_told ws at k d own = part_expr (expr_head_lem k d (passed (expr_head k d) _ 9 at own).0)

-- own words that are read leave so many expressions
pub node_exprs : {levels at k d first : ℕ} {ws : List ℕ} → HeadAt ws at levels k d
    → head_step ws sort.Expr at k d ≡ given first → {count : ℕ} → count ≡ part_count k d (get_or ws (at + 1) 0)
    → next_of (read_at levels ws sort.Expr at) ≡ exprs_step (levels - 1) ws count first
node_exprs {levels} {at} {k} {d} {first} {ws} here own e =
    node_parts_lem sort.Expr refl here own
    ∙ ap₂ (λ (sorts : ℕ → Sort) (n : ℕ). parts_step (λ s q. next_of (read_at (levels - 1) ws s q)) sorts n 0 first)
    (fun_ext (part_told ws at k d own)) (sym e)
