-- The quick walk over a node of any sort: own words, then the parts, each to its end.
-- Assumes nothing.
use mathlib.Core.Bool.{Bool, true, false, cond}
use mathlib.Core.List.{List, [], ◌∷◌}
use mathlib.Core.Path.{◌≡◌, refl, ap, ap₂, sym, fun_ext, ◌∙◌}
use Prim.Native.Nat.{ℕ, zero, suc, ◌+◌, ◌-◌, ◌<◌}
use native.Mathlib.Nat.{sub-zero}
use native.Mathlib.Omega.{arith}
use Rattle.std.proofs.lemmas.Grind.{common_steps}
use borrow.Author.Tests.{lt-ltb, ne_eqb}
use lib.ListN.{length, get_or}
use lib.Dec.{eqb}
use Rattle.std.specs.Option.{option_eq}
use Rattle.std.specs.Prelude.{Option, Some}
use Rattle.spec.specs.Outcome.{Outcome, given}
use Rattle.spec.specs.Grammar.{kind_in, detail_in, head_right, part_count, part_sort, is_list, sorts_by}
use Rattle.spec.specs.Reading.{bind, read_at}
use Rattle.spec.specs.declared.Sort.{Sort}
use Rattle.spec.specs.declared.Sort.TheVariants as sort
use Rattle.tables.specs.Payload.{pay_count, pay_right}
use Rattle.steps.specs.Steps.{next_of, pay_step, head_step, own_step, parts_step, exprs_step}
use Rattle.steps.specs.Quick.{Quick, HeadAt, WordAt}
use Rattle.steps.proofs.Decompose.{pay_goes, pay_ends, parts_at, read_steps, parts_start, part_goes}

-- two readings that are the same
pub as_read : {read other : Outcome ℕ} (end : Option ℕ) → read ≡ other → Quick other end → Quick read end
as_read end e q = grind (arith, common_steps)

-- the place that is told is this one
pub read_to : {read : Outcome ℕ} {n : ℕ} (end : Option ℕ) → Quick read end → true ≡ option_eq eqb end (Some n)
    → read ≡ given n
read_to end q same = grind (arith, common_steps)

-- ---- own words

-- one payload word, or two
module _ (ws : List ℕ) (at k d : ℕ) (l : at < length ws) (right : pay_right k d 0 (get_or ws at 0) ≡ true) where
  pub pay_one : pay_count k d (get_or ws at 0) ≡ 1 → pay_step ws at k d ≡ given (at + 1)
  pay_one n = pay_goes ws at k d 0 at (omega arith) l right ∙ pay_ends ws at k d 1 (at + 1) (omega arith)

  pub pay_two : pay_count k d (get_or ws at 0) ≡ 2 → at + 1 < length ws → pay_right k d 1 (get_or ws (at + 1) 0) ≡ true
      → pay_step ws at k d ≡ given (at + 1 + 1)
  pay_two n m more =
      pay_goes ws at k d 0 at (omega arith) l right
      ∙ pay_goes ws at k d 1 (at + 1) (omega arith) m more
      ∙ pay_ends ws at k d 2 (at + 1 + 1) (omega arith)

-- a right header, and then the payload
pub head_told : (s : Sort) (ws : List ℕ) (at k d : ℕ) → head_right s k d ≡ true → {end : ℕ}
    → pay_step ws (at + 1) k d ≡ given end
    → head_step ws s at k d ≡ given end
head_told s ws at k d e p = simp e p

pub word_head : {ws : List ℕ} {at levels h : ℕ} → WordAt ws at levels h → HeadAt ws at levels (kind_in h) (detail_in h)
word_head here = record {
  inside = here.inside;
  level = here.level;
  is_kind = ap kind_in here.is_word;
  is_detail = ap detail_in here.is_word;
}

-- ---- parts

-- one after another, from a place on, each with so many levels left
abbrev pub read_each : ℕ → List ℕ → List Sort → ℕ → Outcome ℕ
read_each levels ws [] p = given p
read_each levels ws (s ∷ ss) p = bind (next_of (read_at levels ws s p)) (read_each levels ws ss)

-- the sorts of n parts, from part i on
abbrev pub sorts_from : (ℕ → Sort) → ℕ → ℕ → List Sort
sorts_from sorts zero i = []
sorts_from sorts (suc n) i = sorts i ∷ sorts_from sorts n (suc i)

module _ (levels : ℕ) (ws : List ℕ) where
  -- parts of these sorts from part i on
  abbrev pub parts_from : (ℕ → Sort) → ℕ → ℕ → ℕ → Outcome ℕ
  parts_from sorts count i next = parts_step (λ s q. next_of (read_at levels ws s q)) sorts (count - i) i next

  pub parts_goes : (sorts : ℕ → Sort) (count i next : ℕ) → i < count → {s : Sort} → sorts i ≡ s → {end : ℕ}
      → next_of (read_at levels ws s next) ≡ given end
      → parts_from sorts count i next ≡ parts_from sorts count (i + 1) end
  parts_goes sorts count i next l is-sort e =
      part_goes (λ s q. next_of (read_at levels ws s q)) sorts count i next l
      (ap (λ (s : Sort). next_of (read_at levels ws s next)) is-sort ∙ e)

  parts_each : (sorts : ℕ → Sort) (n i p : ℕ)
      → parts_step (λ s q. next_of (read_at levels ws s q)) sorts n i p ≡ read_each levels ws (sorts_from sorts n i) p
  unfolding parts_step
  parts_each sorts zero i p = refl
  parts_each sorts (suc n) i p =
      ap (bind (next_of (read_at levels ws (sorts i) p))) (fun_ext (λ q. parts_each sorts n (suc i) q))

  -- one, two, three of them: the last is what is left to read
  each_goes : (s : Sort) (ss : List Sort) (p : ℕ) {q : ℕ} → next_of (read_at levels ws s p) ≡ given q
      → read_each levels ws (s ∷ ss) p ≡ read_each levels ws ss q
  each_goes s ss p e = ap (λ (o : Outcome ℕ). bind o (read_each levels ws ss)) e

  pub each_one : (s : Sort) (p : ℕ) → read_each levels ws (s ∷ []) p ≡ next_of (read_at levels ws s p)
  each_one s p = grind (arith, common_steps)

  pub each_two : (s t : Sort) (p : ℕ) {q : ℕ} → next_of (read_at levels ws s p) ≡ given q
      → read_each levels ws (s ∷ t ∷ []) p ≡ next_of (read_at levels ws t q)
  each_two s t p {q} e = each_goes s (t ∷ []) p e ∙ each_one t q

  pub each_three : (s t u : Sort) (p : ℕ) {q r : ℕ} → next_of (read_at levels ws s p) ≡ given q
      → next_of (read_at levels ws t q) ≡ given r
      → read_each levels ws (s ∷ t ∷ u ∷ []) p ≡ next_of (read_at levels ws u r)
  each_three s t u p {q} e f = each_goes s (t ∷ u ∷ []) p e ∙ each_two t u q f

  -- expressions: none, from the first on, and one alone
  pub exprs_none : (count at : ℕ) → count ≡ 0 → exprs_step levels ws count at ≡ given at
  unfolding parts_step
  exprs_none count at none = ap (λ (n : ℕ). exprs_step levels ws n at) none

  pub exprs_start : (count at : ℕ) → exprs_step levels ws count at ≡ parts_from (λ i. sort.Expr) count 0 at
  exprs_start count at =
      ap (λ (n : ℕ). parts_step (λ s q. next_of (read_at levels ws s q)) (λ i. sort.Expr) n 0 at) (sym (sub-zero count))

  pub exprs_one : (at : ℕ) → exprs_step levels ws 1 at ≡ next_of (read_at levels ws sort.Expr at)
  exprs_one at = parts_each (λ i. sort.Expr) 1 0 at ∙ each_one sort.Expr at

-- ---- a node

module _ (s : Sort) (no_list : is_list s ≡ false) {levels at k d first : ℕ} {ws : List ℕ}
    (here : HeadAt ws at levels k d) (own : head_step ws s at k d ≡ given first) where
  own_told : own_step levels ws s at ≡ given first
  unfolding own_step
  own_told =
      simp (lt-ltb _ _ here.inside, no_list, ne_eqb levels 0 (λ z. omega arith))
      (ap₂ (head_step ws s at) (sym here.is_kind) (sym here.is_detail) ∙ own)

  -- own words that are read leave the parts
  pub node_parts_lem : next_of (read_at levels ws s at)
      ≡ parts_step (λ t q. next_of (read_at (levels - 1) ws t q)) (part_sort k) (part_count k d (get_or ws (at + 1) 0))
      0 first
  node_parts_lem =
      let h = get_or ws at 0 in
      let w = get_or ws (at + 1) 0 in
      read_steps levels ws s at
      ∙ ap (λ (o : Outcome ℕ). bind o (parts_at levels ws s at)) own_told
      ∙ ap (λ (b : Bool). parts_step (λ t q. next_of (read_at (cond b levels (levels - 1)) ws t q)) (sorts_by b h)
      (cond b h (part_count (kind_in h) (detail_in h) w)) 0 first) no_list
      ∙ ap₂ (λ (x y : ℕ). parts_step (λ t q. next_of (read_at (levels - 1) ws t q)) (part_sort x) (part_count x y w) 0
      first)
      (sym here.is_kind) (sym here.is_detail)

  pub node_starts : (count : ℕ) → count ≡ part_count k d (get_or ws (at + 1) 0)
      → next_of (read_at levels ws s at) ≡ parts_from (levels - 1) ws (part_sort k) count 0 first
  node_starts count e =
      node_parts_lem
      ∙ ap (λ (n : ℕ). parts_step (λ t q. next_of (read_at (levels - 1) ws t q)) (part_sort k) n 0 first)
      (sym e ∙ sym (sub-zero count))

-- what a node with this header reads as: its parts, behind its payload
module _ (s : Sort) (no_list : is_list s ≡ false) {levels at k d : ℕ} {ws : List ℕ} (here : HeadAt ws at levels k d)
  where
    abbrev Reads : ℕ → Type 0
    Reads first =
        next_of (read_at levels ws s at)
        ≡ read_each (levels - 1) ws (sorts_from (part_sort k) (part_count k d (get_or ws (at + 1) 0)) 0) first

    pub node_each : {first : ℕ} → head_step ws s at k d ≡ given first → Reads first
    node_each own =
        node_parts_lem s no_list here own
        ∙ parts_each (levels - 1) ws (part_sort k) (part_count k d (get_or ws (at + 1) 0)) 0 _

    pub node_pay : head_right s k d ≡ true → {first : ℕ} → pay_step ws (at + 1) k d ≡ given first → Reads first
    node_pay right pay = node_each (head_told s ws at k d right pay)

    pub node_bare : head_right s k d ≡ true → pay_count k d (get_or ws (at + 1) 0) ≡ 0 → Reads (at + 1)
    node_bare right n = node_pay right (pay_ends ws (at + 1) k d 0 (at + 1) (omega arith))

-- a list is its count and its statements
pub list_starts : (levels : ℕ) (ws : List ℕ) (at : ℕ) → at < length ws → (count : ℕ) → count ≡ get_or ws at 0
    → next_of (read_at levels ws sort.List at) ≡ parts_from levels ws (λ i. sort.Stmt) count 0 (at + 1)
unfolding own_step
list_starts levels ws at l count e =
    parts_start levels ws sort.List at (at + 1) _ _ count levels (simp (lt-ltb at (length ws) l)) refl refl e refl

-- a target that is no tuple
pub single_target : (levels : ℕ) (ws : List ℕ) (at : ℕ) → (kind_in (get_or ws at 0) ≡ 66 → ⊥)
    → next_of (read_at levels ws sort.Target at) ≡ next_of (read_at levels ws sort.Single at)
unfolding own_step
single_target levels ws at n =
    read_steps levels ws sort.Target at ∙ (simp (ne_eqb _ 66 n)) ∙ sym (read_steps levels ws sort.Single at)
