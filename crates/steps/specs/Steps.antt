-- Reading step by step, as the code goes: places only, no trees. proofs/Decompose.antt proves that it is the
-- reading of `spec`.
use Rattle.std.specs.Prelude.{Bool, true, false, cond, List, ℕ, zero, suc, ◌+◌, ◌-◌, eqb, ltb, length, get_or}
use Rattle.spec.specs.Outcome.{Outcome, given, refused}
use Rattle.spec.specs.Grammar.{kind_in, detail_in, head_right, rules, part_count, is_list, sorts_by}
use Rattle.spec.specs.Reading.{Got, bind, read_pay, read_at}
use Rattle.spec.specs.declared.Sort.{Sort}
use Rattle.spec.specs.declared.Sort.TheVariants as sort

-- where reading goes on
abbrev pub next_of : {A : Type 0} → Outcome (Got A) → Outcome ℕ
next_of (given g) = given g.next
next_of (refused number place) = refused number place

-- the payload words of a node, and its header with them
abbrev pub pay_step : List ℕ → ℕ → ℕ → ℕ → Outcome ℕ
pay_step ws at k d = next_of (read_pay ws d (rules k d (get_or ws at 0)) at)

abbrev pub head_step : List ℕ → Sort → ℕ → ℕ → ℕ → Outcome ℕ
head_step ws s at k d = cond (head_right s k d) (pay_step ws (at + 1) k d) (refused 9 at)

-- the own words of a list, and of a node
abbrev pub own_by : Bool → ℕ → List ℕ → Sort → ℕ → Outcome ℕ
own_by true levels ws s at = given (at + 1)
own_by false levels ws s at =
    cond (eqb levels 0) (refused 7 at) (head_step ws s at (kind_in (get_or ws at 0)) (detail_in (get_or ws at 0)))

unfoldable pub own_step : ℕ → List ℕ → Sort → ℕ → Outcome ℕ
own_step levels ws s at = cond (ltb at (length ws)) (own_by (is_list s) levels ws s at) (refused 8 at)

-- what is left of the levels, how many parts there are, and what part i is
abbrev pub under : ℕ → Sort → ℕ
under levels s = cond (is_list s) levels (levels - 1)

abbrev pub count_in : Sort → ℕ → ℕ → ℕ
count_in s h w = cond (is_list s) h (part_count (kind_in h) (detail_in h) w)

abbrev pub sort_in : Sort → ℕ → ℕ → Sort
sort_in s h i = sorts_by (is_list s) h i

-- n parts one by one, from part i on
unfoldable pub parts_step : (Sort → ℕ → Outcome ℕ) → (ℕ → Sort) → ℕ → ℕ → ℕ → Outcome ℕ
parts_step read sorts zero i p = given p
parts_step read sorts (suc n) i p = bind (read (sorts i) p) (parts_step read sorts n (suc i))

-- n expressions one by one, each with so many levels left
abbrev pub exprs_step : ℕ → List ℕ → ℕ → ℕ → Outcome ℕ
exprs_step levels ws n at = parts_step (λ s p. next_of (read_at levels ws s p)) (λ i. sort.Expr) n 0 at
