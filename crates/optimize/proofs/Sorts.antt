-- Valid expressions and targets by their sorts: what sort their parts are of, that passed they are no heavier, and that
-- they have no more foldable places than words.
-- Assumes nothing.
use mathlib.Core.Bool.{Bool, true, false, cond, false≢true}
use mathlib.Core.List.{[], ◌∷◌}
use mathlib.Core.Path.{◌≡◌, refl, ap, sym, subst}
use Prim.Native.Nat.{ℕ, suc, ◌≤◌, ◌<◌}
use native.Mathlib.Omega.{arith}
use borrow.Author.Tests.{ne_eqb}
use lib.Dec.{eqb}
use lib.ListN.{length}
use Rattle.spec.specs.Rose.{Rose, Roses, node, nil, cons, size, sizes, own_of, parts_of}
use Rattle.spec.specs.Rose.{count as countR}
use Rattle.spec.specs.Grammar.{kind_in, detail_in, within, part_sort, is_list, Valid, Valids}
use Rattle.spec.specs.Meaning.{expr_of, target_of}
use Rattle.spec.specs.Weight.{weight, weights}
use Rattle.spec.specs.Views.{kind_of}
use Rattle.spec.specs.declared.Sort.{Sort}
use Rattle.spec.specs.declared.Sort.TheVariants as sort
use Rattle.spec.proofs.Heads
use Rattle.spec.proofs.Heads.{expr_head_lem, TargetHead, single, target_head_lem, within_high}
use Rattle.spec.proofs.Meanings.{valids_as, rose_expr, expr_parts}
use Rattle.spec.proofs.Targets.{rose_target, single_target}
use Rattle.spec.proofs.Weights.{rose_weight, optimize_weight, optimize_target_weight}
use Rattle.tables.specs.Kinds.{expr_number}
use Rattle.tables.specs.declared.exprs.ExprKind.{ExprKind}
use Rattle.tables.proofs.Nones.{expr_kinds}
use Rattle.tables.specs.Finds.{expr_kind}
use Rattle.optimize.specs.Passed.{is_part, passed, places, passed_all, places_all}
use Rattle.spec.proofs.Counts.{expr_places, target_places}
use Rattle.optimize.proofs.Renewals.{inner}

-- ---- by sort

pub by_sort : (P : Sort → Rose → Type 0) → ((r : Rose) → Valid sort.Expr r → P sort.Expr r)
    → ((r : Rose) → Valid sort.Target r → P sort.Target r) → ((r : Rose) → Valid sort.Target r → P sort.Single r)
    → (s : Sort) (r : Rose) → is_part s ≡ true → Valid s r → P s r
by_sort P f g h sort.Expr r p v = f r v
by_sort P f g h sort.Target r p v = g r v
by_sort P f g h sort.Single r p v = h r (single_target r v)
by_sort P f g h sort.Stmt r p v = absurd (false≢true p)
by_sort P f g h sort.List r p v = absurd (false≢true p)

-- no list
pub no_list : (s : Sort) → is_part s ≡ true → is_list s ≡ false
no_list sort.Expr p = refl
no_list sort.Target p = refl
no_list sort.Single p = refl
no_list sort.Stmt p = refl
no_list sort.List p = absurd (false≢true p)

-- ---- kinds

-- an expression's kind is one of sixteen
expr_within : (r : Rose) → Valid sort.Expr r → within 1 16 (kind_of r) ≡ true
expr_within (node t [] ps) v = absurd v.1
expr_within (node t (h ∷ pay) ps) v =
    expr_kinds {k = kind_in h} {d = detail_in h} (expr_head_lem (kind_in h) (detail_in h) v.1.head)

pub no_expr : (r : Rose) → Valid sort.Expr r → ((kind : ExprKind) → expr_number kind ≡ kind_of r → ⊥) → ⊥
no_expr r v f = expr_kind (kind_of r) (expr_within r v) f

-- a target's kind, and the sort of its parts
target_high : {k d : ℕ} → TargetHead k d → (64 ≤ k) × ((i : ℕ) → part_sort k i ≡ inner k)
target_high Heads.tuple_target = (omega arith, λ i. refl)
target_high (single Heads.dot) = (omega arith, λ i. refl)
target_high (single Heads.index) = (omega arith, λ i. refl)
target_high (single Heads.local_slot) = (omega arith, λ i. refl)
target_high (single Heads.captured_slot) = (omega arith, λ i. refl)
target_high (single Heads.module_slot) = (omega arith, λ i. refl)

pub expr_kind_lem : (r : Rose) → Valid sort.Expr r → kind_of r < 64
expr_kind_lem r v = let high = within_high 1 16 (kind_of r) (expr_within r v) in omega arith

pub target_kind : (r : Rose) → Valid sort.Target r → 64 ≤ kind_of r
target_kind (node t [] ps) v = absurd v.1
target_kind (node t (h ∷ pay) ps) v = (target_high (target_head_lem (kind_in h) (detail_in h) v.1.head)).0

-- ---- parts

pub inner_part : (k : ℕ) → is_part (inner k) ≡ true
inner_part k = go (eqb k 66)
  where
    go : (b : Bool) → is_part (cond b sort.Target sort.Expr) ≡ true
    go true = refl
    go false = refl

pub inner_expr : (k : ℕ) → k < 64 → inner k ≡ sort.Expr
inner_expr k l = ap (λ (b : Bool). cond b sort.Target sort.Expr) (ne_eqb k 66 (λ e. omega arith))

target_parts : (r : Rose) → Valid sort.Target r → Valids (λ (i : ℕ). inner (kind_of r)) 0 (parts_of r)
target_parts (node t [] ps) v = absurd v.1
target_parts (node t (h ∷ pay) ps) v =
    let each = (target_high (target_head_lem (kind_in h) (detail_in h) v.1.head)).1 in
    valids_as (part_sort (kind_in h)) (λ (i : ℕ). inner (kind_in h)) each ps 0 v.2

pub inner_parts : (s : Sort) (r : Rose) → is_part s ≡ true → Valid s r
    → Valids (λ (i : ℕ). inner (kind_of r)) 0 (parts_of r)
inner_parts =
    by_sort (λ s r. Valids (λ (i : ℕ). inner (kind_of r)) 0 (parts_of r))
    (λ r v. subst (λ (s : Sort). Valids (λ (i : ℕ). s) 0 (parts_of r))
    (sym (inner_expr (kind_of r) (expr_kind_lem r v)))
    (expr_parts r v))
    target_parts target_parts

-- a node has a word
pub own_some : (s : Sort) (r : Rose) → is_part s ≡ true → Valid s r → 1 ≤ length (own_of r)
own_some s (node t [] ps) p v = absurd v.1
own_some s (node t (h ∷ pay) ps) p v = omega arith

-- ---- weights, words and places

pub passed_weight : (s : Sort) (r : Rose) → is_part s ≡ true → Valid s r → weight (passed s r) ≤ weight r
passed_weight =
    by_sort (λ s r. weight (passed s r) ≤ weight r)
    (λ r v. subst (λ (q : Rose). weight (passed sort.Expr r) ≤ weight q) (rose_expr r v) (optimize_weight (expr_of r)))
    target target
  where
    target : (r : Rose) → Valid sort.Target r → weight (passed sort.Target r) ≤ weight r
    target r v =
        subst (λ (q : Rose). weight (passed sort.Target r) ≤ weight q) (rose_target r v)
        (optimize_target_weight (target_of r))

pub passed_size : (s : Sort) (r : Rose) → is_part s ≡ true → Valid s r → size (passed s r) ≤ weight r
passed_size s r p v = omega (arith, passed_weight s r p v, (rose_weight (passed s r)).0)

pub places_size : (s : Sort) (r : Rose) → is_part s ≡ true → Valid s r → places s r ≤ size r
places_size =
    by_sort (λ s r. places s r ≤ size r)
    (λ r v. subst (λ (q : Rose). places sort.Expr r ≤ size q) (rose_expr r v) (expr_places (expr_of r))) target target
  where
    target : (r : Rose) → Valid sort.Target r → places sort.Target r ≤ size r
    target r v =
        subst (λ (q : Rose). places sort.Target r ≤ size q) (rose_target r v) (target_places (target_of r))

-- as many as there were
pub passed_many : (s : Sort) (ps : Roses) → countR (passed_all s ps) ≡ countR ps
passed_many s nil = refl
passed_many s (cons q ps) = ap suc (passed_many s ps)

-- of all of them
module _ (s : Sort) (p : is_part s ≡ true) where
  pub passed_sizes : (ps : Roses) (i : ℕ) → Valids (λ (j : ℕ). s) i ps → sizes (passed_all s ps) ≤ weights ps
  passed_sizes nil i v = omega arith
  passed_sizes (cons q ps) i v = omega (arith, passed_size s q p v.0, passed_sizes ps (suc i) v.1)

  pub places_sizes : (ps : Roses) (i : ℕ) → Valids (λ (j : ℕ). s) i ps → places_all s ps ≤ sizes ps
  places_sizes nil i v = omega arith
  places_sizes (cons q ps) i v = omega (arith, places_size s q p v.0, places_sizes ps (suc i) v.1)
