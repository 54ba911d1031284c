-- What the header words of statements and targets ask for: payload words, and what is read behind them.
-- Assumes nothing.
use mathlib.Core.Bool.{Bool, true, false, ◌||◌}
use mathlib.Core.List.{List, [], ◌∷◌}
use mathlib.Core.Path.{◌≡◌, refl, ap, sym, subst, ◌∙◌}
use Prim.Native.Nat.{ℕ, ◌+◌, ◌-◌, ◌≤◌, ◌<◌}
use native.Mathlib.Decide.{ℕ_discrete}
use native.Mathlib.Omega.{arith}
use borrow.Author.Tests.{lt-ltb, le-leb, eqb-true, ne_eqb}
use lib.Dec.{eqb}
use lib.ListN.{length, get_or}
use Rattle.spec.specs.Grammar.{part_sort}
use Rattle.spec.specs.Reading.{read_at}
use Rattle.spec.specs.declared.Sort.{Sort}
use Rattle.spec.specs.declared.Sort.TheVariants as sort
use Rattle.steps.specs.Steps.{next_of}
use Rattle.steps.specs.Quick.{HeadAt, WordAt}
use Rattle.steps.proofs.Decompose.{pay_ends, parts_end}
use Rattle.steps.proofs.Nodes.{pay_one, pay_two, head_told, word_head, node_pay, node_bare, parts_from}
use Rattle.steps.proofs.Nodes.{node_starts, read_each, parts_goes, single_target}

-- what holds of both words holds of a word that is one of them
either : (P : ℕ → Type 0) (n a b : ℕ) → P a → P b → eqb n a || eqb n b ≡ true → P n
either P n a b x y = go (eqb n a) refl
  where
    go : (t : Bool) → eqb n a ≡ t → t || eqb n b ≡ true → P n
    go true e q = subst P (sym (eqb-true n a e)) x
    go false e q = subst P (sym (eqb-true n b q)) y

-- the word that `get` gives stands there, and `checked_sub` leaves a level for it
pub word_at : {ws : List ℕ} {at levels below word h : ℕ} → (at < length ws) × ((d : ℕ) → word ≡ get_or ws at d)
    → (1 ≤ levels) × (below ≡ levels - 1) → word ≡ h → WordAt ws at levels h
word_at there left e =
    record { inside = there.0; level = omega (arith, left.0); is_word = sym e ∙ there.1 0 }

module _ (ws : List ℕ) (at levels : ℕ) where
  -- with this header word, these are read from a place on
  abbrev Reads : Sort → List Sort → ℕ → ℕ → Type 0
  Reads s ss first h = WordAt ws at levels h → next_of (read_at levels ws s at) ≡ read_each (levels - 1) ws ss first

  -- ---- statements

  -- PossibleGc, Break, Continue
  pub alone_reads : (h : ℕ) → eqb h 32 || (eqb h 39 || eqb h 40) ≡ true → Reads sort.Stmt [] (at + 1) h
  alone_reads h e = elim (ℕ_discrete h 32) [
    | yes q ↦ subst (Reads sort.Stmt [] (at + 1)) (sym q) (λ here. node_bare sort.Stmt refl (word_head here) refl refl)
    | no u ↦ either (Reads sort.Stmt [] (at + 1)) h 39 40 (λ here. node_bare sort.Stmt refl (word_head here) refl refl)
        (λ here. node_bare sort.Stmt refl (word_head here) refl refl)
        (sym (ap (λ (t : Bool). t || (eqb h 39 || eqb h 40)) (ne_eqb h 32 u)) ∙ e)
  ]

  -- Return, Expr
  pub value_reads : (h : ℕ) → eqb h 33 || eqb h 34 ≡ true → Reads sort.Stmt (sort.Expr ∷ []) (at + 1) h
  value_reads h =
      either (Reads sort.Stmt (sort.Expr ∷ []) (at + 1)) h 33 34
      (λ here. node_bare sort.Stmt refl (word_head here) refl refl)
      (λ here. node_bare sort.Stmt refl (word_head here) refl refl)

  pub assign_reads : at + 1 < length ws → Reads sort.Stmt (sort.Target ∷ sort.Expr ∷ []) (at + 1 + 1) 35
  assign_reads m here = node_pay sort.Stmt refl (word_head here) refl (pay_one ws (at + 1) 35 0 m refl refl)

  pub modify_reads : (d : ℕ) → d ≤ 10 → HeadAt ws at levels 36 d
      → next_of (read_at levels ws sort.Stmt at) ≡ read_each (levels - 1) ws (sort.Single ∷ sort.Expr ∷ []) (at + 1)
  modify_reads d l here = node_bare sort.Stmt refl here (le-leb d 10 l) refl

  pub if_reads : Reads sort.Stmt (sort.Expr ∷ sort.List ∷ sort.List ∷ []) (at + 1) 37
  if_reads here = node_bare sort.Stmt refl (word_head here) refl refl

  pub for_reads : Reads sort.Stmt (sort.Target ∷ sort.Expr ∷ sort.List ∷ []) (at + 1) 38
  for_reads here = node_bare sort.Stmt refl (word_head here) refl refl

  -- ---- targets

  module _ (m : at + 1 < length ws) where
    -- Local, captured
    pub slot_reads : (h : ℕ) → eqb h 67 || eqb h 68 ≡ true → Reads sort.Single [] (at + 1 + 1) h
    slot_reads h =
        either (Reads sort.Single [] (at + 1 + 1)) h 67 68
        (λ here. node_pay sort.Single refl (word_head here) refl (pay_one ws (at + 1) 67 0 m refl refl))
        (λ here. node_pay sort.Single refl (word_head here) refl (pay_one ws (at + 1) 68 0 m refl refl))

    pub module_reads : at + 1 + 1 < length ws → get_or ws (at + 1 + 1) 0 < 65536
        → Reads sort.Single [] (at + 1 + 1 + 1) 69
    module_reads n l here =
        node_pay sort.Single refl (word_head here) refl (pay_two ws (at + 1) 69 0 m refl refl n (lt-ltb _ 65536 l))

    pub dot_reads : get_or ws (at + 1) 0 < 65536 → Reads sort.Single (sort.Expr ∷ []) (at + 1 + 1) 64
    dot_reads l here =
        node_pay sort.Single refl (word_head here) refl (pay_one ws (at + 1) 64 0 m (lt-ltb _ 65536 l) refl)

  pub index_reads : Reads sort.Single (sort.Expr ∷ sort.Expr ∷ []) (at + 1) 65
  index_reads here = node_bare sort.Single refl (word_head here) refl refl

  pub tuple_starts : (d : ℕ) → HeadAt ws at levels 66 d
      → next_of (read_at levels ws sort.Target at) ≡ parts_from (levels - 1) ws (part_sort 66) d 0 (at + 1)
  tuple_starts d here =
      node_starts sort.Target refl here
      (head_told sort.Target ws at 66 d refl (pay_ends ws (at + 1) 66 d 0 (at + 1) (omega arith))) d refl

-- what the check applies in `target_end`
pub ruleset target_parts = (single_target, tuple_starts, parts_goes, parts_end)
