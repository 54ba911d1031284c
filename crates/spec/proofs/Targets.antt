-- Targets and valid words of targets are the same thing, as expressions and theirs are (Meanings).
-- Assumes nothing.
use mathlib.Core.List.{List, [], ◌∷◌}
use mathlib.Core.Path.{◌≡◌, refl, ap, ap₂, sym, ◌∙◌}
use Prim.Native.Nat.{ℕ, suc}
use native.Mathlib.Omega.{arith}
use lib.Dec.{eqb}
use lib.ListN.{get_or}
use Rattle.std.proofs.lemmas.Bool.{or_right}
use Rattle.spec.specs.Rose.{Rose, Roses, node, nil, cons, count}
use Rattle.spec.specs.Grammar.{header, kind_in, detail_in, rules, part_count, part_sort, single_head, Valid, Valids}
use Rattle.spec.specs.Tree.{Slot, local_slot, Target, dot, index, tuple_target, slot}
use Rattle.spec.specs.Tree.{Targets, no_targets, more_targets, count_t, rose_t, roses_t}
use Rattle.spec.specs.Proper.{ProperTarget, ProperTargets}
use Rattle.spec.specs.Meaning.{exprs_of, target_by, target_of, targets_of}
use Rattle.spec.specs.declared.Sort.{Sort}
use Rattle.spec.specs.declared.Sort.TheVariants as sort
use Rattle.spec.proofs.Heads
use Rattle.spec.proofs.Heads.{headed_pay, headed_parts}
use Rattle.spec.proofs.Heads.{header_again, kind_of_header, TargetHead, single, target_head_lem, Payload, no_word}
use Rattle.spec.proofs.Heads.{word, payload_view, Many, no_part, part, many_view, many_count}
use Rattle.spec.proofs.Meanings.{valids_as, rose_exprs, proper_exprs, expr_again}

-- ---- a target that is no tuple is a target

-- one of two tests
pub single_target : (r : Rose) → Valid sort.Single r → Valid sort.Target r
single_target (node t [] ps) v = absurd v.1
single_target (node t (h ∷ pay) ps) v = (
  v.0,
  record {
    head = or_right (eqb (kind_in h) 66) (single_head (kind_in h) (detail_in h)) v.1.head;
    ruled = v.1.ruled;
    many = v.1.many;
  },
  v.2,
)

-- ---- words, what they mean, and the words of that

-- as many targets as trees
count_targets : (ps : Roses) → count_t (targets_of ps) ≡ count ps
unfolding targets_of
count_targets nil = refl
count_targets (cons p ps) = ap suc (count_targets ps)

-- a target made of an accepted header, a payload and parts; a tuple's parts are done
target_by_lem : {k d : ℕ} → TargetHead k d → (pay : List ℕ) (ps : Roses)
    → Payload d (rules k d (get_or pay 0 0)) pay → Many (part_count k d (get_or pay 0 0)) ps → Valids (part_sort k) 0 ps
    → (Valids (λ i. sort.Target) 0 ps → roses_t (targets_of ps) ≡ ps)
    → rose_t (target_by k pay (exprs_of ps) (targets_of ps)) ≡ node sort.Target (header k d ∷ pay) ps
unfolding exprs_of
target_by_lem Heads.tuple_target pay ps no_word m v back =
    ap₂ (λ n x. node sort.Target (header 66 n ∷ []) x) (count_targets ps ∙ many_count m) (back v)
target_by_lem (single Heads.dot) pay ps (word {w} e no_word) (part {p} no_part) v back =
    ap (node sort.Target (64 ∷ w ∷ [])) (rose_exprs (cons p nil) 0 v)
target_by_lem (single Heads.index) pay ps no_word (part {p} (part {p = q} no_part)) v back =
    ap (node sort.Target (65 ∷ [])) (rose_exprs (cons p (cons q nil)) 0 v)
target_by_lem (single Heads.local_slot) pay ps (word e no_word) no_part v back = refl
target_by_lem (single Heads.captured_slot) pay ps (word e no_word) no_part v back = refl
target_by_lem (single Heads.module_slot) pay ps (word e (word f no_word)) no_part v back = refl

-- one node
target_own : (t : Sort) (h : ℕ) (pay : List ℕ) (ps : Roses) → Valid sort.Target (node t (h ∷ pay) ps)
    → (Valids (λ i. sort.Target) 0 ps → roses_t (targets_of ps) ≡ ps)
    → rose_t (target_of (node t (h ∷ pay) ps)) ≡ node t (h ∷ pay) ps
unfolding target_of
target_own t h pay ps v back =
    let k = kind_in h in
    let d = detail_in h in
    target_by_lem (target_head_lem k d v.1.head) pay ps (headed_pay v.1) (headed_parts v.1) v.2 back
    ∙ ap₂ (λ s n. node s (n ∷ pay) ps) (sym v.0) (sym (header_again h))

mutual
  unfolding targets_of

  pub rose_target : (r : Rose) → Valid sort.Target r → rose_t (target_of r) ≡ r
  rose_target (node t [] ps) v = absurd v.1
  rose_target (node t (h ∷ pay) ps) v = target_own t h pay ps v (λ w. rose_targets ps 0 w)

  pub rose_targets : (ps : Roses) (i : ℕ) → Valids (λ i. sort.Target) i ps → roses_t (targets_of ps) ≡ ps
  rose_targets nil i v = refl
  rose_targets (cons p ps) i v = ap₂ cons (rose_target p v.0) (rose_targets ps (suc i) v.1)

-- what words mean is proper
proper_by : {k d : ℕ} → TargetHead k d → (pay : List ℕ) (ps : Roses)
    → Many (part_count k d (get_or pay 0 0)) ps → Valids (part_sort k) 0 ps
    → (Valids (λ i. sort.Target) 0 ps → ProperTargets (targets_of ps))
    → ProperTarget (target_by k pay (exprs_of ps) (targets_of ps))
unfolding exprs_of
proper_by Heads.tuple_target pay ps m v each = each v
proper_by (single Heads.dot) pay ps (part {p} no_part) v each = (proper_exprs (cons p nil) 0 v).0
proper_by (single Heads.index) pay ps (part {p} (part {p = q} no_part)) v each =
    let w = proper_exprs (cons p (cons q nil)) 0 v in (w.0, w.1.0)
proper_by (single Heads.local_slot) pay ps m v each = tt
proper_by (single Heads.captured_slot) pay ps m v each = tt
proper_by (single Heads.module_slot) pay ps m v each = tt

proper_own : (t : Sort) (h : ℕ) (pay : List ℕ) (ps : Roses) → Valid sort.Target (node t (h ∷ pay) ps)
    → (Valids (λ i. sort.Target) 0 ps → ProperTargets (targets_of ps)) → ProperTarget (target_of (node t (h ∷ pay) ps))
unfolding target_of
proper_own t h pay ps v each =
    proper_by (target_head_lem (kind_in h) (detail_in h) v.1.head) pay ps
    (headed_parts v.1) v.2 each

mutual
  unfolding targets_of

  pub proper_target : (r : Rose) → Valid sort.Target r → ProperTarget (target_of r)
  proper_target (node t [] ps) v = absurd v.1
  proper_target (node t (h ∷ pay) ps) v = proper_own t h pay ps v (λ w. proper_targets ps 0 w)

  pub proper_targets : (ps : Roses) (i : ℕ) → Valids (λ i. sort.Target) i ps → ProperTargets (targets_of ps)
  proper_targets nil i v = tt
  proper_targets (cons p ps) i v = (proper_target p v.0, proper_targets ps (suc i) v.1)

-- ---- a proper target's words mean that target

-- slots
slot_back : (s : Slot) → target_of (rose_t (slot s)) ≡ slot s
unfolding target_of
slot_back (local_slot n) = refl
slot_back _ = refl

mutual
  unfolding exprs_of target_of targets_of

  pub target_again : (t : Target) → ProperTarget t → Valid sort.Target (rose_t t) → target_of (rose_t t) ≡ t
  target_again (dot t e) p v = ap (dot t) (expr_again e p v.2.0)
  target_again (index x y) p v = ap₂ index (expr_again x p.0 v.2.0) (expr_again y p.1 v.2.1.0)
  target_again (tuple_target ts) p v =
      let h = header 66 (count_t ts) in
      let e = kind_of_header 66 (count_t ts) (omega arith) in
      let w = valids_as (part_sort (kind_in h)) (λ i. sort.Target) (λ i. ap (λ k. part_sort k i) e) (roses_t ts) 0 v.2
      in
      ap (λ k. target_by k [] (exprs_of (roses_t ts)) (targets_of (roses_t ts))) e ∙ ap tuple_target
      (targets_again ts 0 p w)
  target_again (slot s) p v = slot_back s

  pub targets_again : (ts : Targets) (i : ℕ) → ProperTargets ts → Valids (λ i. sort.Target) i (roses_t ts)
      → targets_of (roses_t ts) ≡ ts
  targets_again no_targets i p v = refl
  targets_again (more_targets t ts) i p v =
      ap₂ more_targets (target_again t p.0 v.0) (targets_again ts (suc i) p.1 v.1)
