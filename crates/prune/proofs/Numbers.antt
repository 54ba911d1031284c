-- Reading words refuses by 5, for their count, or by 7 or more.
-- Assumes nothing.
use mathlib.Core.Bool.{Bool, true, false, cond}
use mathlib.Core.List.{List, [], ◌∷◌}
use mathlib.Core.Path.{◌≡◌}
use Prim.Native.Nat.{ℕ, zero, suc, ◌+◌, ◌≤◌}
use native.Mathlib.Omega.{arith}
use lib.Dec.{ltb}
use lib.ListN.{length, get_or}
use Rattle.spec.specs.Outcome.{Outcome, given, refused}
use Rattle.spec.specs.Blocks.{count_right}
use Rattle.spec.specs.Rose.{Rose, Roses, node, cons}
use Rattle.spec.specs.Grammar.{kind_in, detail_in, head_right, Rule, word_right, rules, part_count, part_sort, made}
use Rattle.spec.specs.Reading.{Got, bind, map_got, read_pay, read_parts, read_list, read_any, read_body, read_node}
use Rattle.spec.specs.Reading.{read_at}
use Rattle.spec.specs.Reading.{whole, read_words}
use Rattle.spec.specs.declared.Sort.{Sort}
use Rattle.spec.specs.declared.Sort.TheVariants as sort

-- a refusal is 7 or more
abbrev pub Late : {A : Type 0} → Outcome A → Type 0
Late (given a) = Unit {0}
Late (refused number place) = 7 ≤ number

late_cond : {A : Type 0} (b : Bool) (x y : Outcome A) → Late x → Late y → Late (cond b x y)
late_cond true x y p q = p
late_cond false x y p q = q

late_bind : {A B : Type 0} (o : Outcome A) (f : A → Outcome B) → Late o → ((a : A) → Late (f a)) → Late (bind o f)
late_bind (given a) f p q = q a
late_bind (refused number place) f p q = p

late_map : {A B : Type 0} (f : A → B) (o : Outcome (Got A)) → Late o → Late (map_got f o)
late_map f (given g) p = tt
late_map f (refused number place) p = p

late_pay : (ws : List ℕ) (d : ℕ) (rs : List Rule) (p : ℕ) → Late (read_pay ws d rs p)
unfolding read_pay
late_pay ws d [] p = tt
late_pay ws d (r ∷ rs) p =
    late_cond (ltb p (length ws)) _ (refused 8 p)
    (late_cond (word_right r d (get_or ws p 0)) _ (refused 9 p)
    (late_map (λ (pay : List ℕ). get_or ws p 0 ∷ pay) (read_pay ws d rs (p + 1)) (late_pay ws d rs (p + 1)))
    (omega arith))
    (omega arith)

module _ (read : Sort → ℕ → Outcome (Got Rose)) (late : (s : Sort) (p : ℕ) → Late (read s p)) where
  late_parts : (sorts : ℕ → Sort) (n i p : ℕ) → Late (read_parts read sorts n i p)
  unfolding read_parts
  late_parts sorts zero i p = tt
  late_parts sorts (suc n) i p =
      late_bind (read (sorts i) p) _ (late (sorts i) p)
      (λ g. late_map (λ (ps : Roses). cons g.what ps) (read_parts read sorts n (suc i) g.next)
      (late_parts sorts n (suc i) g.next))

  late_list : (ws : List ℕ) (at : ℕ) → Late (read_list read ws at)
  unfolding read_list
  late_list ws at =
      late_cond (ltb at (length ws)) _ (refused 8 at)
      (late_map (λ (ps : Roses). node sort.List (get_or ws at 0 ∷ []) ps)
      (read_parts read (λ i. sort.Stmt) (get_or ws at 0) 0 (at + 1))
      (late_parts (λ i. sort.Stmt) (get_or ws at 0) 0 (at + 1)))
      (omega arith)

  late_any : (ws : List ℕ) (s : Sort) (at : ℕ) → Late (read_any read ws s at)
  late_any ws sort.Expr at = late sort.Expr at
  late_any ws sort.Target at = late sort.Target at
  late_any ws sort.Single at = late sort.Single at
  late_any ws sort.Stmt at = late sort.Stmt at
  late_any ws sort.List at = late_list ws at

  late_body : (ws : List ℕ) (s : Sort) (h at : ℕ) → Late (read_body read ws s h at)
  unfolding read_body
  late_body ws s h at =
      let rs = rules (kind_in h) (detail_in h) (get_or ws (at + 1) 0) in
      let n = part_count (kind_in h) (detail_in h) (get_or ws (at + 1) 0) in
      late_bind (read_pay ws (detail_in h) rs (at + 1)) _ (late_pay ws (detail_in h) rs (at + 1))
      (λ pay. late_map (λ (ps : Roses). node (made s) (h ∷ pay.what) ps)
      (read_parts read (part_sort (kind_in h)) n 0 pay.next) (late_parts (part_sort (kind_in h)) n 0 pay.next))

late_node : (levels : ℕ) (ws : List ℕ) (s : Sort) (at : ℕ) → Late (read_node levels ws s at)
unfolding read_node
late_node zero ws s at = late_cond (ltb at (length ws)) (refused 7 at) (refused 8 at) (omega arith) (omega arith)
late_node (suc levels) ws s at =
    late_cond (ltb at (length ws)) _ (refused 8 at)
    (late_cond (head_right s (kind_in (get_or ws at 0)) (detail_in (get_or ws at 0))) _ (refused 9 at)
    (late_body (read_any (read_node levels ws) ws) (late_any (read_node levels ws) (late_node levels ws) ws) ws s
    (get_or ws at 0) at)
    (omega arith))
    (omega arith)

late_whole : (ws : List ℕ) (o : Outcome (Got Rose)) → Late o → Late (whole ws o)
late_whole ws (given g) p = late_cond (ltb g.next (length ws)) _ (given g.what) (omega arith) tt
late_whole ws (refused number place) p = p

-- words of a right count
pub late_words : (s : Sort) (ws : List ℕ) → count_right (length ws) ≡ true → Late (read_words s ws)
late_words s ws right =
    rw right (late_whole ws (read_at 200 ws s 0) (late_any (read_node 200 ws) (late_node 200 ws) ws s 0))
