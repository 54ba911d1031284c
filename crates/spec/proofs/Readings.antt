-- What the reader gives is a tree that stands there and belongs there, no deeper than the levels left (`sound`). Every
-- such tree is given (`complete`), so at most one stands at a place (`unique`). A refusal tells its place
-- (`refused_place`).
-- Assumes nothing.
use mathlib.Core.Bool.{Bool, true, false, cond}
use mathlib.Core.List.{List, [], ◌∷◌}
use mathlib.Core.Logic.{◌⊎◌, inl, inr}
use mathlib.Core.Path.{◌≡◌, refl, ap, ap₂, sym, subst, ◌∙◌}
use Prim.Native.Nat.{ℕ, zero, suc, ◌+◌, ◌≤◌, ◌<◌, max}
use native.Mathlib.Nat.{add-zero, add_assoc}
use native.Mathlib.Omega.{arith}
use borrow.Author.Tests.{ltb-true, ltb-false, lt-ltb, ne_eqb}
use lib.Dec.{ltb}
use lib.ListN.{length, get_or}
use Rattle.std.proofs.lemmas.Grind.{common_steps}
use Rattle.spec.specs.Outcome.{Outcome, given, refused}
use Rattle.spec.specs.Rose.{Rose, Roses, node, nil, cons, count, size, sizes, Words, At, Ats}
use Rattle.spec.specs.Rose.{level, depth, depths}
use Rattle.spec.specs.Grammar.{kind_in, detail_in, head_right, Rule, word_right, rules, part_count, part_sort}
use Rattle.spec.specs.Grammar.{Ruled, Headed, is_list, OwnedBy, sorts_by, sorts_in, made, Valid, Valids}
use Rattle.spec.specs.Reading.{Got, bind, map_got, read_pay, read_parts, read_list, read_any, read_body}
use Rattle.spec.specs.Reading.{read_node, read_at}
use Rattle.spec.specs.Frames.{Stands}
use Rattle.spec.specs.declared.Sort.{Sort}
use Rattle.spec.specs.declared.Sort.TheVariants as sort

-- ---- the first payload word matters to a call alone, whose payload is never empty

-- rules and the count of parts, of any other kind
pub rules_other : (k d w v : ℕ) → (k ≡ 16 → ⊥) → rules k d w ≡ rules k d v
rules_other k d w v n = simp (ne_eqb k 16 n)

pub parts_other : (k d w v : ℕ) → (k ≡ 16 → ⊥) → part_count k d w ≡ part_count k d v
parts_other k d w v n = simp (ne_eqb k 16 n)

-- a call has payload
call_rules : (k d w : ℕ) → Ruled d (rules k d w) [] → k ≡ 16 → ⊥
call_rules k d w r e = subst (λ (k : ℕ). Ruled d (rules k d w) []) e r

-- the word where the payload would begin says what the payload's first word does
record First (k d w v : ℕ) : Type 0 where
  ruled : rules k d w ≡ rules k d v
  many : part_count k d w ≡ part_count k d v

first_word : (ws : List ℕ) (at k d w : ℕ) (pay : List ℕ) → Ruled d (rules k d w) pay → Words ws at pay
    → First k d (get_or ws at 0) (get_or pay 0 0)
first_word ws at k d w [] r t =
    let n : k ≡ 16 → ⊥ = call_rules k d w r in
    record { ruled = rules_other k d (get_or ws at 0) 0 n; many = parts_other k d (get_or ws at 0) 0 n }
first_word ws at k d w (x ∷ pay) r t = record { ruled = ap (rules k d) t.0; many = ap (part_count k d) t.0 }

-- ---- places that take a node, which are all but a list's

-- it makes a node, which is a level
node_level : (s : Sort) → is_list s ≡ false → level (made s) ≡ 1
node_level sort.List e = cc
node_level _ e = refl

-- its own words and the sorts of its parts go by its header
module _ (s : Sort) (plain : is_list s ≡ false) (h : ℕ) (pay : List ℕ) where
  node_owned : (n : ℕ) → OwnedBy (is_list s) s h pay n ≡ Headed s h pay n
  node_owned n = ap (λ (b : Bool). OwnedBy b s h pay n) plain

  node_sorts : (ps : Roses) → Valids (sorts_in s (h ∷ pay)) 0 ps ≡ Valids (part_sort (kind_in h)) 0 ps
  node_sorts ps = ap (λ (b : Bool). Valids (sorts_by b h) 0 ps) plain

-- what a header at a place, and the word behind it, say
module _ (ws : List ℕ) (at : ℕ) where
  abbrev detail_at : ℕ
  detail_at = detail_in (get_or ws at 0)

  abbrev rules_at : List Rule
  rules_at = rules (kind_in (get_or ws at 0)) (detail_in (get_or ws at 0)) (get_or ws (at + 1) 0)

  abbrev count_at : ℕ
  count_at = part_count (kind_in (get_or ws at 0)) (detail_in (get_or ws at 0)) (get_or ws (at + 1) 0)

  abbrev sorts_at : ℕ → Sort
  sorts_at = part_sort (kind_in (get_or ws at 0))

-- whether it belongs at a place of a sort
abbrev head_at : List ℕ → Sort → ℕ → Bool
head_at ws s at = head_right s (kind_in (get_or ws at 0)) (detail_in (get_or ws at 0))

-- ---- what is given stands there, and what a refusal tells

-- a refusal's number and its place
pub record Turned (ws : List ℕ) (number place : ℕ) : Type 0 where
  pub inside : place ≤ length ws
  pub known : (number ≡ 7) ⊎ ((number ≡ 8) ⊎ (number ≡ 9))
  pub early : number ≡ 8 → place ≡ length ws

-- payload words and parts that were read
record PayStands (d : ℕ) (rs : List Rule) (ws : List ℕ) (at : ℕ) (pay : List ℕ) (next : ℕ) : Type 0 where
  here : Words ws at pay
  ends : next ≡ at + length pay
  inside : next ≤ length ws
  ruled : Ruled d rs pay

record PartsStand (levels : ℕ) (sorts : ℕ → Sort) (n i : ℕ) (ws : List ℕ) (at : ℕ) (ps : Roses) (next : ℕ)
    : Type 0 where
  here : Ats ws at ps
  ends : next ≡ at + sizes ps
  inside : next ≤ length ws
  deep : depths ps ≤ levels
  valid : Valids sorts i ps
  many : count ps ≡ n

-- the same of an outcome: what is given stands, and a refusal tells what it does
abbrev GoodPay : ℕ → List Rule → List ℕ → ℕ → Outcome (Got (List ℕ)) → Type 0
GoodPay d rs ws at (given g) = PayStands d rs ws at g.what g.next
GoodPay d rs ws at (refused number place) = Turned ws number place

abbrev GoodParts : ℕ → (ℕ → Sort) → ℕ → ℕ → List ℕ → ℕ → Outcome (Got Roses) → Type 0
GoodParts levels sorts n i ws at (given g) = PartsStand levels sorts n i ws at g.what g.next
GoodParts levels sorts n i ws at (refused number place) = Turned ws number place

-- a tree; a refusal tells nothing where the place is past the words
abbrev Good : ℕ → Sort → List ℕ → ℕ → Outcome (Got Rose) → Type 0
Good levels s ws at (given g) = Stands levels s ws at g.what g.next
Good levels s ws at (refused number place) = at ≤ length ws → Turned ws number place

-- an outcome by a test
by_test : {A : Type 0} (P : Outcome A → Type 0) (b : Bool) (x y : Outcome A) → (b ≡ true → P x) → (b ≡ false → P y)
    → P (cond b x y)
by_test P true x y f g = f refl
by_test P false x y f g = g refl

-- the three refusals
module _ (ws : List ℕ) (p : ℕ) where
  turned_7 : p ≤ length ws → Turned ws 7 p
  turned_7 h = record { inside = h; known = inl refl; early = λ e. absurd (omega arith) }

  turned_8 : p ≡ length ws → Turned ws 8 p
  turned_8 h = record { inside = omega arith; known = inr (inl refl); early = λ e. h }

  turned_9 : p ≤ length ws → Turned ws 9 p
  turned_9 h = record { inside = h; known = inr (inr refl); early = λ e. absurd (omega arith) }

module _ (ws : List ℕ) where
  -- payload words
  pay_more : (d : ℕ) (r : Rule) (rs : List Rule) (p : ℕ) → word_right r d (get_or ws p 0) ≡ true
      → (o : Outcome (Got (List ℕ))) → GoodPay d rs ws (p + 1) o
      → GoodPay d (r ∷ rs) ws p (map_got (λ (pay : List ℕ). get_or ws p 0 ∷ pay) o)
  pay_more d r rs p q o h = grind (arith, common_steps)

  pay_good : (d : ℕ) (rs : List Rule) (p : ℕ) → p ≤ length ws → GoodPay d rs ws p (read_pay ws d rs p)
  unfolding read_pay
  pay_good d [] p l = record { here = tt; ends = omega arith; inside = l; ruled = tt }
  pay_good d (r ∷ rs) p l =
      by_test (GoodPay d (r ∷ rs) ws p) (ltb p (length ws)) _ _
      (λ i. by_test (GoodPay d (r ∷ rs) ws p) (word_right r d (get_or ws p 0)) _ _
      (λ right. pay_more d r rs p right (read_pay ws d rs (p + 1))
      (pay_good d rs (p + 1) (omega (arith, ltb-true p (length ws) i))))
      (λ wrong. turned_9 ws p l))
      (λ o. turned_8 ws p (omega (arith, ltb-false p (length ws) o)))

  module _ (levels : ℕ) (read : Sort → ℕ → Outcome (Got Rose)) where
    -- parts
    parts_more : (sorts : ℕ → Sort) (n i p : ℕ) (g : Got Rose) → Stands levels (sorts i) ws p g.what g.next
        → (o : Outcome (Got Roses)) → GoodParts levels sorts n (suc i) ws g.next o
        → GoodParts levels sorts (suc n) i ws p (map_got (λ (ps : Roses). cons g.what ps) o)
    parts_more sorts n i p g q o r = grind (arith, common_steps)

    parts_next : (sorts : ℕ → Sort) (n i p : ℕ) → p ≤ length ws → (rest : Got Rose → Outcome (Got Roses))
        → ((g : Got Rose) → g.next ≤ length ws → GoodParts levels sorts n (suc i) ws g.next (rest g))
        → (o : Outcome (Got Rose)) → Good levels (sorts i) ws p o
        → GoodParts levels sorts (suc n) i ws p (bind o (λ g. map_got (λ (ps : Roses). cons g.what ps) (rest g)))
    parts_next sorts n i p l rest hs (given g) h = parts_more sorts n i p g h (rest g) (hs g h.inside)
    parts_next sorts n i p l rest hs (refused number place) h = h l

    parts_good : (sorts : ℕ → Sort) → ((i p : ℕ) → Good levels (sorts i) ws p (read (sorts i) p)) → (n i p : ℕ)
        → p ≤ length ws → GoodParts levels sorts n i ws p (read_parts read sorts n i p)
    unfolding read_parts
    parts_good sorts good zero i p l = record {
      here = tt;
      ends = omega arith;
      inside = l;
      deep = omega arith;
      valid = tt;
      many = refl;
    }
    parts_good sorts good (suc n) i p l =
        parts_next sorts n i p l (λ g. read_parts read sorts n (suc i) g.next)
        (λ g inside. parts_good sorts good n (suc i) g.next inside) (read (sorts i) p) (good i p)

    -- a list
    list_made : (at : ℕ) (o : Outcome (Got Roses)) → GoodParts levels (λ i. sort.Stmt) (get_or ws at 0) 0 ws (at + 1) o
        → Good levels sort.List ws at (map_got (λ (ps : Roses). node sort.List (get_or ws at 0 ∷ []) ps) o)
    list_made at o p = grind (arith, common_steps)

    list_good : ((p : ℕ) → Good levels sort.Stmt ws p (read sort.Stmt p)) → (at : ℕ)
        → Good levels sort.List ws at (read_list read ws at)
    unfolding read_list
    list_good good at =
        by_test (Good levels sort.List ws at) (ltb at (length ws)) _ _
        (λ i. list_made at (read_parts read (λ i. sort.Stmt) (get_or ws at 0) 0 (at + 1))
        (parts_good (λ i. sort.Stmt) (λ i p. good p) (get_or ws at 0) 0 (at + 1)
        (omega (arith, ltb-true at (length ws) i))))
        (λ o l. turned_8 ws at (omega (arith, ltb-false at (length ws) o)))

    -- a part, where nodes are read well
    any_good : ((s : Sort) → is_list s ≡ false → (p : ℕ) → Good levels s ws p (read s p)) → (s : Sort) (at : ℕ)
        → Good levels s ws at (read_any read ws s at)
    any_good good sort.List at = list_good (λ p. good sort.Stmt refl p) at
    any_good good e at = good e refl at

    -- a node of an accepted header, its payload and its parts
    module _ (s : Sort) (plain : is_list s ≡ false) (at : ℕ) (right : head_at ws s at ≡ true) where
      node_made : (pay : Got (List ℕ)) → PayStands (detail_at ws at) (rules_at ws at) ws (at + 1) pay.what pay.next
          → (o : Outcome (Got Roses)) → GoodParts levels (sorts_at ws at) (count_at ws at) 0 ws pay.next o
          → Good (suc levels) s ws at (map_got (λ (ps : Roses). node (made s) (get_or ws at 0 ∷ pay.what) ps) o)
      node_made pay p (given g) h =
          let first = first_word ws (at + 1) (kind_in (get_or ws at 0)) (detail_at ws at) (get_or ws (at + 1) 0)
          pay.what
          p.ruled p.here in
          let place : pay.next ≡ at + suc (length pay.what) = omega (arith, p.ends) in
          record {
            here = ((refl, p.here), rw place at h.here);
            ends = omega (arith, place, h.ends);
            inside = h.inside;
            deep = rw (node_level s plain) (omega (arith, h.deep));
            valid = (
              refl,
              rw (node_owned s plain (get_or ws at 0) pay.what (count g.what))
                  (record { head = right; ruled = rw first.ruled at p.ruled; many = h.many ∙ first.many }),
              rw (node_sorts s plain (get_or ws at 0) pay.what g.what) h.valid,
            );
          }
      node_made pay p (refused number place) h = λ l. h

      body_next : (rest : Got (List ℕ) → Outcome (Got Roses))
          → ((pay : Got (List ℕ)) → pay.next ≤ length ws
          → GoodParts levels (sorts_at ws at) (count_at ws at) 0 ws pay.next (rest pay))
          → (o : Outcome (Got (List ℕ))) → GoodPay (detail_at ws at) (rules_at ws at) ws (at + 1) o
          → Good (suc levels) s ws at
          (bind o (λ pay. map_got (λ (ps : Roses). node (made s) (get_or ws at 0 ∷ pay.what) ps) (rest pay)))
      body_next rest hs (given pay) p = node_made pay p (rest pay) (hs pay p.inside)
      body_next rest hs (refused number place) p = λ l. p

      body_good : ((s : Sort) (p : ℕ) → Good levels s ws p (read s p)) → at < length ws
          → Good (suc levels) s ws at (read_body read ws s (get_or ws at 0) at)
      unfolding read_body
      body_good good i =
          body_next (λ pay. read_parts read (sorts_at ws at) (count_at ws at) 0 pay.next)
          (λ pay. parts_good (sorts_at ws at) (λ i p. good (sorts_at ws at i) p) (count_at ws at) 0 pay.next)
          (read_pay ws (detail_at ws at) (rules_at ws at) (at + 1))
          (pay_good (detail_at ws at) (rules_at ws at) (at + 1) (omega arith))

  -- a node, and any part
  node_good : (levels : ℕ) (s : Sort) → is_list s ≡ false → (at : ℕ) → Good levels s ws at (read_node levels ws s at)
  unfolding read_node
  node_good zero s plain at =
      by_test (Good 0 s ws at) (ltb at (length ws)) (refused 7 at) (refused 8 at)
      (λ i l. turned_7 ws at l) (λ o l. turned_8 ws at (omega (arith, ltb-false at (length ws) o)))
  node_good (suc levels) s plain at =
      by_test (Good (suc levels) s ws at) (ltb at (length ws)) _ _
      (λ i. by_test (Good (suc levels) s ws at) (head_at ws s at) _ _
      (λ right. body_good levels (read_any (read_node levels ws) ws) s plain at right
      (any_good levels (read_node levels ws) (node_good levels)) (ltb-true at (length ws) i))
      (λ wrong l. turned_9 ws at l))
      (λ o l. turned_8 ws at (omega (arith, ltb-false at (length ws) o)))

  at_good : (levels : ℕ) (s : Sort) (at : ℕ) → Good levels s ws at (read_at levels ws s at)
  at_good levels s at = any_good levels (read_node levels ws) (node_good levels) s at

-- what the reader gives stands there and belongs there
pub sound : (levels : ℕ) (ws : List ℕ) (s : Sort) (at : ℕ) (g : Got Rose) → read_at levels ws s at ≡ given g
    → Stands levels s ws at g.what g.next
sound levels ws s at g e = subst (Good levels s ws at) e (at_good ws levels s at)

-- a refusal is 7, 8 or 9, its place is no further than the end of the words, and 8 is at that end
pub refused_place : (levels : ℕ) (ws : List ℕ) (s : Sort) (at number place : ℕ)
    → read_at levels ws s at ≡ refused number place → at ≤ length ws → Turned ws number place
refused_place levels ws s at number place e = subst (Good levels s ws at) e (at_good ws levels s at)

-- ---- what stands there is given

-- what was read, with the word behind it
abbrev got : {A : Type 0} → A → ℕ → Outcome (Got A)
got a n = given (record { what = a; next = n })

-- a test that is passed
passing : {A : Type 0} {x o : Outcome A} (b : Bool) (number place : ℕ) → b ≡ true → x ≡ o
    → cond b x (refused number place) ≡ o
passing true number place t e = e
passing false number place t e = cc

-- each tree at a place of a sort that stands, ends within the words and is not too deep is read
abbrev Reads : ℕ → List ℕ → Sort → (ℕ → Outcome (Got Rose)) → Type 0
Reads levels ws s read =
    (at : ℕ) (r : Rose) → Valid s r → At ws at r → at + size r ≤ length ws → depth r ≤ levels
    → read at ≡ got r (at + size r)

module _ (ws : List ℕ) where
  -- payload words
  pay_all : (d : ℕ) (rs : List Rule) (pay : List ℕ) (p : ℕ) → Ruled d rs pay → Words ws p pay
      → p + length pay ≤ length ws → read_pay ws d rs p ≡ got pay (p + length pay)
  unfolding read_pay
  pay_all d [] [] p h t l = ap (got []) (sym (add-zero p))
  pay_all d [] (x ∷ pay) p h t l = absurd h
  pay_all d (r ∷ rs) [] p h t l = absurd h
  pay_all d (r ∷ rs) (x ∷ pay) p h t l =
      passing (ltb p (length ws)) 8 p (lt-ltb p (length ws) (omega arith))
      (passing (word_right r d (get_or ws p 0)) 9 p (ap (word_right r d) t.0 ∙ h.0)
      (ap (map_got (λ (pay : List ℕ). get_or ws p 0 ∷ pay)) (pay_all d rs pay (p + 1) h.1 t.1 (omega arith))
      ∙ ap₂ (λ (x n : ℕ). got (x ∷ pay) n) t.0 (omega arith)))

  module _ (levels : ℕ) (read : Sort → ℕ → Outcome (Got Rose)) where
    -- parts
    parts_all : (sorts : ℕ → Sort) → ((i : ℕ) → Reads levels ws (sorts i) (read (sorts i))) → (ps : Roses) (i p : ℕ)
        → Valids sorts i ps → Ats ws p ps → p + sizes ps ≤ length ws → depths ps ≤ levels
        → read_parts read sorts (count ps) i p ≡ got ps (p + sizes ps)
    unfolding read_parts
    parts_all sorts reads nil i p v a l d = ap (got nil) (sym (add-zero p))
    parts_all sorts reads (cons q qs) i p v a l d =
        ap (λ (o : Outcome (Got Rose)). bind o
        (λ g. map_got (λ (ps : Roses). cons g.what ps) (read_parts read sorts (count qs) (suc i) g.next)))
        (reads i p q v.0 a.0 (omega arith) (omega arith))
        ∙ ap (map_got (λ (ps : Roses). cons q ps))
        (parts_all sorts reads qs (suc i) (p + size q) v.1 a.1 (omega arith) (omega arith))
        ∙ ap (got (cons q qs)) (add_assoc p (size q) (sizes qs))

    -- a list
    list_all : Reads levels ws sort.Stmt (read sort.Stmt) → Reads levels ws sort.List (read_list read ws)
    unfolding read_list
    list_all reads at (node t [] ps) v a l d = absurd v.1
    list_all reads at (node t (h ∷ pay) ps) v a l d =
        let none : length pay ≡ 0 = ap length v.1.alone in
        let begin : at + suc (length pay) ≡ at + 1 = omega arith in
        let many : get_or ws at 0 ≡ count ps = a.0.0 ∙ sym v.1.many in
        let own : get_or ws at 0 ∷ [] ≡ h ∷ pay = ap₂ ◌∷◌ a.0.0 (sym v.1.alone) in
        passing (ltb at (length ws)) 8 at (lt-ltb at (length ws) (omega arith))
        (ap (λ (n : ℕ). map_got (λ (ps : Roses). node sort.List (get_or ws at 0 ∷ []) ps)
        (read_parts read (λ i. sort.Stmt) n 0 (at + 1))) many
        ∙ ap (map_got (λ (ps : Roses). node sort.List (get_or ws at 0 ∷ []) ps))
        (parts_all (λ i. sort.Stmt) (λ i. reads) ps 0 (at + 1) v.2 (rw begin at a.1) (omega arith) (omega arith))
        ∙ ap₂ (λ (t : Sort) (own : List ℕ). got (node t own ps) (at + 1 + sizes ps)) (sym v.0) own
        ∙ ap (got (node t (h ∷ pay) ps)) (omega arith))

    -- a part, where nodes are read
    any_all : ((s : Sort) → is_list s ≡ false → Reads levels ws s (read s)) → (s : Sort)
        → Reads levels ws s (read_any read ws s)
    any_all reads sort.List = list_all (reads sort.Stmt refl)
    any_all reads e = reads e refl

    -- what stands behind an accepted header
    body_all : ((s : Sort) → Reads levels ws s (read s)) → (s : Sort) (at h : ℕ) (pay : List ℕ) (ps : Roses)
        → Headed s h pay (count ps) → Valids (part_sort (kind_in h)) 0 ps → Words ws (at + 1) pay
        → Ats ws (at + suc (length pay)) ps → at + (suc (length pay) + sizes ps) ≤ length ws → depths ps ≤ levels
        → read_body read ws s h at ≡ got (node (made s) (h ∷ pay) ps) (at + (suc (length pay) + sizes ps))
    unfolding read_body
    body_all reads s at h pay ps o v t a l d =
        let first = first_word ws (at + 1) (kind_in h) (detail_in h) (get_or pay 0 0) pay o.ruled t in
        let begin : at + suc (length pay) ≡ at + 1 + length pay = omega arith in
        ap₂ (λ (p : Outcome (Got (List ℕ))) (n : ℕ). bind p
        (λ pay. map_got (λ (ps : Roses). node (made s) (h ∷ pay.what) ps)
        (read_parts read (part_sort (kind_in h)) n 0 pay.next)))
        (pay_all (detail_in h) _ pay (at + 1) (rw first.ruled o.ruled) t (omega arith))
        (first.many ∙ sym o.many)
        ∙ ap (map_got (λ (ps : Roses). node (made s) (h ∷ pay) ps))
        (parts_all (part_sort (kind_in h)) (λ i. reads (part_sort (kind_in h) i)) ps 0 (at + 1 + length pay) v
        (rw begin at a) (omega arith) d)
        ∙ ap (got (node (made s) (h ∷ pay) ps)) (omega arith)

  -- a node
  node_all : (levels : ℕ) (s : Sort) → is_list s ≡ false → Reads levels ws s (read_node levels ws s)
  unfolding read_node
  node_all zero s plain at (node t own ps) v a l d = absurd (omega (arith, ap level v.0 ∙ node_level s plain))
  node_all (suc levels) s plain at (node t [] ps) v a l d = absurd v.1
  node_all (suc levels) s plain at (node t (h ∷ pay) ps) v a l d =
      let o : Headed s h pay (count ps) = rw (node_owned s plain h pay (count ps)) at v.1 in
      let deep : level t ≡ 1 = ap level v.0 ∙ node_level s plain in
      passing (ltb at (length ws)) 8 at (lt-ltb at (length ws) (omega arith))
      (passing (head_at ws s at) 9 at (ap (λ (h : ℕ). head_right s (kind_in h) (detail_in h)) a.0.0 ∙ o.head)
      (ap (λ (h : ℕ). read_body (read_any (read_node levels ws) ws) ws s h at) a.0.0
      ∙ body_all levels (read_any (read_node levels ws) ws) (any_all levels (read_node levels ws) (node_all levels)) s
      at h pay ps o (rw (node_sorts s plain h pay ps) at v.2) a.0.1 a.1 (omega arith) (omega arith)
      ∙ ap (λ (t : Sort). got (node t (h ∷ pay) ps) (at + (suc (length pay) + sizes ps))) (sym v.0)))

-- each tree that stands there and belongs there is given
pub complete : (levels : ℕ) (ws : List ℕ) (s : Sort) (at : ℕ) (r : Rose) → Valid s r → At ws at r
    → at + size r ≤ length ws → depth r ≤ levels
    → read_at levels ws s at ≡ given (record { what = r; next = at + size r })
complete levels ws s = any_all ws levels (read_node levels ws) (node_all ws levels) s

-- so there is at most one
pub unique : (ws : List ℕ) (s : Sort) (at : ℕ) (r q : Rose) → Valid s r → Valid s q → At ws at r → At ws at q
    → at + size r ≤ length ws → at + size q ≤ length ws → r ≡ q
unique ws s at r q v u a b l m =
    let e = complete (max (depth r) (depth q)) ws s at r v a l (omega arith) in
    let f = complete (max (depth r) (depth q)) ws s at q u b m (omega arith) in
    ap what (sym e ∙ f)
  where
    what : Outcome (Got Rose) → Rose
    what (given g) = g.what
    what (refused number place) = r
