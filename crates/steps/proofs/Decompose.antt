-- Reading a tree is reading its own words and then its parts, one by one; and one turn of each loop.
-- Assumes nothing.
use mathlib.Core.Bool.{Bool, true, false, cond}
use mathlib.Core.List.{List, [], ◌∷◌}
use mathlib.Core.Path.{◌≡◌, refl, ap, ap₂, sym, fun_ext, ◌∙◌}
use Prim.Native.Nat.{ℕ, zero, suc, ◌+◌, ◌-◌, ◌≤◌, ◌<◌}
use native.Mathlib.Nat.{sub-zero}
use native.Mathlib.Numerals.{add-one}
use native.Mathlib.Omega.{arith}
use Rattle.std.proofs.lemmas.Grind.{common_steps}
use borrow.Author.Tests.{lt-ltb, le-ltb, ne_eqb, ltb-true}
use lib.Dec.{eqb, ltb}
use lib.ListN.{length, get_or, drop, drop_of_length-le}
use lib.Seq.{drop-cons}
use Rattle.spec.specs.Outcome.{Outcome, given, refused}
use Rattle.spec.specs.Rose.{Rose, Roses, node, cons}
use Rattle.spec.specs.Grammar.{kind_in, detail_in, head_right, Rule, any, word_right, rules, part_count, part_sort}
use Rattle.spec.specs.Grammar.{is_list}
use Rattle.spec.specs.Grammar.{sorts_by, made}
use Rattle.spec.specs.Reading.{Got, bind, map_got, read_pay, read_parts, read_list, read_any, read_body, read_node}
use Rattle.spec.specs.Reading.{read_at}
use Rattle.spec.proofs.Outcomes.{not_given, by_test}
use Rattle.spec.proofs.Readings.{sound}
use Rattle.spec.specs.declared.Sort.{Sort}
use Rattle.spec.specs.declared.Sort.TheVariants as sort
use Rattle.tables.specs.Payload.{pay_count, pay_right}
use Rattle.tables.proofs.Payloads.{pay_count_lem, pay_right_lem}
use Rattle.steps.specs.Steps.{next_of, own_by, own_step, under, count_in, sort_in, parts_step}

-- ---- places only

-- what was read, where the place behind it is known
pub next_given : {A : Type 0} (o : Outcome (Got A)) (next : ℕ) → next_of o ≡ given next
    → (g : Got A) × (o ≡ given g) × (g.next ≡ next)
next_given (given g) next e = (g, refl, cc)
next_given (refused number place) next e = absurd (not_given e)

pub next_map : {A B : Type 0} (f : A → B) (o : Outcome (Got A)) → next_of (map_got f o) ≡ next_of o
next_map f o = grind (arith, common_steps)

-- one part, then the others
next_bind : {A B C : Type 0} (o : Outcome (Got A)) (f : A → B → C) (more : ℕ → Outcome (Got B)) (then' : ℕ → Outcome ℕ)
    → ((p : ℕ) → next_of (more p) ≡ then' p)
    → next_of (bind o (λ g. map_got (f g.what) (more g.next))) ≡ bind (next_of o) then'
next_bind o f more then' h = grind (arith, common_steps, next_map)

module _ (read : Sort → ℕ → Outcome (Got Rose)) (sorts : ℕ → Sort) where
  pub next_parts : (n i p : ℕ) → next_of (read_parts read sorts n i p) ≡ parts_step (λ s q. next_of (read s q)) sorts n
      i p
  unfolding read_parts parts_step
  next_parts zero i p = refl
  next_parts (suc n) i p =
      next_bind (read (sorts i) p) cons (read_parts read sorts n (suc i))
      (parts_step (λ s q. next_of (read s q)) sorts n (suc i)) (λ q. next_parts n (suc i) q)

-- readers that agree on the sorts that are asked
parts_same : (read other : Sort → ℕ → Outcome ℕ) (sorts : ℕ → Sort) → ((i p : ℕ) → read (sorts i) p ≡ other (sorts i) p)
    → (n i p : ℕ) → parts_step read sorts n i p ≡ parts_step other sorts n i p
unfolding parts_step
parts_same read other sorts h zero i p = refl
parts_same read other sorts h (suc n) i p =
    ap (λ (o : Outcome ℕ). bind o (parts_step read sorts n (suc i))) (h i p)
    ∙ go (other (sorts i) p) (λ q. parts_same read other sorts h n (suc i) q)
  where
    go : (o : Outcome ℕ) → ((q : ℕ) → parts_step read sorts n (suc i) q ≡ parts_step other sorts n (suc i) q)
        → bind o (parts_step read sorts n (suc i)) ≡ bind o (parts_step other sorts n (suc i))
    go o e = grind (arith, common_steps)

-- ---- own words, then parts

-- the parts of what stands at a place
abbrev pub parts_at : ℕ → List ℕ → Sort → ℕ → ℕ → Outcome ℕ
parts_at levels ws s at p =
    parts_step (λ t q. next_of (read_at (under levels s) ws t q)) (sort_in s (get_or ws at 0))
    (count_in s (get_or ws at 0) (get_or ws (at + 1) 0)) 0 p

cond_bind : (t : Bool) (x y : Outcome ℕ) (f : ℕ → Outcome ℕ) → bind (cond t x y) f ≡ cond t (bind x f) (bind y f)
cond_bind t x y f = grind (arith, common_steps)

cond_next : {A : Type 0} (t : Bool) (x y : Outcome (Got A)) → next_of (cond t x y) ≡ cond t (next_of x) (next_of y)
cond_next t x y = grind (arith, common_steps)

-- the parts of a node that is no list, by its header and the word behind it
abbrev node_parts : (Sort → ℕ → Outcome ℕ) → ℕ → ℕ → ℕ → Outcome ℕ
node_parts read h w p = parts_step read (part_sort (kind_in h)) (part_count (kind_in h) (detail_in h) w) 0 p

body_step : (read : Sort → ℕ → Outcome (Got Rose)) (ws : List ℕ) (s : Sort) (h at : ℕ)
    → next_of (read_body read ws s h at)
    ≡ bind (next_of (read_pay ws (detail_in h) (rules (kind_in h) (detail_in h) (get_or ws (at + 1) 0)) (at + 1)))
    (node_parts (λ t q. next_of (read t q)) h (get_or ws (at + 1) 0))
unfolding read_body
body_step read ws s h at =
    next_bind (read_pay ws (detail_in h) (rules (kind_in h) (detail_in h) (get_or ws (at + 1) 0)) (at + 1))
    (λ (pay : List ℕ) (ps : Roses). node (made s) (h ∷ pay) ps)
    (read_parts read (part_sort (kind_in h)) (part_count (kind_in h) (detail_in h) (get_or ws (at + 1) 0)) 0)
    (node_parts (λ t q. next_of (read t q)) h (get_or ws (at + 1) 0))
    (next_parts read (part_sort (kind_in h)) (part_count (kind_in h) (detail_in h) (get_or ws (at + 1) 0)) 0)

parts_node : (levels : ℕ) (ws : List ℕ) (s : Sort) (at : ℕ) → is_list s ≡ false
    → parts_at (suc levels) ws s at
    ≡ node_parts (λ t q. next_of (read_any (read_node levels ws) ws t q)) (get_or ws at 0) (get_or ws (at + 1) 0)
parts_node levels ws s at e =
    let h = get_or ws at 0 in
    let n : suc levels - 1 ≡ levels = omega arith in
    fun_ext (λ p.
    ap (λ (b : Bool). parts_step (λ t q. next_of (read_at (cond b (suc levels) (suc levels - 1)) ws t q)) (sorts_by b h)
    (cond b h (part_count (kind_in h) (detail_in h) (get_or ws (at + 1) 0))) 0 p) e
    ∙ ap (λ (m : ℕ). node_parts (λ t q. next_of (read_at m ws t q)) h (get_or ws (at + 1) 0) p) n)

-- a node that is no list
node_step : (levels : ℕ) (ws : List ℕ) (s : Sort) (at : ℕ) → is_list s ≡ false
    → next_of (read_node levels ws s at) ≡ bind (own_step levels ws s at) (parts_at levels ws s at)
unfolding read_node own_step
node_step zero ws s at e = simp (e, cond_next, cond_bind)
node_step (suc levels) ws s at e =
    let z : eqb (suc levels) 0 ≡ false = ne_eqb (suc levels) 0 (λ (q : suc levels ≡ 0). omega arith) in
    simp (
      parts_node levels ws s at e,
      e,
      z,
      cond_next,
      cond_bind,
      body_step (read_any (read_node levels ws) ws) ws s (get_or ws at 0) at,
    )

list_step : (levels : ℕ) (ws : List ℕ) (at : ℕ)
    → next_of (read_list (read_node levels ws) ws at)
    ≡ bind (own_step levels ws sort.List at) (parts_at levels ws sort.List at)
unfolding read_list own_step
list_step levels ws at =
    simp (cond_next, cond_bind, next_map, next_parts (read_node levels ws) (λ i. sort.Stmt))
    (ap (λ (o : Outcome ℕ). cond (ltb at (length ws)) o (refused 8 at))
    (parts_same (λ s q. next_of (read_node levels ws s q)) (λ t q. next_of (read_at levels ws t q)) (λ i. sort.Stmt)
    (λ i p. refl) (get_or ws at 0) 0 (at + 1)))

pub read_steps : (levels : ℕ) (ws : List ℕ) (s : Sort) (at : ℕ)
    → next_of (read_at levels ws s at) ≡ bind (own_step levels ws s at) (parts_at levels ws s at)
read_steps levels ws sort.Expr at = node_step levels ws sort.Expr at refl
read_steps levels ws sort.Target at = node_step levels ws sort.Target at refl
read_steps levels ws sort.Single at = node_step levels ws sort.Single at refl
read_steps levels ws sort.Stmt at = node_step levels ws sort.Stmt at refl
read_steps levels ws sort.List at = list_step levels ws at

-- ---- payload words, one by one

-- the payload that begins at a place, from word i on
abbrev pub pay_from : List ℕ → ℕ → ℕ → ℕ → ℕ → ℕ → Outcome ℕ
pay_from ws at k d i p = next_of (read_pay ws d (drop i (rules k d (get_or ws at 0))) p)

module _ (ws : List ℕ) (at k d i p : ℕ) (h : i < pay_count k d (get_or ws at 0)) where
  by_rest : let rs = rules k d (get_or ws at 0) in
      pay_from ws at k d i p ≡ next_of (read_pay ws d (get_or rs i any ∷ drop (i + 1) rs) p)
  by_rest =
      let rs = rules k d (get_or ws at 0) in
      let few : i < length rs = omega (arith, pay_count_lem d (get_or ws at 0) k) in
      ap (λ (r : List Rule). next_of (read_pay ws d r p))
      (drop-cons rs i any few ∙ ap (λ (n : ℕ). get_or rs i any ∷ drop n rs) (sym (add-one i)))

  judged : {b : Bool} → pay_right k d i (get_or ws p 0) ≡ b
      → word_right (get_or (rules k d (get_or ws at 0)) i any) d (get_or ws p 0) ≡ b
  judged e = pay_right_lem d i (get_or ws at 0) (get_or ws p 0) k h ∙ e

  -- the word is missing, not right, or right
  pub pay_missing : length ws ≤ p → pay_from ws at k d i p ≡ refused 8 p
  unfolding read_pay
  pay_missing l = by_rest ∙ simp (le-ltb p (length ws) l)

  pub pay_wrong : p < length ws → pay_right k d i (get_or ws p 0) ≡ false → pay_from ws at k d i p ≡ refused 9 p
  unfolding read_pay
  pay_wrong l e = by_rest ∙ simp (lt-ltb p (length ws) l, judged e)

  pub pay_goes : p < length ws → pay_right k d i (get_or ws p 0) ≡ true
      → pay_from ws at k d i p ≡ pay_from ws at k d (i + 1) (p + 1)
  unfolding read_pay
  pay_goes l e =
      by_rest
      ∙ simp (lt-ltb p (length ws) l, judged e)
      (next_map _ (read_pay ws d (drop (i + 1) (rules k d (get_or ws at 0))) (p + 1)))

pub pay_ends : (ws : List ℕ) (at k d i p : ℕ) → pay_count k d (get_or ws at 0) ≤ i → pay_from ws at k d i p ≡ given p
unfolding read_pay
pay_ends ws at k d i p h =
    let rs = rules k d (get_or ws at 0) in
    let all : length rs ≤ i = omega (arith, pay_count_lem d (get_or ws at 0) k) in
    ap (λ (r : List Rule). next_of (read_pay ws d r p)) (drop_of_length-le rs all)

-- payload words are behind the place where they begin
pub pay_behind : (ws : List ℕ) (d : ℕ) (rs : List Rule) (p next : ℕ) → next_of (read_pay ws d rs p) ≡ given next
    → p ≤ next
unfolding read_pay
pay_behind ws d [] p next e = let q : p ≡ next = cc in omega arith
pay_behind ws d (r ∷ rs) p next e =
    by_test _ (ltb p (length ws))
    (λ a. by_test _ (word_right r d (get_or ws p 0))
    (λ b.
    let more = sym (next_map _ (read_pay ws d rs (p + 1))) ∙ (simp (a, b) at e) in
    omega (arith, pay_behind ws d rs (p + 1) next more))
    (λ b. absurd (not_given (simp (a, b) at e))))
    (λ a. absurd (not_given (simp a at e)))

-- ---- own words

-- own words begin inside, and end behind their place
pub own_inside : (levels : ℕ) (ws : List ℕ) (s : Sort) (at p : ℕ) → own_step levels ws s at ≡ given p
    → (at < length ws) × (at < p)
unfolding own_step
own_inside levels ws s at p e =
    by_test _ (ltb at (length ws)) (λ a. (ltb-true at (length ws) a, go (is_list s) (simp a at e)))
    (λ a. absurd (not_given (simp a at e)))
  where
    go : (b : Bool) → own_by b levels ws s at ≡ given p → at < p
    go true q = let z : at + 1 ≡ p = cc in omega arith
    go false q =
        by_test _ (eqb levels 0) (λ z. absurd (not_given (simp z at q)))
        (λ z. by_test _ (head_right s (kind_in (get_or ws at 0)) (detail_in (get_or ws at 0)))
        (λ y. let l = pay_behind ws _ _ (at + 1) p (simp (z, y) at q) in omega arith)
        (λ y. absurd (not_given (simp (z, y) at q))))

-- ---- parts, one by one

module _ (read : Sort → ℕ → Outcome ℕ) (sorts : ℕ → Sort) (count i p : ℕ) (h : i < count) where
  left : count - i ≡ suc (count - (i + 1))
  left = omega arith

  pub part_stops : {number place : ℕ} → read (sorts i) p ≡ refused number place
      → parts_step read sorts (count - i) i p ≡ refused number place
  unfolding parts_step
  part_stops e =
      ap (λ (n : ℕ). parts_step read sorts n i p) left
      ∙ ap (λ (o : Outcome ℕ). bind o (parts_step read sorts (count - (i + 1)) (suc i))) e

  pub part_goes : {next : ℕ} → read (sorts i) p ≡ given next
      → parts_step read sorts (count - i) i p ≡ parts_step read sorts (count - (i + 1)) (i + 1) next
  unfolding parts_step
  part_goes {next} e =
      ap (λ (n : ℕ). parts_step read sorts n i p) left
      ∙ ap (λ (o : Outcome ℕ). bind o (parts_step read sorts (count - (i + 1)) (suc i))) e
      ∙ ap (λ (n : ℕ). parts_step read sorts (count - (i + 1)) n next) (sym (add-one i))

pub parts_end : (read : Sort → ℕ → Outcome ℕ) (sorts : ℕ → Sort) (count i p : ℕ) → count ≤ i
    → parts_step read sorts (count - i) i p ≡ given p
unfolding parts_step
parts_end read sorts count i p h =
    let e : count - i ≡ 0 = omega arith in
    ap (λ (n : ℕ). parts_step read sorts n i p) e

-- what is read ends behind its place
pub read_behind : (levels : ℕ) (ws : List ℕ) (s : Sort) (at next : ℕ) → next_of (read_at levels ws s at) ≡ given next
    → at ≤ next
read_behind levels ws s at next e =
    let (g, read, same) = next_given (read_at levels ws s at) next e in
    omega (arith, same, (sound levels ws s at g read).ends)

-- own words that are read leave the parts
pub parts_start : (levels : ℕ) (ws : List ℕ) (s : Sort) (at first h w count below : ℕ)
    → own_step levels ws s at ≡ given first
    → h ≡ get_or ws at 0 → w ≡ get_or ws (at + 1) 0 → count ≡ count_in s h w → below ≡ under levels s
    → next_of (read_at levels ws s at) ≡ parts_step (λ t q. next_of (read_at below ws t q)) (sort_in s h) (count - 0) 0
    first
parts_start levels ws s at first h w count below o eh ew ec eb =
    read_steps levels ws s at
    ∙ ap (λ (x : Outcome ℕ). bind x (parts_at levels ws s at)) o
    ∙ ap₂ (λ (x y : ℕ). parts_step (λ t q. next_of (read_at (under levels s) ws t q)) (sort_in s x) (count_in s x y) 0
    first)
    (sym eh) (sym ew)
    ∙ ap₂ (λ (l n : ℕ). parts_step (λ t q. next_of (read_at l ws t q)) (sort_in s h) n 0 first) (sym eb)
    (sym ec ∙ sym (sub-zero count))

pub own_refused : (levels : ℕ) (ws : List ℕ) (s : Sort) (at : ℕ) {number place : ℕ}
    → own_step levels ws s at ≡ refused number place
    → next_of (read_at levels ws s at) ≡ refused number place
own_refused levels ws s at o = read_steps levels ws s at ∙ ap (λ (x : Outcome ℕ). bind x (parts_at levels ws s at)) o
