-- What a list of words says: a tree, or a refusal with its place. Document 01, 'Turned back', 5 and 7 to 10.
-- It computes.
use Rattle.std.specs.Prelude.{cond, List, [], ◌∷◌, ℕ, zero, suc, ◌+◌, ltb, length, get_or}
use Rattle.spec.specs.Outcome.{Outcome, given, refused}
use Rattle.spec.specs.Blocks.{count_right}
use Rattle.spec.specs.Rose.{Rose, Roses, node, nil, cons}
use Rattle.spec.specs.Grammar.{kind_in, detail_in, head_right, Rule, word_right, rules, part_count, part_sort, made}
use Rattle.spec.specs.declared.Sort.{Sort}
use Rattle.spec.specs.declared.Sort.TheVariants as sort

-- what was read, and the word behind it
pub record Got (A : Type 0) : Type 0 where
  pub what : A
  pub next : ℕ

-- a refusal, or what is made of an answer
abbrev pub bind : {A B : Type 0} → Outcome A → (A → Outcome B) → Outcome B
bind (given a) f = f a
bind (refused number place) f = refused number place

abbrev pub map_got : {A B : Type 0} → (A → B) → Outcome (Got A) → Outcome (Got B)
map_got f (given g) = given (record { what = f g.what; next = g.next })
map_got f (refused number place) = refused number place

-- payload words one by one, in a node with a detail: "8 Words end early (word)", then "9 A kind, detail or payload is
-- not as above (word)"
unfoldable pub read_pay : List ℕ → ℕ → List Rule → ℕ → Outcome (Got (List ℕ))
read_pay ws d [] p = given (record { what = []; next = p })
read_pay ws d (r ∷ rs) p =
    let more = map_got (λ (pay : List ℕ). get_or ws p 0 ∷ pay) (read_pay ws d rs (p + 1)) in
    let judged = cond (word_right r d (get_or ws p 0)) more (refused 9 p) in
    cond (ltb p (length ws)) judged (refused 8 p)

-- n parts one by one, from part i on, each read by `read` as its sort
unfoldable pub read_parts : (Sort → ℕ → Outcome (Got Rose)) → (ℕ → Sort) → ℕ → ℕ → ℕ → Outcome (Got Roses)
read_parts read sorts zero i p = given (record { what = nil; next = p })
read_parts read sorts (suc n) i p =
    bind (read (sorts i) p)
    (λ g. map_got (λ (ps : Roses). cons g.what ps) (read_parts read sorts n (suc i) g.next))

-- "A rule is a list: a count of statements, then these"
unfoldable pub read_list : (Sort → ℕ → Outcome (Got Rose)) → List ℕ → ℕ → Outcome (Got Rose)
read_list read ws at =
    let list = map_got (λ (ps : Roses). node sort.List (get_or ws at 0 ∷ []) ps)
    (read_parts read (λ i. sort.Stmt) (get_or ws at 0) 0 (at + 1)) in
    cond (ltb at (length ws)) list (refused 8 at)

-- a part: a list, or a node read by `read`
abbrev pub read_any : (Sort → ℕ → Outcome (Got Rose)) → List ℕ → Sort → ℕ → Outcome (Got Rose)
read_any read ws sort.Expr at = read sort.Expr at
read_any read ws sort.Target at = read sort.Target at
read_any read ws sort.Single at = read sort.Single at
read_any read ws sort.Stmt at = read sort.Stmt at
read_any read ws sort.List at = read_list read ws at

-- a node behind an accepted header h: its payload, then its parts
unfoldable pub read_body : (Sort → ℕ → Outcome (Got Rose)) → List ℕ → Sort → ℕ → ℕ → Outcome (Got Rose)
read_body read ws s h at =
    bind (read_pay ws (detail_in h) (rules (kind_in h) (detail_in h) (get_or ws (at + 1) 0)) (at + 1))
    (λ pay. map_got (λ (ps : Roses). node (made s) (h ∷ pay.what) ps)
    (read_parts read (part_sort (kind_in h)) (part_count (kind_in h) (detail_in h) (get_or ws (at + 1) 0)) 0 pay.next))

-- a node where so many levels are left: "7 A node is deeper than 200, the top being 1 (word)"; "at one word 8, 7, 9"
unfoldable pub read_node : ℕ → List ℕ → Sort → ℕ → Outcome (Got Rose)
read_node zero ws s at = cond (ltb at (length ws)) (refused 7 at) (refused 8 at)
read_node (suc levels) ws s at =
    let body = read_body (read_any (read_node levels ws) ws) ws s (get_or ws at 0) at in
    let judged = cond (head_right s (kind_in (get_or ws at 0)) (detail_in (get_or ws at 0))) body (refused 9 at) in
    cond (ltb at (length ws)) judged (refused 8 at)

-- what stands at a place of a sort
abbrev pub read_at : ℕ → List ℕ → Sort → ℕ → Outcome (Got Rose)
read_at levels ws s at = read_any (read_node levels ws) ws s at

-- "10 Words remain (first)"
abbrev pub whole : List ℕ → Outcome (Got Rose) → Outcome Rose
whole ws (given g) = cond (ltb g.next (length ws)) (refused 10 g.next) (given g.what)
whole ws (refused number place) = refused number place

-- "5 There are 0 or over 16,128 words (count)", before the others; the words hold one expression (`Expr`) or
-- a rule (`List`)
abbrev pub read_words : Sort → List ℕ → Outcome Rose
read_words s ws =
    let read = whole ws (read_at 200 ws s 0) in
    cond (count_right (length ws)) read (refused 5 (length ws))
