-- Expressions and valid words are the same thing: what valid words mean has those words again and is proper, and a
-- proper expression's words, where they are valid, mean that expression. Targets and Statements say the same of the
-- others.
-- Assumes nothing.
use mathlib.Core.Bool.{Bool, true, false}
use mathlib.Core.List.{List, [], ◌∷◌}
use mathlib.Core.Path.{◌≡◌, refl, ap, ap₂, sym, subst, ◌∙◌}
use Prim.Native.Nat.{ℕ, suc, ◌+◌, ◌-◌, ◌*◌, ◌/◌, ◌%◌, ◌<◌}
use native.Mathlib.Omega.{arith}
use borrow.Author.Tests.{ne_eqb, eqb-true, ltb-true}
use lib.Dec.{eqb, ltb, leb}
use lib.ListN.{length, get_or, drop, replicate, length-replicate}
use Rattle.std.proofs.lemmas.Grind.{common_steps}
use Rattle.spec.specs.Rose.{Rose, Roses, node, nil, cons, count, parts_of}
use Rattle.spec.specs.Grammar.{header, kind_in, detail_in, bit, Ruled, text, rules, part_count, part_sort, Valid}
use Rattle.spec.specs.Grammar.{Valids}
use Rattle.spec.specs.Tree
use Rattle.spec.specs.Tree.{Const, boolean, int, string, type_function, len_function, other}
use Rattle.spec.specs.Tree.{Place, local, captured, module', def, tuple, list, and, or}
use Rattle.spec.specs.Tree.{Expr, const, read, fresh, dict, if_then, type_is, logic, seq, oper, call}
use Rattle.spec.specs.Tree.{Exprs, no_exprs, more_exprs, bit_of, const_words, names_word, count_e, rose_e, roses_e}
use Rattle.spec.specs.Proper.{is_operator, ProperConst, Proper, Propers}
use Rattle.spec.specs.Meaning.{flag, part_e, rest_e, const_of, expr_by, expr_of, exprs_of}
use Rattle.spec.specs.declared.Sort.{Sort}
use Rattle.spec.specs.declared.Sort.TheVariants as sort
use Rattle.spec.proofs.Outcomes.{both}
use Rattle.spec.proofs.Heads
use Rattle.spec.proofs.Heads.{headed_pay, headed_parts}
use Rattle.spec.proofs.Heads.{header_again, kind_of_header, detail_of_header, operator_view, Class}
use Rattle.spec.proofs.Heads.{Operator, slice, builtin1, builtin2, index2, ExprHead, constant, place, operator}
use Rattle.spec.proofs.Heads.{expr_head_lem, Payload, no_word, word, payload_view, payload_length, Many, no_part, part}
use Rattle.spec.proofs.Heads.{many_view, many_count}

-- ---- bits

-- a number below 2 as a truth and back
pub bit_again : (b : ℕ) → b < 2 → bit_of (eqb b 1) ≡ b
bit_again b l = grind (arith, common_steps)

pub truth_again : (b : Bool) → eqb (bit_of b) 1 ≡ b
truth_again true = refl
truth_again false = refl

-- a truth as a bit
bit_small : (b : Bool) → bit_of b < 2
bit_small true = omega arith
bit_small false = omega arith

-- a word of 16 bits and two flags
pub flags_again : (w : ℕ) → w < 262144 → w % 65536 + 65536 * bit_of (flag 65536 w) + 131072 * bit_of (flag 131072 w) ≡ w
flags_again w l =
    omega (arith, bit_again (bit 65536 w) (omega arith), bit_again (bit 131072 w) (omega arith))

-- the flags and the 16 bits of such a word
module _ (n : ℕ) (a b : Bool) (small : n < 65536) where
  pub low_flag : flag 65536 (n + 65536 * bit_of a + 131072 * bit_of b) ≡ a
  low_flag = grind (arith, common_steps)

  pub high_flag : flag 131072 (n + 65536 * bit_of a + 131072 * bit_of b) ≡ b
  high_flag = grind (arith, common_steps)

  pub low_bits : (n + 65536 * bit_of a + 131072 * bit_of b) % 65536 ≡ n
  low_bits = omega (arith, bit_small a, bit_small b)

-- ---- words, what they mean, and the words of that

-- a constant of each class
const_again : {d : ℕ} (c : Class d) (pay : List ℕ) → Payload d (rules 1 d (get_or pay 0 0)) pay
    → const_words (const_of d pay) ≡ header 1 d ∷ pay
const_again Heads.none pay (word {w} e no_word) = ap (λ n. 1 ∷ n ∷ []) (sym (eqb-true w 0 e))
const_again Heads.boolean pay (word {w} e no_word) = ap (λ n. 257 ∷ n ∷ []) (bit_again w (ltb-true w 2 e))
const_again Heads.int pay (word e no_word) = refl
const_again Heads.string pay (word e no_word) = refl
const_again Heads.type_function pay (word {w} e no_word) = ap (λ n. 1025 ∷ n ∷ []) (sym (eqb-true w 0 e))
const_again Heads.len_function pay (word {w} e no_word) = ap (λ n. 1281 ∷ n ∷ []) (sym (eqb-true w 0 e))
const_again Heads.other pay (word {w} e (word {w = v} f no_word)) =
    ap (λ n. 1537 ∷ w ∷ n ∷ []) (flags_again v (ltb-true v 262144 f))

-- as many expressions as trees
count_exprs : (ps : Roses) → count_e (exprs_of ps) ≡ count ps
unfolding exprs_of
count_exprs nil = refl
count_exprs (cons p ps) = ap suc (count_exprs ps)

-- a header of another kind is neither Not's nor TypeIs'
other_kind : (k d c : ℕ) → (k < 256) × (k ≡ 11 → ⊥) → eqb (header k d) (header 11 c) ≡ false
other_kind k d c u = ne_eqb (header k d) (header 11 c) (λ e. u.1 (omega arith))

-- an operator is what none of the other kinds is
pub operator_by : {k d : ℕ} → Operator k d → (pay : List ℕ) (es : Exprs)
    → expr_by k d (header k d) pay es ≡ oper (header k d) pay es
operator_by (slice {d}) pay es =
    simp (other_kind 10 d 3 (omega arith), other_kind 10 d 4 (omega arith))
operator_by (builtin1 {d} u v) pay es =
    let not_not = ne_eqb (header 11 d) (header 11 3) (λ e. u (omega arith)) in
    let not-type-is = ne_eqb (header 11 d) (header 11 4) (λ e. v (omega arith)) in
    simp (not_not, not-type-is)
operator_by (builtin2 {d}) pay es =
    simp (other_kind 14 d 3 (omega arith), other_kind 14 d 4 (omega arith))
operator_by (index2 {d}) pay es =
    simp (other_kind 15 d 3 (omega arith), other_kind 15 d 4 (omega arith))

-- a call is one too, by its kind
pub call_by : (d : ℕ) (pay : List ℕ) (es : Exprs)
    → expr_by 16 d (header 16 d) pay es
    ≡ call (drop 1 pay) (flag 65536 (get_or pay 0 0)) (flag 131072 (get_or pay 0 0)) (part_e 0 es) (rest_e es)
call_by d pay es =
    simp (other_kind 16 d 3 (omega arith), other_kind 16 d 4 (omega arith))

-- the words of an expression made of an accepted header, a payload and parts
call_again : (d w : ℕ) (names : List ℕ) (ps : Roses) → w < 262144 → length names ≡ w % 65536
    → count ps ≡ part_count 16 d w
    → rose_e (expr_by 16 d (header 16 d) (w ∷ names) (exprs_of ps))
    ≡ node sort.Expr (header 16 d ∷ w ∷ names) (roses_e (exprs_of ps))
unfolding exprs_of
call_again d w names nil l e m = absurd (omega arith)
call_again d w names (cons p ps) l e m =
    let args = bit_again (bit 65536 w) (omega arith) in
    let kwargs = bit_again (bit 131072 w) (omega arith) in
    let words : ℕ → ℕ → Rose = λ c v. node sort.Expr (header 16 c ∷ v ∷ names) (roses_e (exprs_of (cons p ps))) in
    ap rose_e (call_by d (w ∷ names) (exprs_of (cons p ps)))
    ∙ ap₂ words (omega (arith, count_exprs ps, args, kwargs)) (omega (arith, flags_again w l))

-- of any kind
expr_by_lem : {k d : ℕ} → ExprHead k d → (pay : List ℕ) (ps : Roses)
    → Payload d (rules k d (get_or pay 0 0)) pay → Many (part_count k d (get_or pay 0 0)) ps
    → rose_e (expr_by k d (header k d) pay (exprs_of ps)) ≡ node sort.Expr (header k d ∷ pay) (roses_e (exprs_of ps))
unfolding exprs_of
expr_by_lem (constant c) pay ps w no_part = ap (λ own. node sort.Expr own nil) (const_again c pay w)
expr_by_lem (place Heads.local) pay ps (word e no_word) no_part = refl
expr_by_lem (place Heads.captured) pay ps (word e no_word) no_part = refl
expr_by_lem (place Heads.module') pay ps (word e no_word) no_part = refl
expr_by_lem (place Heads.def) pay ps (word e no_word) no_part = refl
expr_by_lem Heads.tuple pay ps no_word m =
    ap (λ n. node sort.Expr (header 6 n ∷ []) (roses_e (exprs_of ps))) (count_exprs ps ∙ many_count m)
expr_by_lem Heads.list pay ps no_word m =
    ap (λ n. node sort.Expr (header 7 n ∷ []) (roses_e (exprs_of ps))) (count_exprs ps ∙ many_count m)
expr_by_lem Heads.dict pay ps no_word m =
    ap (λ n. node sort.Expr (header 8 n ∷ []) (roses_e (exprs_of ps))) (omega (arith, count_exprs ps, many_count m))
expr_by_lem Heads.if_then pay ps no_word (part (part (part no_part))) = refl
expr_by_lem Heads.negation pay ps no_word (part no_part) = refl
expr_by_lem Heads.type_is pay ps (word e no_word) (part no_part) = refl
expr_by_lem Heads.and pay ps no_word (part (part no_part)) = refl
expr_by_lem Heads.or pay ps no_word (part (part no_part)) = refl
expr_by_lem Heads.seq pay ps no_word (part (part no_part)) = refl
expr_by_lem (operator o) pay ps w m = ap rose_e (operator_by o pay (exprs_of ps))
expr_by_lem (Heads.call {d}) pay ps (word {w} {ws} e q) m =
    call_again d w ws ps (ltb-true w 262144 (both (ltb w 262144) (leb (w % 65536) d) e).0)
    (payload_length q ∙ length-replicate (w % 65536) text) (many_count m)

-- ---- expressions

-- an expression's parts are expressions
pub part_expr : {k d : ℕ} → ExprHead k d → (i : ℕ) → part_sort k i ≡ sort.Expr
part_expr p i = grind (arith, common_steps)

-- parts that are of a sort by one name are so by another
pub valids_as : (f g : ℕ → Sort) → ((i : ℕ) → f i ≡ g i) → (ps : Roses) (i : ℕ) → Valids f i ps → Valids g i ps
valids_as f g e nil i v = tt
valids_as f g e (cons p ps) i v = (subst (λ s. Valid s p) (e i) v.0, valids_as f g e ps (suc i) v.1)

-- all parts of valid words
pub expr_parts : (r : Rose) → Valid sort.Expr r → Valids (λ i. sort.Expr) 0 (parts_of r)
expr_parts (node t [] ps) v = absurd v.1
expr_parts (node t (h ∷ pay) ps) v =
    let each = part_expr (expr_head_lem (kind_in h) (detail_in h) v.1.head) in
    valids_as (part_sort (kind_in h)) (λ i. sort.Expr) each ps 0 v.2

-- one node, its parts being done
expr_own : (t : Sort) (h : ℕ) (pay : List ℕ) (ps : Roses) → Valid sort.Expr (node t (h ∷ pay) ps)
    → roses_e (exprs_of ps) ≡ ps → rose_e (expr_of (node t (h ∷ pay) ps)) ≡ node t (h ∷ pay) ps
unfolding expr_of
expr_own t h pay ps v back =
    let k = kind_in h in
    let d = detail_in h in
    let made = expr_by_lem (expr_head_lem k d v.1.head) pay ps (headed_pay v.1) (headed_parts v.1) in
    ap (λ n. rose_e (expr_by k d n pay (exprs_of ps))) (header_again h) ∙ made
    ∙ ap₂ (λ n x. node sort.Expr (n ∷ pay) x) (sym (header_again h)) back
    ∙ ap (λ s. node s (h ∷ pay) ps) (sym v.0)

mutual
  unfolding exprs_of

  pub rose_expr : (r : Rose) → Valid sort.Expr r → rose_e (expr_of r) ≡ r
  rose_expr (node t [] ps) v = absurd v.1
  rose_expr (node t (h ∷ pay) ps) v =
      expr_own t h pay ps v (rose_exprs ps 0 (expr_parts (node t (h ∷ pay) ps) v))

  pub rose_exprs : (ps : Roses) (i : ℕ) → Valids (λ i. sort.Expr) i ps → roses_e (exprs_of ps) ≡ ps
  rose_exprs nil i v = refl
  rose_exprs (cons p ps) i v = ap₂ cons (rose_expr p v.0) (rose_exprs ps (suc i) v.1)

-- what words mean is proper
operator_header : {k d : ℕ} → Operator k d → is_operator (kind_in (header k d)) (detail_in (header k d)) ≡ true
operator_header o = grind (arith, common_steps)

-- constants, a callee with its arguments, and any kind
proper_const : {d : ℕ} → Class d → (pay : List ℕ) → ProperConst (const_of d pay)
proper_const Heads.other pay = omega arith
proper_const _ pay = tt

proper_first : (es : Exprs) → Propers es → Proper (part_e 0 es) × Propers (rest_e es)
proper_first no_exprs v = (tt, tt)
proper_first (more_exprs e es) v = v

proper_by : {k d : ℕ} → ExprHead k d → (pay : List ℕ) (ps : Roses)
    → Many (part_count k d (get_or pay 0 0)) ps → Propers (exprs_of ps) → Proper
    (expr_by k d (header k d) pay (exprs_of ps))
unfolding exprs_of
proper_by (constant c) pay ps m v = proper_const c pay
proper_by (place Heads.local) pay ps m v = tt
proper_by Heads.tuple pay ps m v = v
proper_by Heads.list pay ps m v = v
proper_by Heads.dict pay ps m v = v
proper_by Heads.if_then pay ps (part (part (part no_part))) v = (v.0, v.1.0, v.1.1.0)
proper_by Heads.negation pay ps (part no_part) v = v.0
proper_by Heads.type_is pay ps (part no_part) v = v.0
proper_by Heads.and pay ps (part (part no_part)) v = (v.0, v.1.0)
proper_by Heads.or pay ps (part (part no_part)) v = (v.0, v.1.0)
proper_by Heads.seq pay ps (part (part no_part)) v = (v.0, v.1.0)
proper_by (operator o) pay ps m v = subst Proper (sym (operator_by o pay (exprs_of ps))) (operator_header o, v)
proper_by (Heads.call {d}) pay ps m v = subst Proper (sym (call_by d pay (exprs_of ps))) (proper_first (exprs_of ps) v)
proper_by _ pay ps m v = tt

-- one node, its parts being done
proper_own : (t : Sort) (h : ℕ) (pay : List ℕ) (ps : Roses) → Valid sort.Expr (node t (h ∷ pay) ps)
    → Propers (exprs_of ps) → Proper (expr_of (node t (h ∷ pay) ps))
unfolding expr_of
proper_own t h pay ps v each =
    let k = kind_in h in
    let d = detail_in h in
    subst (λ n. Proper (expr_by k d n pay (exprs_of ps))) (sym (header_again h))
    (proper_by (expr_head_lem k d v.1.head) pay ps (headed_parts v.1) each)

mutual
  unfolding exprs_of

  pub proper_expr : (r : Rose) → Valid sort.Expr r → Proper (expr_of r)
  proper_expr (node t [] ps) v = absurd v.1
  proper_expr (node t (h ∷ pay) ps) v =
      proper_own t h pay ps v (proper_exprs ps 0 (expr_parts (node t (h ∷ pay) ps) v))

  pub proper_exprs : (ps : Roses) (i : ℕ) → Valids (λ i. sort.Expr) i ps → Propers (exprs_of ps)
  proper_exprs nil i v = tt
  proper_exprs (cons p ps) i v = (proper_expr p v.0, proper_exprs ps (suc i) v.1)

-- a proper tree's words mean that tree
expr_of_header : (k d : ℕ) → k < 256 → (pay : List ℕ) (ps : Roses)
    → expr_of (node sort.Expr (header k d ∷ pay) ps) ≡ expr_by k d (header k d) pay (exprs_of ps)
unfolding expr_of
expr_of_header k d l pay ps =
    ap₂ (λ j c. expr_by j c (header k d) pay (exprs_of ps)) (kind_of_header k d l) (detail_of_header k d l)

-- constants and reads
const_back : (c : Const) → ProperConst c → expr_of (rose_e (const c)) ≡ const c
unfolding expr_of
const_back (boolean b) p = ap (λ t. const (boolean t)) (truth_again b)
const_back (other n t b e) p =
    let text = low_bits t b e p in
    let low = low_flag t b e p in
    let high = high_flag t b e p in
    cc
const_back _ p = refl

place_back : (p : Place) → expr_of (rose_e (read p)) ≡ read p
unfolding expr_of
place_back (local n) = refl
place_back _ = refl

-- operators
operator_back : (h : ℕ) (pay : List ℕ) (es : Exprs) → is_operator (kind_in h) (detail_in h) ≡ true
    → expr_by (kind_in h) (detail_in h) h pay es ≡ oper h pay es
operator_back h pay es o =
    let k = kind_in h in
    let d = detail_in h in
    subst (λ n. expr_by k d n pay es ≡ oper n pay es) (sym (header_again h)) (operator_by (operator_view k d o) pay es)

-- an accepted call has as many names as its word says
pub names_many : (k d w : ℕ) (names : List ℕ) → k ≡ 16 → Ruled d (rules k d w) (w ∷ names) → length names ≡ w % 65536
names_many k d w names e v =
    let q : Ruled d (replicate (w % 65536) text) names = (subst (λ j. Ruled d (rules j d w) (w ∷ names)) e v).1 in
    payload_length (payload_view (replicate (w % 65536) text) names q) ∙ length-replicate (w % 65536) text

-- calls, their parts being done
call_back : (names : List ℕ) (args kwargs : Bool) (f : Expr) (es : Exprs)
    → Valid sort.Expr (rose_e (call names args kwargs f es)) → expr_of (rose_e f) ≡ f → exprs_of (roses_e es) ≡ es
    → expr_of (rose_e (call names args kwargs f es)) ≡ call names args kwargs f es
unfolding exprs_of
call_back names args kwargs f es v one others =
    let d = count_e es - (bit_of args + bit_of kwargs) in
    let w = names_word names args kwargs in
    let h = header 16 d in
    let many = names_many (kind_in h) (detail_in h) w names (kind_of_header 16 d (omega arith)) v.1.ruled in
    let low = low_flag (length names) args kwargs (omega (arith, many)) in
    let high = high_flag (length names) args kwargs (omega (arith, many)) in
    expr_of_header 16 d (omega arith) (w ∷ names) (cons (rose_e f) (roses_e es))
    ∙ call_by d (w ∷ names) (more_exprs (expr_of (rose_e f)) (exprs_of (roses_e es)))
    ∙ cc

mutual
  unfolding expr_of exprs_of

  pub expr_again : (e : Expr) → Proper e → Valid sort.Expr (rose_e e) → expr_of (rose_e e) ≡ e
  expr_again (const c) p v = const_back c p
  expr_again (read x) p v = place_back x
  expr_again (fresh tuple es) p v =
      expr_of_header 6 (count_e es) (omega arith) [] (roses_e es)
      ∙ ap (fresh tuple) (exprs_again es 0 p (expr_parts (rose_e (fresh tuple es)) v))
  expr_again (fresh list es) p v =
      expr_of_header 7 (count_e es) (omega arith) [] (roses_e es)
      ∙ ap (fresh list) (exprs_again es 0 p (expr_parts (rose_e (fresh list es)) v))
  expr_again (dict es) p v =
      expr_of_header 8 (count_e es / 2) (omega arith) [] (roses_e es)
      ∙ ap dict (exprs_again es 0 p (expr_parts (rose_e (dict es)) v))
  expr_again (if_then c t f) p v =
      let w = expr_parts (rose_e (if_then c t f)) v in
      let x = expr_again c p.0 w.0 in
      let y = expr_again t p.1 w.1.0 in
      let z = expr_again f p.2 w.1.1.0 in
      cc
  expr_again (Tree.not e) p v = ap Tree.not (expr_again e p (expr_parts (rose_e (Tree.not e)) v).0)
  expr_again (type_is t e) p v = ap (type_is t) (expr_again e p (expr_parts (rose_e (type_is t e)) v).0)
  expr_again (logic and x y) p v =
      let w = expr_parts (rose_e (logic and x y)) v in
      ap₂ (logic and) (expr_again x p.0 w.0) (expr_again y p.1 w.1.0)
  expr_again (logic or x y) p v =
      let w = expr_parts (rose_e (logic or x y)) v in
      ap₂ (logic or) (expr_again x p.0 w.0) (expr_again y p.1 w.1.0)
  expr_again (seq x y) p v =
      let w = expr_parts (rose_e (seq x y)) v in
      ap₂ seq (expr_again x p.0 w.0) (expr_again y p.1 w.1.0)
  expr_again (oper h pay es) p v =
      operator_back h pay (exprs_of (roses_e es)) p.0
      ∙ ap (oper h pay) (exprs_again es 0 p.1 (expr_parts (rose_e (oper h pay es)) v))
  expr_again (call names args kwargs f es) p v =
      let w = expr_parts (rose_e (call names args kwargs f es)) v in
      call_back names args kwargs f es v (expr_again f p.0 w.0) (exprs_again es 1 p.1 w.1)

  pub exprs_again : (es : Exprs) (i : ℕ) → Propers es → Valids (λ i. sort.Expr) i (roses_e es) → exprs_of (roses_e es)
      ≡ es
  exprs_again no_exprs i p v = refl
  exprs_again (more_exprs e es) i p v = ap₂ more_exprs (expr_again e p.0 v.0) (exprs_again es (suc i) p.1 v.1)
