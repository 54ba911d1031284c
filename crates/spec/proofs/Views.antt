-- The verdicts on one expression by the numbers of its own words, as code reads them; of a valid expression that its
-- parts are valid, and how many words and parts it has; and induction over parts. For other crates: the lemmas
-- `..-view` speak of an expression and its words, the lemmas `..-words` of words and what they mean.
-- Assumes nothing.
use mathlib.Core.Bool.{Bool, true, false, not, ◌&&◌, and-true}
use mathlib.Core.List.{List, [], ◌∷◌}
use mathlib.Core.Path.{◌≡◌, refl, ap, ap₂, sym, subst, ◌∙◌}
use Prim.Native.Nat.{ℕ, suc, ◌+◌, ◌-◌, ◌/◌, ◌<◌}
use native.Mathlib.Omega.{arith}
use borrow.Author.Tests.{ne_eqb}
use lib.Dec.{eqb}
use lib.ListN.{length, get_or}
use Rattle.std.proofs.lemmas.Grind.{common_steps}
use Rattle.spec.specs.Rose.{Rose, node, count, own_of, parts_of}
use Rattle.spec.specs.Grammar.{header, kind_in, detail_in, rules, part_count, Valid, Valids}
use Rattle.spec.specs.Tree
use Rattle.spec.specs.Tree.{boolean, int, string, type_function, len_function, other, local, captured, module', def}
use Rattle.spec.specs.Tree.{tuple, list, and, or}
use Rattle.spec.specs.Tree.{Expr, const, read, fresh, dict, if_then, type_is, logic, seq, oper, call}
use Rattle.spec.specs.Tree.{Exprs, no_exprs, more_exprs, bit_of, names_word, count_e, rose_e, roses_e}
use Rattle.spec.specs.Meaning.{expr_of, exprs_of, part_e}
use Rattle.spec.specs.Verdict.{is_none, is_type_function, is_plain, pure, pures, pure_one, known, known_if, truth_of}
use Rattle.spec.specs.Verdict.{definitely_bool, empty_iterable}
use Rattle.spec.specs.Proper.{Proper, Propers}
use Rattle.spec.specs.Views.{word_in, kind_of, detail_of, lead_of, parts_e, own_pure, truth_by, truth_with, bool_by}
use Rattle.spec.specs.Views.{empty_by}
use Rattle.spec.specs.declared.Sort.TheVariants as sort
use Rattle.spec.specs.declared.Truth.{Truth}
use Rattle.spec.specs.declared.Truth.TheVariants as truth
use Rattle.spec.proofs.Heads.{headed_pay}
use Rattle.spec.proofs.Heads.{outside, kind_of_header, detail_of_header, Operator, slice, builtin1}
use Rattle.spec.proofs.Heads.{operator_view, payload_length}
use Rattle.spec.proofs.Meanings.{expr_parts, rose_expr, proper_expr, exprs_again, low_flag, high_flag}

-- ---- parts

-- the parts' words are the words' parts
pub parts_rose : (e : Expr) → roses_e (parts_e e) ≡ parts_of (rose_e e)
parts_rose (const c) = refl
parts_rose _ = refl

-- what holds of an expression where it holds of its parts, one behind the other, holds of every expression
module _ (P : Expr → Type 0) (Q : Exprs → Type 0) (step : (e : Expr) → Q (parts_e e) → P e)
    (none : Q no_exprs) (more : (e : Expr) (es : Exprs) → P e → Q es → Q (more_exprs e es)) where
  mutual
    pub by_parts : (e : Expr) → P e
    by_parts (const c) = step (const c) none
    by_parts (read p) = step (read p) none
    by_parts (fresh f es) = step (fresh f es) (all_by_parts es)
    by_parts (dict es) = step (dict es) (all_by_parts es)
    by_parts (if_then c t f) =
        step (if_then c t f)
        (more c (more_exprs t (more_exprs f no_exprs)) (by_parts c)
        (more t (more_exprs f no_exprs) (by_parts t) (more f no_exprs (by_parts f) none)))
    by_parts (Tree.not e) = step (Tree.not e) (more e no_exprs (by_parts e) none)
    by_parts (type_is t e) = step (type_is t e) (more e no_exprs (by_parts e) none)
    by_parts (logic l x y) =
        step (logic l x y) (more x (more_exprs y no_exprs) (by_parts x) (more y no_exprs (by_parts y) none))
    by_parts (seq x y) =
        step (seq x y) (more x (more_exprs y no_exprs) (by_parts x) (more y no_exprs (by_parts y) none))
    by_parts (oper h pay es) = step (oper h pay es) (all_by_parts es)
    by_parts (call names args kwargs f es) =
        step (call names args kwargs f es) (more f es (by_parts f) (all_by_parts es))

    pub all_by_parts : (es : Exprs) → Q es
    all_by_parts no_exprs = none
    all_by_parts (more_exprs e es) = more e es (by_parts e) (all_by_parts es)

-- as many of the one as of the other
pub count_roses : (es : Exprs) → count (roses_e es) ≡ count_e es
count_roses no_exprs = refl
count_roses (more_exprs e es) = ap suc (count_roses es)

-- of a valid expression's words
pub words_long : (r : Rose) → Valid sort.Expr r
    → length (own_of r) ≡ 1 + length (rules (kind_of r) (detail_of r) (word_in r 1))
words_long (node t [] ps) v = absurd v.1
words_long (node t (h ∷ pay) ps) v =
    let e = payload_length (headed_pay v.1) in
    omega arith

pub words_parts : (r : Rose) → Valid sort.Expr r → count (parts_of r) ≡ part_count (kind_of r) (detail_of r)
    (word_in r 1)
words_parts (node t [] ps) v = absurd v.1
words_parts (node t (h ∷ pay) ps) v = v.1.many

-- of a valid expression
module _ (e : Expr) (v : Valid sort.Expr (rose_e e)) where
  pub parts_valid : Valids (λ i. sort.Expr) 0 (roses_e (parts_e e))
  parts_valid = subst (Valids (λ i. sort.Expr) 0) (sym (parts_rose e)) (expr_parts (rose_e e) v)

  pub parts_count : count_e (parts_e e) ≡ part_count (kind_of (rose_e e)) (detail_of (rose_e e)) (word_in (rose_e e) 1)
  parts_count = sym (count_roses (parts_e e)) ∙ ap count (parts_rose e) ∙ words_parts (rose_e e) v

-- a proper expression's parts
pub parts_proper : (e : Expr) → Proper e → Propers (parts_e e)
parts_proper e p = grind (arith, common_steps)

-- ---- tests

-- a function of a header's kind and detail
pub by_header : {A : Type 0} (f : ℕ → ℕ → A) (k d : ℕ) → k < 256
    → f k d ≡ f (kind_in (header k d)) (detail_in (header k d))
by_header f k d l = ap₂ f (sym (kind_of_header k d l)) (sym (detail_of_header k d l))

-- no parts, by their count
none_test : (es : Exprs) → is_none es ≡ eqb (count_e es) 0
none_test no_exprs = refl
none_test (more_exprs e es) = sym (ne_eqb (suc (count_e es)) 0 (λ e. omega arith))

-- a dict has twice as many parts as pairs, so none where it has no pair
pair_test : (es : Exprs) → Valid sort.Expr (rose_e (dict es)) → is_none es ≡ eqb (count_e es / 2) 0
pair_test no_exprs v = refl
pair_test (more_exprs e es) v =
    let n = suc (count_e es) in
    let two = by_header (λ k d. part_count k d 0) 8 (n / 2) (omega arith) in
    let m = parts_count (dict (more_exprs e es)) v in
    sym (ne_eqb (n / 2) 0 (λ z. omega arith))

-- a truth by its bit
bit_test : (b : Bool) → b ≡ not (eqb (bit_of b) 0)
bit_test true = refl
bit_test false = refl

-- ---- truth

-- at the numbers of a header, the payload words and the parts
abbrev truth_at : ℕ → ℕ → Exprs → ℕ → ℕ → Truth
truth_at w v es k d = truth_with k d w v es

-- an operator has none
operator_truth : {k d : ℕ} → Operator k d → (w v : ℕ) (es : Exprs) → truth.Unknown ≡ truth_at w v es k d
operator_truth (builtin1 {d} u x) w v es = simp (ne_eqb d 3 u)
operator_truth _ w v es = refl

pub truth_view : (e : Expr) → Proper e
    → truth_of e ≡ truth_by (kind_of (rose_e e)) (detail_of (rose_e e)) (word_in (rose_e e) 1) (word_in (rose_e e) 2)
    (pures (parts_e e)) (count_e (parts_e e)) (truth_of (part_e 0 (parts_e e))) (truth_of (part_e 1 (parts_e e)))
unfolding truth_of
truth_view (const (boolean b)) p = ap known (bit_test b)
truth_view (const (other n t b e)) p = ap known (sym (low_flag t b e p))
truth_view (read (local n)) p = refl
truth_view (fresh tuple es) p =
    ap (λ b. known_if (pures es) (not b)) (none_test es) ∙ by_header (truth_at 0 0 es) 6 (count_e es) (omega arith)
truth_view (fresh list es) p =
    ap (λ b. known_if (pures es) (not b)) (none_test es) ∙ by_header (truth_at 0 0 es) 7 (count_e es) (omega arith)
truth_view (dict es) p =
    ap (λ b. known_if b false) (none_test es) ∙ by_header (truth_at 0 0 es) 8 (count_e es / 2) (omega arith)
truth_view (logic and x y) p = refl
truth_view (oper h pay es) p =
    operator_truth (operator_view (kind_in h) (detail_in h) p.0) (get_or pay 0 0) (get_or pay 1 0) es
truth_view (call names args kwargs f es) p =
    by_header (truth_at (names_word names args kwargs) (get_or names 0 0) (more_exprs f es)) 16
    (count_e es - (bit_of args + bit_of kwargs)) (omega arith)
truth_view _ p = refl

-- ---- definitely bool

pub bool_view : (e : Expr) → Proper e → definitely_bool e ≡ bool_by (kind_of (rose_e e)) (detail_of (rose_e e))
bool_view e p = grind (arith, common_steps)

-- ---- empty iterable

-- at the numbers of a header and the second payload word
abbrev empty_at : ℕ → ℕ → ℕ → Bool
empty_at v k d = empty_by k d v

operator_empty : {k d : ℕ} → Operator k d → (v : ℕ) → false ≡ empty_by k d v
operator_empty slice v = refl
operator_empty _ v = refl

pub empty_view : (e : Expr) → Proper e → Valid sort.Expr (rose_e e)
    → empty_iterable e ≡ empty_by (kind_of (rose_e e)) (detail_of (rose_e e)) (word_in (rose_e e) 2)
empty_view (const (other n t b e)) p v = sym (high_flag t b e p)
empty_view (read (local n)) p v = refl
empty_view (fresh tuple es) p v = none_test es ∙ by_header (empty_at 0) 6 (count_e es) (omega arith)
empty_view (fresh list es) p v = none_test es ∙ by_header (empty_at 0) 7 (count_e es) (omega arith)
empty_view (dict es) p v = pair_test es v ∙ by_header (empty_at 0) 8 (count_e es / 2) (omega arith)
empty_view (logic and x y) p v = refl
empty_view (oper h pay es) p v = operator_empty (operator_view (kind_in h) (detail_in h) p.0) (get_or pay 1 0)
empty_view (call names args kwargs f es) p v =
    by_header (empty_at (get_or names 0 0)) 16 (count_e es - (bit_of args + bit_of kwargs)) (omega arith)
empty_view _ p v = refl

-- ---- pure

-- conjunctions that compute no further
and_false : (a b c : Bool) → b ≡ false → false ≡ (a && b) && c
and_false true b c e = simp e
and_false false b c e = refl

-- no parts are pure parts
none_pure : (es : Exprs) (test : Bool) → is_none es ≡ test → is_none es ≡ test && pures es
unfolding pures
none_pure no_exprs test e = e ∙ sym (and-true test)
none_pure (more_exprs x es) test e = ap (λ b. b && pures (more_exprs x es)) e

pub type_word : (e : Expr) → Proper e → is_type_function e ≡ eqb (word_in (rose_e e) 0) (header 1 4)
type_word e p = grind (arith, common_steps)

-- the type function is pure, so a call of it is judged by its other numbers
type_pure : (e : Expr) → is_type_function e ≡ true → pure e ≡ true
unfolding pure
type_pure e p = grind (arith, common_steps)

-- one argument, no names, no args, no kwargs, by the numbers of a call
plain_call_lem : (names : List ℕ) (args kwargs : Bool) (es : Exprs)
    → is_plain names args kwargs && pure_one es
    ≡ (eqb (count_e es - (bit_of args + bit_of kwargs)) 1 && eqb (names_word names args kwargs) 0) && pures es
unfolding pures pure_one
plain_call_lem (n ∷ names) args kwargs es =
    and_false (eqb (count_e es - (bit_of args + bit_of kwargs)) 1) (eqb (names_word (n ∷ names) args kwargs) 0)
    (pures es)
    (ne_eqb (names_word (n ∷ names) args kwargs) 0 (λ e. omega arith))
plain_call_lem [] true kwargs es =
    and_false (eqb (count_e es - (1 + bit_of kwargs)) 1) (eqb (names_word [] true kwargs) 0) (pures es)
    (ne_eqb (names_word [] true kwargs) 0 (λ e. omega arith))
plain_call_lem [] false true es = and_false (eqb (count_e es - 1) 1) false (pures es) refl
plain_call_lem [] false false no_exprs = refl
plain_call_lem [] false false (more_exprs e no_exprs) = sym (and-true (pure e))
plain_call_lem [] false false (more_exprs e (more_exprs f es)) =
    ap (λ b. (b && true) && pures (more_exprs e (more_exprs f es)))
    (sym (ne_eqb (suc (suc (count_e es)) - 0) 1 (λ z. omega arith)))

-- such a call, where `one` is the judgement on its arguments
type_call_lem : (test : Bool) (f : Expr) (d w : ℕ) (es : Exprs) (one : Bool)
    → (test ≡ true → pure f ≡ true) → one ≡ (eqb d 1 && eqb w 0) && pures es
    → test && one ≡ (test && (eqb d 1 && eqb w 0)) && (pure f && pures es)
type_call_lem true f d w es one g e = simp (g refl) e
type_call_lem false f d w es one g e = refl

-- no operator is pure
operator_pure : {k d : ℕ} → Operator k d → (w lead : ℕ) → own_pure k d w lead ≡ false
operator_pure (builtin1 {d} u v) w lead = outside d u v
operator_pure _ w lead = refl

-- at the numbers of a header, a payload word, the first part's first word and the parts
abbrev pure_at : ℕ → ℕ → Exprs → ℕ → ℕ → Bool
pure_at w lead es k d = own_pure k d w lead && pures es

pub pure_view : (e : Expr) → Proper e → Valid sort.Expr (rose_e e)
    → pure e ≡ own_pure (kind_of (rose_e e)) (detail_of (rose_e e)) (word_in (rose_e e) 1)
    (lead_of (parts_of (rose_e e)))
    && pures (parts_e e)
unfolding pure pures
pure_view (const Tree.none) p v = refl
pure_view (read (local n)) p v = refl
pure_view (fresh tuple es) p v = by_header (pure_at 0 (lead_of (roses_e es)) es) 6 (count_e es) (omega arith)
pure_view (fresh list es) p v = by_header (pure_at 0 (lead_of (roses_e es)) es) 7 (count_e es) (omega arith)
pure_view (dict es) p v =
    none_pure es (eqb (count_e es / 2) 0) (pair_test es v)
    ∙ by_header (pure_at 0 (lead_of (roses_e es)) es) 8 (count_e es / 2) (omega arith)
pure_view (if_then c t f) p v = ap (λ b. pure c && (pure t && b)) (sym (and-true (pure f)))
pure_view (Tree.not e) p v = sym (and-true (pure e))
pure_view (type_is t e) p v = sym (and-true (pure e))
pure_view (logic and x y) p v = ap (λ b. pure x && b) (sym (and-true (pure y)))
pure_view (logic or x y) p v = ap (λ b. pure x && b) (sym (and-true (pure y)))
pure_view (seq x y) p v = ap (λ b. pure x && b) (sym (and-true (pure y)))
pure_view (oper h pay es) p v =
    sym (ap (λ b. b && pures es)
    (operator_pure (operator_view (kind_in h) (detail_in h) p.0) (get_or pay 0 0) (lead_of (roses_e es))))
pure_view (call names args kwargs f es) p v =
    let d = count_e es - (bit_of args + bit_of kwargs) in
    let w = names_word names args kwargs in
    let lead = word_in (rose_e f) 0 in
    type_call_lem (is_type_function f) f d w es (is_plain names args kwargs && pure_one es) (type_pure f)
    (plain_call_lem names args kwargs es)
    ∙ ap (λ t. (t && (eqb d 1 && eqb w 0)) && (pure f && pures es)) (type_word f p.0)
    ∙ by_header (pure_at w lead (more_exprs f es)) 16 d (omega arith)
pure_view _ p v = refl

-- ---- the same of valid words

-- the parts of what words mean are what their parts mean
pub parts_meant : (r : Rose) → Valid sort.Expr r → parts_e (expr_of r) ≡ exprs_of (parts_of r)
parts_meant r v =
    let back = rose_expr r v in
    let e = subst (Valid sort.Expr) (sym back) v in
    sym (exprs_again (parts_e (expr_of r)) 0 (parts_proper (expr_of r) (proper_expr r v)) (parts_valid (expr_of r) e))
    ∙ ap exprs_of (parts_rose (expr_of r) ∙ ap parts_of back)

-- the four verdicts
module _ (r : Rose) (v : Valid sort.Expr r) where
  valid_meant : Valid sort.Expr (rose_e (expr_of r))
  valid_meant = subst (Valid sort.Expr) (sym (rose_expr r v)) v

  pub pure_words : pure (expr_of r)
      ≡ own_pure (kind_of r) (detail_of r) (word_in r 1) (lead_of (parts_of r)) && pures (exprs_of (parts_of r))
  pure_words =
      pure_view (expr_of r) (proper_expr r v) valid_meant
      ∙ ap₂ (λ x es. own_pure (kind_of x) (detail_of x) (word_in x 1) (lead_of (parts_of x)) && pures es)
      (rose_expr r v) (parts_meant r v)

  pub truth_words : truth_of (expr_of r)
      ≡ truth_with (kind_of r) (detail_of r) (word_in r 1) (word_in r 2) (exprs_of (parts_of r))
  truth_words =
      truth_view (expr_of r) (proper_expr r v)
      ∙ ap₂ (λ x es. truth_at (word_in x 1) (word_in x 2) es (kind_of x) (detail_of x)) (rose_expr r v)
      (parts_meant r v)

  pub bool_words : definitely_bool (expr_of r) ≡ bool_by (kind_of r) (detail_of r)
  bool_words = bool_view (expr_of r) (proper_expr r v) ∙ ap (λ x. bool_by (kind_of x) (detail_of x)) (rose_expr r v)

  pub empty_words : empty_iterable (expr_of r) ≡ empty_by (kind_of r) (detail_of r) (word_in r 2)
  empty_words =
      empty_view (expr_of r) (proper_expr r v) valid_meant
      ∙ ap (λ x. empty_by (kind_of x) (detail_of x) (word_in x 2)) (rose_expr r v)
