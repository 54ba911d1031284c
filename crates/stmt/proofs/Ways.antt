-- What `way_at` tells: each test of its kind and detail leads to what is made of the expression.
-- Assumes nothing.
use mathlib.Core.Bool.{Bool, true, false, cond, ◌&&◌, false≢true}
use mathlib.Core.List.{List, [], ◌∷◌}
use mathlib.Core.Path.{◌≡◌, refl, ap, ap₂, sym, subst, ◌∙◌}
use Prim.Native.Nat.{ℕ, ◌+◌, ◌-◌, ◌≤◌}
use native.Mathlib.Omega.{arith}
use borrow.Author.Tests.{eq-eqb, ne_eqb, eqb-true}
use lib.Dec.{eqb}
use lib.ListN.{length, get_or}
use Rattle.spec.specs.Rose.{Rose, node, nil, cons, size, At}
use Rattle.spec.specs.Grammar.{header, within, Valid}
use Rattle.spec.specs.Tree
use Rattle.spec.specs.Tree.{tuple, list, bit_of, names_word, count_e, rose_e, expr}
use Rattle.spec.specs.Tree.{Expr, type_is, call, Exprs, no_exprs, more_exprs}
use Rattle.spec.specs.Proper.{ValidExpr}
use Rattle.spec.specs.Pass.{nodes_of}
use Rattle.spec.specs.PassStmts.{one, expr_step, call_stmts}
use Rattle.spec.specs.Verdict.{is_type_function, is_plain}
use Rattle.spec.specs.Views.{word_in, kind_of}
use Rattle.spec.specs.declared.Sort.TheVariants as sort
use Rattle.spec.proofs.Outcomes.{both}
use Rattle.spec.proofs.Passed.{valid_parts, one_part, two_parts, first_exprs}
use Rattle.spec.proofs.Views.{count_roses, type_word}
use Rattle.ir.specs.Standing.{Shape, NodeOf, SomeExprs, SkipOf}
use Rattle.expr_bool.specs.Asked.{ExprAt}
use Rattle.stmt.specs.Made.{WayOf, parts, part, logical, stays, WayAsk, WayDone}
use Rattle.stmt.specs.declared.Way.TheVariants as way
use Rattle.stmt.proofs.Forms.{Stays, Form, tuples, lists, negations, type_tests, ands, ors, calls, others, form}

-- ---- a call by its numbers

-- the test that `purity::call::as_type` makes
abbrev as_type : ℕ → ℕ → ℕ → Bool
as_type callee d v = eqb callee (header 1 4) && (eqb d 1 && eqb v 0)

-- the first word of an expression
first_word : (r : Rose) (w : List ℕ) (at : ℕ) → Valid sort.Expr r → At w at r → get_or w at 0 ≡ word_in r 0
first_word (node t [] ps) w at v a = absurd v.1
first_word (node t (h ∷ pay) ps) w at v a = a.0.0

and_false : (a : Bool) → false ≡ a && false
and_false true = refl
and_false false = refl

-- of a call with one argument, whether it has no names, no args and no kwargs
plain_words : (names : List ℕ) (args kwargs : Bool)
    → is_plain names args kwargs ≡ eqb (1 - (bit_of args + bit_of kwargs)) 1 && eqb (names_word names args kwargs) 0
plain_words [] true true = refl
plain_words [] true false = refl
plain_words [] false true = refl
plain_words [] false false = refl
plain_words (m ∷ names) args kwargs =
    let e = ne_eqb (names_word (m ∷ names) args kwargs) 0 (λ (z : names_word (m ∷ names) args kwargs ≡ 0). omega arith)
    in
    and_false (eqb (1 - (bit_of args + bit_of kwargs)) 1)
    ∙ ap (λ (b : Bool). eqb (1 - (bit_of args + bit_of kwargs)) 1 && b) (sym e)

module _ (names : List ℕ) (args kwargs : Bool) (f : Expr) (es : Exprs) {w : List ℕ} {at v first n : ℕ}
    (s : Shape (rose_e (call names args kwargs f es)) at 16 (count_e es - (bit_of args + bit_of kwargs)) v first n)
    (x : ExprAt w at (call names args kwargs f es)) where
  callee_valid : ValidExpr f
  callee_valid = (first_exprs f es (valid_parts (call names args kwargs f es) x.valid)).0

  callee_at : At w first (rose_e f)
  callee_at = subst (λ (i : ℕ). At w i (rose_e f)) (sym s.is_first) x.here.1.0

  callee_word : is_type_function f ≡ eqb (get_or w first 0) (header 1 4)
  callee_word =
      type_word f callee_valid.0
      ∙ ap (λ (h : ℕ). eqb h (header 1 4)) (sym (first_word (rose_e f) w first callee_valid.1 callee_at))

  callee_skip : first + size (rose_e f) ≤ length w → SomeExprs w first 1
  callee_skip i = record {
    trees = cons (rose_e f) nil;
    valid = (callee_valid.1, tt);
    here = (callee_at, tt);
    many = refl;
    inside = omega (arith, i);
  }

  callee_ends : {place : ℕ} → SkipOf w first 1 place → place ≡ first + size (rose_e f)
  callee_ends q = omega (arith, q.of (cons (rose_e f) nil) (callee_valid.1, tt) (callee_at, tt) refl)

-- a type call gives its argument
type_way : (names : List ℕ) (args kwargs : Bool) (f : Expr) (es : Exprs) {w : List ℕ} {at v first n place : ℕ}
    → Shape (rose_e (call names args kwargs f es)) at 16 (count_e es - (bit_of args + bit_of kwargs)) v first n
    → ExprAt w at (call names args kwargs f es)
    → as_type (get_or w first 0) (count_e es - (bit_of args + bit_of kwargs)) v ≡ true
    → SkipOf w first 1 place → WayOf w at (call names args kwargs f es) (way.Part place)
unfolding expr_step call_stmts nodes_of
type_way names args kwargs f es {w} {at} {v} {first} {n} {place} s x t q =
    let d = count_e es - (bit_of args + bit_of kwargs) in
    let tests = both (eqb (get_or w first 0) (header 1 4)) (eqb d 1 && eqb v 0) t in
    let numbers = both (eqb d 1) (eqb v 0) tests.1 in
    go names args kwargs es s x tests.0 (eqb-true d 1 numbers.0)
    (sym s.is_word ∙ eqb-true v 0 numbers.1)
  where
    go : (names : List ℕ) (args kwargs : Bool) (es : Exprs)
        → Shape (rose_e (call names args kwargs f es)) at 16 (count_e es - (bit_of args + bit_of kwargs)) v first n
        → ExprAt w at (call names args kwargs f es)
        → eqb (get_or w first 0) (header 1 4) ≡ true → count_e es - (bit_of args + bit_of kwargs) ≡ 1
        → names_word names args kwargs ≡ 0 → WayOf w at (call names args kwargs f es) (way.Part place)
    go (m ∷ names) args kwargs es s x lead d e = absurd (omega (arith, e))
    go [] true kwargs es s x lead d e = absurd (omega (arith, e))
    go [] false true es s x lead d e = absurd (omega (arith, e))
    go [] false false no_exprs s x lead d e = absurd (omega (arith, d))
    go [] false false (more_exprs y (more_exprs z es)) s x lead d e = absurd (omega (arith, d))
    go [] false false (more_exprs y no_exprs) s x lead d e =
        let es = more_exprs y no_exprs in
        let whole = call [] false false f es in
        let ends = callee_ends [] false false f es s x q in
        let begins : first ≡ at + 2 = s.is_first in
        let there : place ≡ at + 2 + size (rose_e f) = omega (arith, ends, begins) in
        part whole y place (record {
          step = λ more moreIf. ap (λ (b : Bool). cond (b && true) (more y) (one (expr whole)))
              (callee_word [] false false f es s x ∙ lead);
          stands = record {
            valid = (two_parts f y (valid_parts whole x.valid)).1;
            here = subst (λ (i : ℕ). At w i (rose_e y)) (sym there) x.here.1.1.0;
          };
          past = omega (arith, there);
          ends = omega (arith, there);
          fewer = omega arith;
          lighter = omega arith;
        })

-- no other call is taken apart
call_stays : (names : List ℕ) (args kwargs : Bool) (f : Expr) (es : Exprs) {w : List ℕ} {at v first n : ℕ}
    → Shape (rose_e (call names args kwargs f es)) at 16 (count_e es - (bit_of args + bit_of kwargs)) v first n
    → ExprAt w at (call names args kwargs f es)
    → as_type (get_or w first 0) (count_e es - (bit_of args + bit_of kwargs)) v ≡ false
    → Stays (call names args kwargs f es)
unfolding expr_step call_stmts
call_stays names args kwargs f no_exprs s x t = λ more moreIf. refl
call_stays names args kwargs f (more_exprs y (more_exprs z es)) s x t = λ more moreIf. refl
call_stays names args kwargs f (more_exprs y no_exprs) {w} {at} {v} {first} s x t = λ more moreIf.
    let es = more_exprs y no_exprs in
    let word : names_word names args kwargs ≡ v = sym s.is_word in
    let numbers = plain_words names args kwargs
    ∙ ap (λ (m : ℕ). eqb (1 - (bit_of args + bit_of kwargs)) 1 && eqb m 0) word in
    ap (λ (b : Bool). cond b (more y) (one (expr (call names args kwargs f es))))
    (ap₂ ◌&&◌ (callee_word names args kwargs f es s x) numbers ∙ t)

-- ---- the way of an expression by its form

parts_way : {e : Expr} {k d : ℕ} → Form e k d → {w : List ℕ} {at v first n : ℕ} → Shape (rose_e e) at k d v first n
    → within 6 7 k ≡ true → WayOf w at e (way.Parts first n)
parts_way (tuples es) {first = first} {n = n} s h =
    parts tuple es first n s.is_first (s.is_count ∙ count_roses es)
parts_way (lists es) {first = first} {n = n} s h =
    parts list es first n s.is_first (s.is_count ∙ count_roses es)
parts_way (negations e) s h = absurd (false≢true h)
parts_way (type_tests t e) s h = absurd (false≢true h)
parts_way (ands x y) s h = absurd (false≢true h)
parts_way (ors x y) s h = absurd (false≢true h)
parts_way (calls names args kwargs f es) s h = absurd (false≢true h)
parts_way (others e kept o) s h = absurd (false≢true (sym o.no_parts ∙ h))

part_way : {e : Expr} {k d : ℕ} → Form e k d → {w : List ℕ} {at v first n : ℕ} → Shape (rose_e e) at k d v first n
    → ExprAt w at e → eqb k 11 && within 3 4 d ≡ true → WayOf w at e (way.Part first)
unfolding expr_step nodes_of
part_way (tuples es) s x h = absurd (false≢true h)
part_way (lists es) s x h = absurd (false≢true h)
part_way (negations e) {w = w} {at = at} s x h =
    let stands : ExprAt w (at + 1) e =
    record { valid = one_part e (valid_parts (Tree.not e) x.valid); here = x.here.1.0 } in
    rw s.is_first (part (Tree.not e) e (at + 1) (search (arith, stands)))
part_way (type_tests t e) {w = w} {at = at} s x h =
    let stands : ExprAt w (at + 2) e =
    record { valid = one_part e (valid_parts (type_is t e) x.valid); here = x.here.1.0 } in
    rw s.is_first (part (type_is t e) e (at + 2) (search (arith, stands)))
part_way (ands y z) s x h = absurd (false≢true h)
part_way (ors y z) s x h = absurd (false≢true h)
part_way (calls names args kwargs f es) s x h = absurd (false≢true h)
part_way (others e kept o) s x h = absurd (false≢true (sym o.no_part ∙ h))

logic_way_lem : {e : Expr} {k d : ℕ} → Form e k d → {w : List ℕ} {at v first n : ℕ} → Shape (rose_e e) at k d v first n
    → eqb k 12 ≡ true → WayOf w at e (way.Logic first (eqb d 1))
logic_way_lem (tuples es) s h = absurd (false≢true h)
logic_way_lem (lists es) s h = absurd (false≢true h)
logic_way_lem (negations e) s h = absurd (false≢true h)
logic_way_lem (type_tests t e) s h = absurd (false≢true h)
logic_way_lem (ands x y) {first = first} s h = logical false x y first s.is_first
logic_way_lem (ors x y) {first = first} s h = logical true x y first s.is_first
logic_way_lem (calls names args kwargs f es) s h = absurd (false≢true h)
logic_way_lem (others e kept o) s h = absurd (false≢true (sym o.no_logic ∙ h))

-- an expression of kind 16 is a call: what holds of every call that stands there holds of it
call_case : (P : Expr → ℕ → Type 0)
    → ((names : List ℕ) (args kwargs : Bool) (f : Expr) (es : Exprs)
    → P (call names args kwargs f es) (count_e es - (bit_of args + bit_of kwargs)))
    → {e : Expr} {k d : ℕ} → Form e k d → eqb k 16 ≡ true → P e d
call_case P p (tuples es) h = absurd (false≢true h)
call_case P p (lists es) h = absurd (false≢true h)
call_case P p (negations e) h = absurd (false≢true h)
call_case P p (type_tests t e) h = absurd (false≢true h)
call_case P p (ands x y) h = absurd (false≢true h)
call_case P p (ors x y) h = absurd (false≢true h)
call_case P p (calls names args kwargs f es) h = p names args kwargs f es
call_case P p (others e kept o) h = absurd (false≢true (sym o.no_call ∙ h))

-- what is left
other_way : {e : Expr} {k d : ℕ} → Form e k d → within 6 7 k ≡ false → eqb k 11 && within 3 4 d ≡ false
    → eqb k 12 ≡ false → eqb k 16 ≡ false → Stays e
other_way (tuples es) a b c h = absurd (false≢true (sym a))
other_way (lists es) a b c h = absurd (false≢true (sym a))
other_way (negations e) a b c h = absurd (false≢true (sym b))
other_way (type_tests t e) a b c h = absurd (false≢true (sym b))
other_way (ands x y) a b c h = absurd (false≢true (sym c))
other_way (ors x y) a b c h = absurd (false≢true (sym c))
other_way (calls names args kwargs f es) a b c h = absurd (false≢true (sym h))
other_way (others e kept o) a b c h = kept

-- ---- what the function asks and tells

module _ {w : List ℕ} {at k d v first n : ℕ} (o : NodeOf w at k d v first n) where
  shape : (e : Expr) → ExprAt w at e → Shape (rose_e e) at k d v first n
  shape e x = o.of sort.Expr (rose_e e) refl x.valid.1 x.here

  formed : (e : Expr) → ExprAt w at e → Form e k d
  formed e x =
      subst (λ (j : ℕ). Form e j d) (sym (shape e x).is_kind)
      (subst (Form e (kind_of (rose_e e))) (sym (shape e x).is_detail) (form e x.valid.0))

  pub parts_done : within 6 7 k ≡ true → WayDone w at (way.Parts first n)
  parts_done h = record { right = λ e x i. parts_way (formed e x) (shape e x) h }

  pub part_done : {r : Bool} → k ≡ 11 → r ≡ within 3 4 d → r ≡ true → WayDone w at (way.Part first)
  part_done h told t = record {
    right = λ e x i. part_way (formed e x) (shape e x) x (simp (eq-eqb k 11 h, sym told ∙ t));
  }

  pub logic_done : k ≡ 12 → WayDone w at (way.Logic first (eqb d 1))
  logic_done h = record { right = λ e x i. logic_way_lem (formed e x) (shape e x) (eq-eqb k 12 h) }

  pub other_done : within 6 7 k ≡ false → eqb k 11 && within 3 4 d ≡ false → (k ≡ 12 → ⊥) → (k ≡ 16 → ⊥)
      → WayDone w at way.Stays
  other_done a b c h = record {
    right = λ e x i. stays e (other_way (formed e x) a b (ne_eqb k 12 c) (ne_eqb k 16 h));
  }

  module _ (h : k ≡ 16) where
    at_call : (e : Expr) → ExprAt w at e → Shape (rose_e e) at 16 d v first n
    at_call e x = subst (λ (j : ℕ). Shape (rose_e e) at j d v first n) h (shape e x)

    is_call : eqb k 16 ≡ true
    is_call = eq-eqb k 16 h

    pub skip_ask : WayAsk w at → SomeExprs w first 1
    skip_ask a =
        call_case
        (λ (e : Expr) (c : ℕ). Shape (rose_e e) at 16 c v first n → ExprAt w at e → at + size (rose_e e) ≤ length w
        → SomeExprs w first 1)
        (λ names args kwargs f es s x i. callee_skip names args kwargs f es s x (omega (arith, s.is_first, i)))
        (formed a.tree a.stands) is_call (at_call a.tree a.stands) a.stands a.inside

    -- where its callee begins with the word `callee`, and the test of that answers r
    module _ {callee : ℕ} {r : Bool} (word : callee ≡ get_or w first 0) (told : r ≡ as_type callee d v) where
      answer : as_type (get_or w first 0) d v ≡ r
      answer = ap (λ (c : ℕ). as_type c d v) (sym word) ∙ sym told

      pub type_done : r ≡ true → {place : ℕ} → SkipOf w first 1 place → WayDone w at (way.Part place)
      type_done t {place} q = record {
        right = λ e x i.
            call_case
            (λ (e : Expr) (c : ℕ). Shape (rose_e e) at 16 c v first n → ExprAt w at e
            → as_type (get_or w first 0) c v ≡ true → WayOf w at e (way.Part place))
            (λ names args kwargs f es s x t. type_way names args kwargs f es s x t q)
            (formed e x) is_call (at_call e x) x (answer ∙ t);
      }

      pub call_done : r ≡ false → WayDone w at way.Stays
      call_done t = record {
        right = λ e x i. stays e
            (call_case
            (λ (e : Expr) (c : ℕ). Shape (rose_e e) at 16 c v first n → ExprAt w at e
            → as_type (get_or w first 0) c v ≡ false → Stays e)
            (λ names args kwargs f es s x t. call_stays names args kwargs f es s x t)
            (formed e x) is_call (at_call e x) x (answer ∙ t));
      }

-- what the check applies in `way_at`
pub ruleset ways = (parts_done, part_done, logic_done, other_done, skip_ask, type_done, call_done)
