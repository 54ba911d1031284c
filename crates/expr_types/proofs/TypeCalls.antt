-- What `call` and `typ` leave: a type call goes to `typ`, which puts the name of the argument's type in the call's
-- place where it is known; all else stays as it stood.
-- Assumes nothing.
use mathlib.Core.Bool.{Bool, true, false, cond, ◌&&◌, false≢true}
use mathlib.Core.List.{List, [], ◌∷◌}
use Rattle.std.specs.Prelude.{Option, Some, None}
use mathlib.Core.Path.{◌≡◌, refl, ap, ap₂, sym, subst, ◌∙◌}
use Prim.Native.Nat.{ℕ, ◌+◌, ◌-◌, ◌≤◌}
use native.Mathlib.Omega.{arith}
use borrow.Author.Tests.{ne_eqb, eqb-true}
use lib.Dec.{eqb}
use lib.ListN.{length, get_or}
use Rattle.spec.specs.Rose.{nil, cons, size, At}
use Rattle.spec.specs.Grammar.{header, kind_in, detail_in}
use Rattle.spec.specs.Tree.{string, type_function, bit_of, names_word, count_e}
use Rattle.spec.specs.Tree.{rose_e}
use Rattle.spec.specs.Tree.{Expr, const, call}
use Rattle.spec.specs.Tree.{Exprs, no_exprs, more_exprs}
use Rattle.spec.specs.Proper.{ValidExpr}
use Rattle.spec.specs.Verdict.{is_type_function, is_plain, pure}
use Rattle.spec.specs.Pass.{call_expr}
use Rattle.spec.proofs.Outcomes.{both}
use Rattle.spec.proofs.Heads.{detail_of_header}
use Rattle.spec.proofs.Meanings.{expr_parts}
use Rattle.spec.proofs.Views.{type_word}
use Rattle.spec.proofs.Passed.{string_valid, argument_valid}
use Rattle.spec.specs.declared.Sort.TheVariants as sort
use Rattle.ir.specs.Standing.{SomeExpr, SomeExprs, IsExpr, SkipOf}
use Rattle.ir.specs.Written.{Written}
use Rattle.ir.proofs.Forests.{own_some, size_parts}
use Rattle.purity.specs.Told.{IsPure, IsImpure}
use Rattle.purity.proofs.Exprs.{pure_here, impure_here}
use Rattle.buffer.proofs.Frames.{same_refl}
use Rattle.expr_forms.specs.Made.{Is, Plain, Made, Handed, MadeOf}
use Rattle.expr_forms.specs.declared.Whole.{Whole}
use Rattle.expr_forms.proofs.Forms.{first_at}
use Rattle.expr_types.specs.Types.{calls, call_made, type_text_by, type_parts, type_calls, type_made, TypeCall}
use Rattle.expr_types.proofs.Texts.{text_of, text_short, named, unnamed, typ_by, text_at}

-- ---- typ

module _ {w : List ℕ} {at part end : ℕ} (asked : TypeCall w at part end) where
  -- the argument of whatever type call stands there
  argument : (e : Expr) → Is w at end (type_calls e) → ValidExpr e × At w part (rose_e e)
      × (end ≡ part + size (rose_e e))
  argument e i =
      let place : at + 2 + 2 ≡ part = omega (arith, asked.place) in (
        argument_valid [] false false (const type_function) e i.valid,
        subst (λ (j : ℕ). At w j (rose_e e)) place i.here.1.1.0,
        omega (arith, i.ends),
      )

  given : ValidExpr asked.plain.parts × At w part (rose_e asked.plain.parts)
      × (end ≡ part + size (rose_e asked.plain.parts))
  given = argument asked.plain.parts asked.plain.is

  pub argument_expr : SomeExpr w part
  argument_expr = record {
    tree = rose_e asked.plain.parts;
    valid = given.0.1;
    here = given.1;
    inside = omega (arith, given.2, asked.plain.inside);
  }

  -- the call has five words at least
  pub type_words : at + 5 ≤ end
  type_words =
      let r = rose_e asked.plain.parts in
      omega (arith, asked.place, given.2, own_some r given.0.1, size_parts r)

  -- the argument is pure, or not
  argument_pure : {next : ℕ} → IsPure w part next → (e : Expr) → Is w at end (type_calls e) → pure e ≡ true
  argument_pure judged e i = let a = argument e i in (pure_here e a.0 a.1 judged).0

  argument_impure : IsImpure w part → (e : Expr) → Is w at end (type_calls e) → pure e ≡ false
  argument_impure judged e i = let a = argument e i in impure_here e a.0 a.1 judged

  stays_by : ((e : Expr) → Is w at end (type_calls e) → type_made e ≡ type_calls e)
      → Made type_calls type_made w w at end end
  stays_by made_is = record {
    below = same_refl at w;
    above = λ j h. refl;
    long = refl;
    right = λ e i. subst (Is w at end) (sym (made_is e i)) i;
  }

  pub impure_stays : IsImpure w part → Made type_calls type_made w w at end end
  impure_stays judged = stays_by (λ e i.
      typ_by e (type_calls e)
      ∙ ap (λ (p : Bool). named (text_of e) p (type_calls e)) (argument_impure judged e i)
      ∙ unnamed (text_of e) (type_calls e))

  module _ {head k d second : ℕ} {text : Option ℕ} (headed : head ≡ get_or w part 0) (is_kind : k ≡ kind_in head)
      (is_detail : d ≡ detail_in head) (looked : second ≡ get_or w (part + 2) 0)
      (texted : text ≡ type_text_by k d second) where
    text_is : (e : Expr) → Is w at end (type_calls e) → text_of e ≡ text
    text_is e i =
        let a = argument e i in
        let same = headed ∙ first_at w part (rose_e e) a.0.1 a.1 in
        sym (texted ∙ ap (type_text_by k d) looked
        ∙ ap₂ (λ (x y : ℕ). type_text_by x y (get_or w (part + 2) 0)) (is_kind ∙ ap kind_in same)
        (is_detail ∙ ap detail_in same)
        ∙ text_at w part e a.0.0 a.1)

    -- its own words tell none
    pub no_text_stays : text ≡ None → Made type_calls type_made w w at end end
    no_text_stays none = stays_by (λ e i.
        typ_by e (type_calls e)
        ∙ ap (λ (t : Option ℕ). named t (pure e) (type_calls e)) (text_is e i ∙ none))

    pub type_named : {t next : ℕ} → text ≡ Some t → IsPure w part next → {v : List ℕ} {r : ℕ}
        → Written w v at (header 1 3 ∷ t ∷ []) r → length v ≡ length w → Made type_calls type_made w v at end r
    type_named {t} told judged {v} {r} done long = record {
      below = record { word = done.below };
      above = λ j h. done.above j (omega (arith, done.ends, type_words));
      long = long;
      right = λ e i.
          subst (Is v at r)
          (sym (typ_by e (type_calls e)
          ∙ ap (λ (t : Option ℕ). named t (pure e) (type_calls e)) (text_is e i ∙ told)
          ∙ ap (λ (p : Bool). cond p (const (string t)) (type_calls e)) (argument_pure judged e i)))
          name;
    }
      where
        name : Is v at r (const (string t))
        name = record {
          valid = string_valid t
              (text_short asked.plain.parts given.0.0 (text_is asked.plain.parts asked.plain.is ∙ told));
          here = (done.here, tt);
          ends = done.ends;
        }

-- ---- call

-- whether it is a type call, by its callee and its numbers
abbrev type_test : Expr → ℕ → ℕ → Bool
type_test f d p = is_type_function f && (eqb d 1 && eqb p 0)

type_function_lem : (f : Expr) → is_type_function f ≡ true → f ≡ const type_function
type_function_lem (const type_function) t = refl
type_function_lem _ t = absurd (false≢true t)

-- a type call has one argument, and nothing else
one_argument : (names : List ℕ) (args kwargs : Bool) (f : Expr) (es : Exprs) → f ≡ const type_function
    → count_e es - (bit_of args + bit_of kwargs) ≡ 1 → names_word names args kwargs ≡ 0
    → (e : Expr) × ((names, args, kwargs, f, es) ≡ type_parts e)
one_argument (n ∷ names) args kwargs f es t d p = absurd (omega arith)
one_argument [] true kwargs f es t d p = absurd (omega arith)
one_argument [] false true f es t d p = absurd (omega arith)
one_argument [] false false f no_exprs t d p = absurd (omega arith)
one_argument [] false false f (more_exprs e no_exprs) t d p =
    (e, ap (λ (g : Expr). ([], false, false, g, more_exprs e no_exprs)) t)
one_argument [] false false f (more_exprs e (more_exprs x xs)) t d p = absurd (omega arith)

type_parts_lem : (names : List ℕ) (args kwargs : Bool) (f : Expr) (es : Exprs)
    → type_test f (count_e es - (bit_of args + bit_of kwargs)) (names_word names args kwargs) ≡ true
    → (e : Expr) × ((names, args, kwargs, f, es) ≡ type_parts e)
type_parts_lem names args kwargs f es t =
    let d = count_e es - (bit_of args + bit_of kwargs) in
    let p = names_word names args kwargs in
    let (callee, numbers) = both (is_type_function f) (eqb d 1 && eqb p 0) t in
    let (one, plain) = both (eqb d 1) (eqb p 0) numbers in
    one_argument names args kwargs f es (type_function_lem f callee) (eqb-true d 1 one) (eqb-true p 0 plain)

-- one argument alone, by the numbers
and_no : (b : Bool) → b && false ≡ false
and_no true = refl
and_no false = refl

plain_one : (names : List ℕ) (args kwargs : Bool)
    → is_plain names args kwargs ≡ eqb (1 - (bit_of args + bit_of kwargs)) 1 && eqb (names_word names args kwargs) 0
plain_one (n ∷ names) args kwargs =
    let test = eqb (1 - (bit_of args + bit_of kwargs)) 1 in
    sym (ap (λ (b : Bool). test && b) (ne_eqb (names_word (n ∷ names) args kwargs) 0 (λ e. omega arith)) ∙ and_no test)
plain_one [] true true = refl
plain_one [] true false = refl
plain_one [] false true = refl
plain_one [] false false = refl

-- any other call stays
call_other : (names : List ℕ) (args kwargs : Bool) (f : Expr) (es : Exprs)
    → type_test f (count_e es - (bit_of args + bit_of kwargs)) (names_word names args kwargs) ≡ false
    → call_expr names args kwargs f es ≡ call names args kwargs f es
unfolding call_expr
call_other names args kwargs f no_exprs t = refl
call_other names args kwargs f (more_exprs e no_exprs) t =
    simp (ap (λ (b : Bool). is_type_function f && b) (plain_one names args kwargs) ∙ t)
call_other names args kwargs f (more_exprs e (more_exprs x xs)) t = refl

-- a type call is `typ`'s
call_type_lem : (e : Expr) → call_made (type_parts e) ≡ type_made e
unfolding call_expr
call_type_lem e = refl

abbrev Call : Type 0
Call = List ℕ × Bool × Bool × Expr × Exprs

module _ {w : List ℕ} {whole : Whole} (handed : Handed calls w whole) where
  abbrev at : ℕ
  at = whole.at

  abbrev d : ℕ
  d = whole.node.detail

  abbrev p : ℕ
  p = whole.node.word

  abbrev first : ℕ
  first = whole.node.first

  abbrev end : ℕ
  end = whole.end

  abbrev plain : Plain calls w at end
  plain = handed.plain

  abbrev told : IsExpr w at whole.node
  told = handed.node_of

  -- where the callee stands
  callee_at : (a : Call) → Is w at end (calls a) → At w first (rose_e a.3)
  callee_at a i =
      let s = told.of sort.Expr (rose_e (calls a)) refl i.valid.1 i.here in
      subst (λ (j : ℕ). At w j (rose_e a.3)) (sym s.is_first) i.here.1.0

  callee_valid : (a : Call) → Is w at end (calls a) → ValidExpr a.3
  callee_valid a i = (i.valid.0.0, (expr_parts (rose_e (calls a)) i.valid.1).0)

  -- the callee alone, to be skipped
  pub call_asks : SomeExprs w first 1
  call_asks = record {
    trees = cons (rose_e plain.parts.3) nil;
    valid = ((callee_valid plain.parts plain.is).1, tt);
    here = (callee_at plain.parts plain.is, tt);
    many = refl;
    inside =
        let s = told.of sort.Expr (rose_e (calls plain.parts)) refl plain.is.valid.1 plain.is.here in
        omega (arith, s.is_first, plain.is.ends, plain.inside);
  }

  module _ {callee : ℕ} {t : Bool} (looked : callee ≡ get_or w first 0)
      (tested : t ≡ eqb callee (header 1 4) && (eqb d 1 && eqb p 0)) where
    test_is : (a : Call) → Is w at end (calls a)
        → t ≡ type_test a.3 (count_e a.4 - (bit_of a.1 + bit_of a.2)) (names_word a.0 a.1 a.2)
    test_is a i =
        let s = told.of sort.Expr (rose_e (calls a)) refl i.valid.1 i.here in
        let m = count_e a.4 - (bit_of a.1 + bit_of a.2) in
        let f = callee_valid a i in
        let word : eqb callee (header 1 4) ≡ is_type_function a.3 =
        ap (λ (x : ℕ). eqb x (header 1 4)) (looked ∙ first_at w first (rose_e a.3) f.1 (callee_at a i))
        ∙ sym (type_word a.3 f.0) in
        tested ∙ ap (λ (b : Bool). b && (eqb d 1 && eqb p 0)) word
        ∙ ap₂ (λ (x y : ℕ). type_test a.3 x y) (s.is_detail ∙ detail_of_header 16 m (omega arith)) s.is_word

    typed : t ≡ true → (a : Call) → Is w at end (calls a) → (e : Expr) × (a ≡ type_parts e)
    typed yes-type a i = type_parts_lem a.0 a.1 a.2 a.3 a.4 (sym (test_is a i) ∙ yes-type)

    -- `typ` may be called behind the callee
    pub typ_asks : {part : ℕ} → t ≡ true → SkipOf w first 1 part → TypeCall w at part end
    typ_asks {part} yes-type skipped =
        let (e, q) = typed yes-type plain.parts plain.is in
        let i = subst (λ (a : Call). Is w at end (calls a)) q plain.is in
        let s = told.of sort.Expr (rose_e (type_calls e)) refl i.valid.1 i.here in
        let behind = skipped.of (cons (rose_e (const type_function)) nil) ((callee_valid (type_parts e) i).1, tt)
        (callee_at (type_parts e) i, tt) refl in
        record {
          plain = record { parts = e; is = i; inside = plain.inside };
          place = omega (arith, behind, s.is_first);
        }

    -- and what it makes is what is to be made
    pub call_typed : {v : List ℕ} {r : ℕ} → t ≡ true → Made type_calls type_made w v at end r
        → MadeOf calls call_made w v whole r
    call_typed {v} {r} yes-type made = record {
      below = made.below;
      above = made.above;
      long = made.long;
      right = λ a i.
          let (e, q) = typed yes-type a i in
          subst (λ (x : Call). Is w at end (calls x) → Is v at r (call_made x)) (sym q)
          (λ j. subst (Is v at r) (sym (call_type_lem e)) (made.right e j)) i;
    }

    pub call_stays : t ≡ false → MadeOf calls call_made w w whole whole.end
    call_stays no_type = record {
      below = same_refl at w;
      above = λ j h. refl;
      long = refl;
      right = λ a i.
          subst (Is w at end)
          (sym (call_other a.0 a.1 a.2 a.3 a.4 (sym (test_is a i) ∙ no_type))) i;
    }

-- what the check applies in `call`
pub ruleset asks = (call_asks, typ_asks)
