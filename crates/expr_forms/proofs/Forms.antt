-- Expressions by the kind and detail of their words: which of them a constructor makes something of, and that it keeps
-- all others.
-- Assumes nothing.
use mathlib.Core.Bool.{Bool, true, false, ◌&&◌, true≢false}
use mathlib.Core.List.{List, [], ◌∷◌}
use mathlib.Core.Path.{◌≡◌, refl, ap, sym, subst, ◌∙◌}
use Prim.Native.Nat.{ℕ, ◌+◌, ◌-◌, ◌/◌, ◌<◌}
use native.Mathlib.Omega.{arith}
use borrow.Author.Tests.{eqb-true}
use lib.Dec.{eqb}
use lib.ListN.{get_or}
use Rattle.spec.specs.Rose.{Rose, node, At}
use Rattle.spec.specs.Grammar.{header, kind_in, detail_in, Valid}
use Rattle.spec.specs.Tree
use Rattle.spec.specs.Tree.{Const, boolean, int, string, type_function, len_function, other}
use Rattle.spec.specs.Tree.{local, captured, module', def, tuple, list, Logic, and, or, logic_detail, bit_of}
use Rattle.spec.specs.Tree.{Expr, const, read, fresh, dict, if_then, type_is, logic, seq, oper, call, rose_e}
use Rattle.spec.specs.Tree.{Exprs, count_e}
use Rattle.spec.specs.Proper.{Proper, ValidExpr}
use Rattle.spec.specs.Pass.{not_expr, type_is_expr}
use Rattle.spec.specs.Views.{word_in, kind_of, detail_of}
use Rattle.spec.proofs.Heads.{kind_of_header, Operator, slice, builtin1, builtin2, index2, operator_view}
use Rattle.spec.proofs.Outcomes.{both}
use Rattle.spec.specs.declared.Sort.TheVariants as sort
use Rattle.ir.specs.Standing.{NodeOf}
use Rattle.expr_forms.specs.Made.{remade}

-- a constant's class
abbrev pub class_of : Const → ℕ
class_of Tree.none = 0
class_of (boolean b) = 1
class_of (int n) = 2
class_of (string t) = 3
class_of type_function = 4
class_of len_function = 5
class_of (other n t b e) = 6

-- what no constructor makes anything of
pub record Other (e : Expr) (k d : ℕ) : Type 0 where
  pub no_const : k ≡ 1 → ⊥
  pub no_not : k ≡ 11 → d ≡ 3 → ⊥
  pub no_type_is : k ≡ 11 → d ≡ 4 → ⊥
  pub no_logic : k ≡ 12 → ⊥
  pub no_seq : k ≡ 13 → ⊥
  pub no_call : k ≡ 16 → ⊥
  pub not_same : not_expr e ≡ Tree.not e
  pub type_is_same : (t : ℕ) → type_is_expr t e ≡ type_is t e
  pub same : remade e ≡ e

pub data Form : Expr → ℕ → ℕ → Type 0 where
  const_form : (c : Const) → Form (const c) 1 (class_of c)
  not_form : (e : Expr) → Form (Tree.not e) 11 3
  type_is_form : (t : ℕ) (e : Expr) → Form (type_is t e) 11 4
  logic_form : (l : Logic) (x y : Expr) → Form (logic l x y) 12 (logic_detail l)
  seq_form : (x y : Expr) → Form (seq x y) 13 0
  call_form : (names : List ℕ) (args kwargs : Bool) (f : Expr) (es : Exprs) {d : ℕ}
      → Form (call names args kwargs f es) 16 d
  other_form : {e : Expr} {k d : ℕ} → Other e k d → Form e k d

-- another kind, by its number
apart : (e : Expr) (k d : ℕ) → (k ≡ 1 → ⊥) → (k ≡ 11 → ⊥) → (k ≡ 12 → ⊥) → (k ≡ 13 → ⊥) → (k ≡ 16 → ⊥)
    → not_expr e ≡ Tree.not e → ((t : ℕ) → type_is_expr t e ≡ type_is t e) → remade e ≡ e → Form e k d
apart e k d a b l s c p q r =
    other_form (record {
      no_const = a;
      no_not = λ h j. b h;
      no_type_is = λ h j. b h;
      no_logic = l;
      no_seq = s;
      no_call = c;
      not_same = p;
      type_is_same = q;
      same = r;
    })

operator_form : {k d : ℕ} (h : ℕ) (pay : List ℕ) (es : Exprs) → Operator k d → Form (oper h pay es) k d
unfolding not_expr type_is_expr remade
operator_form h pay es (slice {d}) =
    apart (oper h pay es) 10 d (λ e. omega arith) (λ e. omega arith) (λ e. omega arith) (λ e. omega arith)
    (λ e. omega arith) refl (λ t. refl) refl
operator_form h pay es (builtin1 {d} u v) =
    other_form {k = 11} {d = d} (record {
      no_const = λ e. omega arith;
      no_not = λ e j. u j;
      no_type_is = λ e j. v j;
      no_logic = λ e. omega arith;
      no_seq = λ e. omega arith;
      no_call = λ e. omega arith;
      not_same = refl;
      type_is_same = λ t. refl;
      same = refl;
    })
operator_form h pay es (builtin2 {d}) =
    apart (oper h pay es) 14 d (λ e. omega arith) (λ e. omega arith) (λ e. omega arith) (λ e. omega arith)
    (λ e. omega arith) refl (λ t. refl) refl
operator_form h pay es (index2 {d}) =
    apart (oper h pay es) 15 d (λ e. omega arith) (λ e. omega arith) (λ e. omega arith) (λ e. omega arith)
    (λ e. omega arith) refl (λ t. refl) refl

-- a kind by its number, with some detail, that is none of these
plain_form : (e : Expr) (k d : ℕ) → k < 10 → 1 < k → not_expr e ≡ Tree.not e
    → ((t : ℕ) → type_is_expr t e ≡ type_is t e) → remade e ≡ e → Form e k d
plain_form e k d high low =
    apart e k d (λ h. omega arith) (λ h. omega arith) (λ h. omega arith) (λ h. omega arith) (λ h. omega arith)

-- the kind of a header with some detail
headed : (e : Expr) (k n : ℕ) → k < 256 → Form e k (detail_in (header k n))
    → Form e (kind_in (header k n)) (detail_in (header k n))
headed e k n l f = subst (λ (j : ℕ). Form e j (detail_in (header k n))) (sym (kind_of_header k n l)) f

pub form : (e : Expr) → Proper e → Form e (kind_of (rose_e e)) (detail_of (rose_e e))
unfolding not_expr type_is_expr remade
form (const Tree.none) p = const_form Tree.none
form (const (boolean b)) p = const_form (boolean b)
form (const (int n)) p = const_form (int n)
form (const (string t)) p = const_form (string t)
form (const type_function) p = const_form type_function
form (const len_function) p = const_form len_function
form (const (other n t b e)) p = const_form (other n t b e)
form (read (local n)) p = plain_form (read (local n)) 2 0 (omega arith) (omega arith) refl (λ t. refl) refl
form (read (captured n)) p = plain_form (read (captured n)) 3 0 (omega arith) (omega arith) refl (λ t. refl) refl
form (read (module' n)) p = plain_form (read (module' n)) 4 0 (omega arith) (omega arith) refl (λ t. refl) refl
form (read (def n)) p = plain_form (read (def n)) 5 0 (omega arith) (omega arith) refl (λ t. refl) refl
form (fresh tuple es) p =
    headed (fresh tuple es) 6 (count_e es) (omega arith)
    (plain_form (fresh tuple es) 6 (detail_in (header 6 (count_e es))) (omega arith) (omega arith) refl (λ t. refl)
    refl)
form (fresh list es) p =
    headed (fresh list es) 7 (count_e es) (omega arith)
    (plain_form (fresh list es) 7 (detail_in (header 7 (count_e es))) (omega arith) (omega arith) refl (λ t. refl) refl)
form (dict es) p =
    headed (dict es) 8 (count_e es / 2) (omega arith)
    (plain_form (dict es) 8 (detail_in (header 8 (count_e es / 2))) (omega arith) (omega arith) refl (λ t. refl) refl)
form (if_then c t f) p = plain_form (if_then c t f) 9 0 (omega arith) (omega arith) refl (λ t. refl) refl
form (Tree.not e) p = not_form e
form (type_is t e) p = type_is_form t e
form (logic and x y) p = logic_form and x y
form (logic or x y) p = logic_form or x y
form (seq x y) p = seq_form x y
form (oper h pay es) p = operator_form h pay es (operator_view (kind_in h) (detail_in h) p.0)
form (call names args kwargs f es) p =
    headed (call names args kwargs f es) 16 (count_e es - (bit_of args + bit_of kwargs)) (omega arith)
    (call_form names args kwargs f es)

-- by numbers found
formed : {k d : ℕ} (e : Expr) → Proper e → k ≡ kind_of (rose_e e) → d ≡ detail_of (rose_e e) → Form e k d
formed {k} {d} e p is_kind is_detail =
    subst (λ (j : ℕ). Form e j d) (sym is_kind)
    (subst (λ (j : ℕ). Form e (kind_of (rose_e e)) j) (sym is_detail) (form e p))

-- of an expression where it stands
pub form_at : {w : List ℕ} {at k d p first n : ℕ} (e : Expr) → ValidExpr e → At w at (rose_e e)
    → NodeOf w at k d p first n → Form e k d
form_at e v here told =
    let s = told.of sort.Expr (rose_e e) refl v.1 here in
    formed e v.0 s.is_kind s.is_detail

-- and by its first word
pub first_at : (w : List ℕ) (at : ℕ) (r : Rose) → Valid sort.Expr r → At w at r → get_or w at 0 ≡ word_in r 0
first_at w at (node t [] ps) v a = absurd v.1
first_at w at (node t (h ∷ pay) ps) v a = a.0.0

pub form_by : (w : List ℕ) (at : ℕ) (e : Expr) {h k d : ℕ} → ValidExpr e → At w at (rose_e e) → h ≡ get_or w at 0
    → k ≡ kind_in h → d ≡ detail_in h → Form e k d
form_by w at e v here looked is_kind is_detail =
    let same = looked ∙ first_at w at (rose_e e) v.1 here in
    formed e v.0 (is_kind ∙ ap kind_in same) (is_detail ∙ ap detail_in same)

-- ---- which expression has the kind and detail that a test found

pub is_const : {e : Expr} {k d : ℕ} → Form e k d → k ≡ 1 → (c : Const) × (e ≡ const c) × (class_of c ≡ d)
is_const {e} {k} {d} f h = go (subst (λ (j : ℕ). Form e j d) h f)
  where
    go : {e : Expr} {d : ℕ} → Form e 1 d → (c : Const) × (e ≡ const c) × (class_of c ≡ d)
    go (const_form c) = (c, refl, refl)
    go (other_form o) = absurd (o.no_const refl)

-- at a kind and a detail
at_both : {e : Expr} {k d : ℕ} (j c : ℕ) → Form e k d → eqb k j && eqb d c ≡ true → Form e j c
at_both {e} {k} {d} j c f h =
    let t = both (eqb k j) (eqb d c) h in
    subst (λ (n : ℕ). Form e j n) (eqb-true d c t.1)
    (subst (λ (n : ℕ). Form e n d) (eqb-true k j t.0) f)

pub is_not_lem : {e : Expr} {k d : ℕ} → Form e k d → eqb k 11 && eqb d 3 ≡ true → (x : Expr) × (e ≡ Tree.not x)
is_not_lem f h = go (at_both 11 3 f h)
  where
    go : {e : Expr} → Form e 11 3 → (x : Expr) × (e ≡ Tree.not x)
    go (not_form x) = (x, refl)
    go (other_form o) = absurd (o.no_not refl refl)

pub is_type_is_lem : {e : Expr} {k d : ℕ} → Form e k d → eqb k 11 && eqb d 4 ≡ true
    → (x : ℕ × Expr) × (e ≡ type_is x.0 x.1)
is_type_is_lem f h = go (at_both 11 4 f h)
  where
    go : {e : Expr} → Form e 11 4 → (x : ℕ × Expr) × (e ≡ type_is x.0 x.1)
    go (type_is_form t x) = ((t, x), refl)
    go (other_form o) = absurd (o.no_type_is refl refl)

pub is_logic : {e : Expr} {k d : ℕ} → Form e k d → k ≡ 12
    → (x : Logic × Expr × Expr) × (e ≡ logic x.0 x.1 x.2)
is_logic {e} {k} {d} f h = go (subst (λ (j : ℕ). Form e j d) h f)
  where
    go : {e : Expr} {d : ℕ} → Form e 12 d → (x : Logic × Expr × Expr) × (e ≡ logic x.0 x.1 x.2)
    go (logic_form l x y) = ((l, x, y), refl)
    go (other_form o) = absurd (o.no_logic refl)

pub is_seq_lem : {e : Expr} {k d : ℕ} → Form e k d → k ≡ 13 → (x : Expr × Expr) × (e ≡ seq x.0 x.1)
is_seq_lem {e} {k} {d} f h = go (subst (λ (j : ℕ). Form e j d) h f)
  where
    go : {e : Expr} {d : ℕ} → Form e 13 d → (x : Expr × Expr) × (e ≡ seq x.0 x.1)
    go (seq_form x y) = ((x, y), refl)
    go (other_form o) = absurd (o.no_seq refl)

pub is_call : {e : Expr} {k d : ℕ} → Form e k d → k ≡ 16
    → (c : List ℕ × Bool × Bool × Expr × Exprs) × (e ≡ call c.0 c.1 c.2 c.3 c.4)
is_call {e} {k} {d} f h = go (subst (λ (j : ℕ). Form e j d) h f)
  where
    go : {e : Expr} {d : ℕ} → Form e 16 d
        → (c : List ℕ × Bool × Bool × Expr × Exprs) × (e ≡ call c.0 c.1 c.2 c.3 c.4)
    go (call_form names args kwargs f es) = ((names, args, kwargs, f, es), refl)
    go (other_form o) = absurd (o.no_call refl)

-- ---- and what is kept where no test found one

pub not_keeps : {e : Expr} {k d : ℕ} → Form e k d → (k ≡ 1 → ⊥) → (k ≡ 11 → d ≡ 3 → ⊥) → not_expr e ≡ Tree.not e
unfolding not_expr
not_keeps (const_form c) h g = absurd (h refl)
not_keeps (not_form e) h g = absurd (g refl refl)
not_keeps (type_is_form t e) h g = refl
not_keeps (logic_form l x y) h g = refl
not_keeps (seq_form x y) h g = refl
not_keeps (call_form names args kwargs f es) h g = refl
not_keeps (other_form o) h g = o.not_same

pub type_is_keeps : {e : Expr} {k d : ℕ} (t : ℕ) → Form e k d → (k ≡ 1 → ⊥) → type_is_expr t e ≡ type_is t e
unfolding type_is_expr
type_is_keeps t (const_form c) h = absurd (h refl)
type_is_keeps t (not_form e) h = refl
type_is_keeps t (type_is_form u e) h = refl
type_is_keeps t (logic_form l x y) h = refl
type_is_keeps t (seq_form x y) h = refl
type_is_keeps t (call_form names args kwargs f es) h = refl
type_is_keeps t (other_form o) h = o.type_is_same t

pub make_keeps : {e : Expr} {k d : ℕ} → Form e k d → eqb k 11 && eqb d 3 ≡ false → eqb k 11 && eqb d 4 ≡ false
    → (k ≡ 12 → ⊥) → (k ≡ 13 → ⊥) → (k ≡ 16 → ⊥) → remade e ≡ e
unfolding remade
make_keeps (const_form x) g h l s c = refl
make_keeps (not_form e) g h l s c = absurd (true≢false g)
make_keeps (type_is_form t e) g h l s c = absurd (true≢false h)
make_keeps (logic_form o x y) g h l s c = absurd (l refl)
make_keeps (seq_form x y) g h l s c = absurd (s refl)
make_keeps (call_form names args kwargs f es) g h l s c = absurd (c refl)
make_keeps (other_form o) g h l s c = o.same
