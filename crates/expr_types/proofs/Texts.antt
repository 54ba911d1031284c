-- The texts of types: which one `typ` gives for an expression is told by the expression's own words, and `typ` gives it
-- where the expression is pure.
-- Assumes nothing.
use mathlib.Core.Bool.{Bool, false, cond}
use mathlib.Core.List.{List}
use mathlib.Core.Path.{◌≡◌, refl, ap, subst, ◌∙◌}
use Rattle.std.specs.Prelude.{Option, Some, None}
use Prim.Native.Nat.{ℕ, ◌+◌, ◌-◌, ◌/◌, ◌%◌, ◌<◌}
use native.Mathlib.Omega.{arith}
use lib.ListN.{get_or}
use Rattle.spec.specs.Rose.{At}
use Rattle.spec.specs.Grammar.{header, kind_in, detail_in}
use Rattle.spec.specs.Tree
use Rattle.spec.specs.Tree.{string, other}
use Rattle.spec.specs.Tree.{local, tuple, list, and, bit_of, count_e, rose_e}
use Rattle.spec.specs.Tree.{Expr, const, read, fresh, dict, if_then, type_is, logic, seq, oper, call}
use Rattle.spec.specs.Proper.{Proper}
use Rattle.spec.specs.Verdict.{pure}
use Rattle.spec.specs.Value.{const_type, fresh_type}
use Rattle.spec.specs.Views.{kind_of, detail_of}
use Rattle.spec.specs.Pass.{typ}
use Rattle.spec.proofs.Passed.{const_text}
use Rattle.spec.proofs.Heads.{kind_of_header, outside, Operator, slice, builtin1, builtin2, index2, operator_view}
use Rattle.spec.proofs.Meanings.{low_bits}
use Rattle.expr_types.specs.Types.{type_text_by}

-- the text where the expression is pure
abbrev pub text_of : Expr → Option ℕ
text_of (const c) = Some (const_type c)
text_of (read p) = None
text_of (fresh f es) = Some (fresh_type f)
text_of (dict es) = Some 8
text_of (if_then c t f) = None
text_of (Tree.not e) = Some 2
text_of (type_is t e) = Some 2
text_of (logic l x y) = None
text_of (seq x y) = None
text_of (oper h pay es) = None
text_of (call names args kwargs f es) = None

-- ---- what `typ` gives

-- a text is a text's number
abbrev Short : Option ℕ → Type 0
Short (Some t) = t < 65536
Short None = Unit {0}

short_lem : (e : Expr) → Proper e → Short (text_of e)
short_lem (const c) p = const_text c p
short_lem (fresh tuple es) p = omega arith
short_lem (fresh list es) p = omega arith
short_lem (dict es) p = omega arith
short_lem (Tree.not e) p = omega arith
short_lem (type_is t e) p = omega arith
short_lem _ p = tt

pub text_short : (e : Expr) → Proper e → {t : ℕ} → text_of e ≡ Some t → t < 65536
text_short e p same = subst Short same (short_lem e p)

-- the name of a type, or the whole
abbrev pub named : Option ℕ → Bool → Expr → Expr
named (Some t) p whole = cond p (const (string t)) whole
named None p whole = whole

pub unnamed : (t : Option ℕ) (whole : Expr) → named t false whole ≡ whole
unnamed (Some t) whole = refl
unnamed None whole = refl

pub typ_by : (e whole : Expr) → typ e whole ≡ named (text_of e) (pure e) whole
unfolding typ pure
typ_by (fresh tuple es) whole = refl
typ_by _ whole = refl

-- ---- the text by an expression's own words

-- a header's kind counts
by_kind : (k d x : ℕ) → k < 256
    → type_text_by (kind_in (header k d)) (detail_in (header k d)) x ≡ type_text_by k (detail_in (header k d)) x
by_kind k d x l = ap (λ (n : ℕ). type_text_by n (detail_in (header k d)) x) (kind_of_header k d l)

operator_text : {k d : ℕ} → Operator k d → (x : ℕ) → type_text_by k d x ≡ None
operator_text slice x = refl
operator_text (builtin1 {d} u v) x = simp (outside d u v)
operator_text builtin2 x = refl
operator_text index2 x = refl

-- an other constant has a second payload word; nothing else looks at one
pub text_at : (w : List ℕ) (at : ℕ) (e : Expr) → Proper e → At w at (rose_e e)
    → type_text_by (kind_of (rose_e e)) (detail_of (rose_e e)) (get_or w (at + 2) 0) ≡ text_of e
text_at w at (const (other n t b e)) p h =
    let two : at + 2 ≡ at + 1 + 1 = omega arith in
    ap Some (ap (λ (i : ℕ). get_or w i 0 % 65536) two ∙ ap (λ (x : ℕ). x % 65536) h.0.1.1.0 ∙ low_bits t b e p)
text_at w at (read (local n)) p h = refl
text_at w at (fresh tuple es) p h = by_kind 6 (count_e es) (get_or w (at + 2) 0) (omega arith)
text_at w at (fresh list es) p h = by_kind 7 (count_e es) (get_or w (at + 2) 0) (omega arith)
text_at w at (dict es) p h = by_kind 8 (count_e es / 2) (get_or w (at + 2) 0) (omega arith)
text_at w at (logic and x y) p h = refl
text_at w at (oper h pay es) p a =
    operator_text (operator_view (kind_in h) (detail_in h) p.0) (get_or w (at + 2) 0)
text_at w at (call names args kwargs f es) p h =
    by_kind 16 (count_e es - (bit_of args + bit_of kwargs)) (get_or w (at + 2) 0) (omega arith)
text_at w at _ p h = refl
