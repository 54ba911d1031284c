-- What `type_is` leaves: a bool for a constant, and else the node as it stood.
-- Assumes nothing.
use mathlib.Core.Bool.{Bool, true, false}
use mathlib.Core.List.{List, [], ◌∷◌}
use mathlib.Core.Path.{◌≡◌, refl, ap, ap₂, sym, subst, ◌∙◌}
use Prim.Native.Nat.{ℕ, ◌+◌, ◌%◌, ◌≤◌}
use native.Mathlib.Omega.{arith}
use borrow.Author.Tests.{eqb-true, eqb-false}
use lib.Dec.{eqb}
use lib.ListN.{length, get_or}
use Rattle.spec.specs.Rose.{Words, At}
use Rattle.spec.specs.Grammar.{header, kind_in, detail_in}
use Rattle.spec.specs.Tree.{Const, boolean, other}
use Rattle.spec.specs.Tree.{Expr, const, type_is, const_words, rose_e}
use Rattle.spec.specs.Proper.{ProperConst, Proper}
use Rattle.spec.specs.Value.{const_type}
use Rattle.spec.specs.Pass.{type_is_expr}
use Rattle.spec.proofs.Meanings.{low_bits}
use Rattle.spec.specs.declared.Sort.TheVariants as sort
use Rattle.ir.specs.Standing.{IsExpr}
use Rattle.ir.specs.Written.{Written}
use Rattle.expr_forms.specs.Made.{remade, Plain, Handed, MadeOf}
use Rattle.expr_forms.specs.declared.Whole.{Whole}
use Rattle.expr_forms.proofs.Forms.{Form, class_of, form_by, is_const, type_is_keeps}
use Rattle.expr_forms.proofs.Singles.{Single, single_of, const_long}
use Rattle.expr_forms.proofs.Nodes.{folded, stays}
use Rattle.expr_types.specs.Types.{type_iss, type_is_made, const_type_by}

makes : (a : ℕ × Expr) → remade (type_iss a) ≡ type_is_made a
unfolding remade
makes a = refl

type_is_const : (t : ℕ) (c : Const) → type_is_expr t (const c) ≡ const (boolean (eqb (const_type c) t))
unfolding type_is_expr
type_is_const t c = refl

-- a constant's type text by its class and the word behind its first payload word
pub const_type_by_lem : (w : List ℕ) (at : ℕ) (c : Const) → ProperConst c → Words w at (const_words c)
    → const_type_by (class_of c) (get_or w (at + 2) 0) ≡ const_type c
const_type_by_lem w at (other n t b e) p h =
    let place : at + 2 ≡ at + 1 + 1 = omega arith in
    ap (λ (x : ℕ). x % 65536) (ap (λ (i : ℕ). get_or w i 0) place ∙ h.1.1.0) ∙ low_bits t b e p
const_type_by_lem w at _ p h = refl

module _ {w : List ℕ} {whole : Whole} (handed : Handed type_iss w whole) where
  abbrev at : ℕ
  at = whole.at

  abbrev p : ℕ
  p = whole.node.word

  abbrev first : ℕ
  first = whole.node.first

  abbrev end : ℕ
  end = whole.end

  abbrev plain : Plain type_iss w at end
  plain = handed.plain

  abbrev told : IsExpr w at whole.node
  told = handed.node_of

  abbrev t : ℕ
  t = plain.parts.0

  abbrev e : Expr
  e = plain.parts.1

  given : Single w at first end e
  given =
      let i = plain.is in
      single_of (header 11 4) (t ∷ []) e i.valid.0 i.valid.1 i.here told i.ends

  text : p ≡ t
  text = (told.of sort.Expr (rose_e (type_is t e)) refl plain.is.valid.1 plain.is.here).is_word

  module _ {head : ℕ} {constant : Bool} (looked : head ≡ get_or w first 0) (asked : constant ≡ eqb (kind_in head) 1)
    where
      shape : Form e (kind_in head) (detail_in head)
      shape = form_by w first e given.valid given.here looked refl refl

      is_one : constant ≡ true → kind_in head ≡ 1
      is_one h = eqb-true (kind_in head) 1 (sym asked ∙ h)

      pub type_is_room : constant ≡ true → (at + 2 ≤ length w) × (first + 2 ≤ length w)
      type_is_room h =
          let long = const_long given shape (is_one h) in
          (omega (arith, given.past, plain.inside), omega (arith, plain.inside))

      pub type_is_folded : {c second of_part : ℕ} {v : List ℕ} {r : ℕ} → constant ≡ true → c ≡ detail_in head
          → second ≡ get_or w (first + 2) 0 → of_part ≡ const_type_by c second
          → Written w v at (const_words (boolean (eqb of_part p))) r
          → length v ≡ length w → MadeOf type_iss type_is_made w v whole r
      type_is_folded {c} {second} {of_part} {v} {r} h is-class is-second is-type done long =
          let (x, is, class) = is_const shape (is_one h) in
          let valid = subst Proper is given.valid.0 in
          let here = subst (λ (y : Expr). At w first (rose_e y)) is given.here in
          let says : of_part ≡ const_type x =
          is-type ∙ ap₂ const_type_by (is-class ∙ sym class) is-second ∙ const_type_by_lem w first x valid here.0 in
          folded (eqb of_part p) plain makes (omega (arith, const_long given shape (is_one h), given.past)) done long
          (ap (type_is_expr t) is ∙ type_is_const t x
          ∙ ap₂ (λ (y z : ℕ). const (boolean (eqb y z))) (sym says) (sym text))

      pub type_is_stays : constant ≡ false → MadeOf type_iss type_is_made w w whole whole.end
      type_is_stays h =
          stays plain makes (type_is_keeps t shape (eqb-false (kind_in head) 1 (sym asked ∙ h)))
