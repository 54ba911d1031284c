-- What `not` leaves: a bool for a constant, the part of its part where that is definitely a bool, and else the node as
-- it stood.
-- Assumes nothing.
use mathlib.Core.Bool.{Bool, true, false, not}
use mathlib.Core.List.{List, []}
use mathlib.Core.Logic.{inl}
use mathlib.Core.Path.{◌≡◌, refl, ap, sym, subst, ◌∙◌}
use Prim.Native.Nat.{ℕ, ◌+◌, ◌≤◌}
use native.Mathlib.Omega.{arith}
use borrow.Author.Tests.{eqb-true, eqb-false}
use lib.Dec.{eqb}
use lib.ListN.{length, get_or}
use Rattle.spec.specs.Grammar.{header, kind_in, detail_in}
use Rattle.spec.specs.Tree
use Rattle.spec.specs.Tree.{Const, boolean, Expr, const, const_words, rose_e}
use Rattle.spec.specs.Verdict.{const_truth, known, truth_of, definitely_bool}
use Rattle.spec.specs.Pass.{not_expr}
use Rattle.spec.proofs.Meanings.{expr_again}
use Rattle.spec.specs.declared.Truth.TheVariants as truth
use Rattle.ir.specs.Standing.{SomeExpr}
use Rattle.ir.specs.Written.{Written}
use Rattle.purity.specs.Told.{IsKnown, IsUnknown, BoolOf}
use Rattle.purity.proofs.Exprs.{known_here, unknown_here}
use Rattle.buffer.specs.Copy.{PutAsk, PutDone}
use Rattle.buffer.proofs.Frames.{put_at}
use Rattle.expr_forms.specs.Made.{remade, Is, Plain, Handed, MadeOf}
use Rattle.expr_forms.specs.declared.Whole.{Whole}
use Rattle.expr_forms.proofs.Forms.{Form, form_by, is_const, is_not_lem, not_keeps}
use Rattle.expr_forms.proofs.Singles.{Single, single_at, single_of, some_part, const_long}
use Rattle.expr_forms.proofs.Nodes.{made_of, folded, stays}
use Rattle.expr.specs.Nots.{nots, not_made}

makes : (e : Expr) → remade (nots e) ≡ not_made e
unfolding remade
makes e = refl

-- a known truth tells which
known_same : (a b : Bool) → known a ≡ known b → not a ≡ not b
known_same true true e = refl
known_same true false e = let z : ◌≡◌ {A = ℕ} 0 1 = cc in absurd (omega arith)
known_same false true e = let z : ◌≡◌ {A = ℕ} 0 1 = cc in absurd (omega arith)
known_same false false e = refl

known_some : (a : Bool) → known a ≡ truth.Unknown → ⊥
known_some true e = let z : ◌≡◌ {A = ℕ} 0 1 = cc in omega arith
known_some false e = let z : ◌≡◌ {A = ℕ} 0 1 = cc in omega arith

-- a constant's is known
not_const : (c : Const) (b : Bool) → truth_of (const c) ≡ known b → not_expr (const c) ≡ const (boolean (not b))
unfolding not_expr truth_of
not_const c b e = ap (λ x. const (boolean x)) (known_same (const_truth c) b e)

const_known : (c : Const) → truth_of (const c) ≡ truth.Unknown → ⊥
unfolding truth_of
const_known c e = known_some (const_truth c) e

not_not : (e : Expr) → definitely_bool e ≡ true → not_expr (Tree.not e) ≡ e
unfolding not_expr
not_not e h = rw h refl

not_other : (e : Expr) → definitely_bool e ≡ false → not_expr (Tree.not e) ≡ Tree.not (Tree.not e)
unfolding not_expr
not_other e h = rw h refl

module _ {w : List ℕ} {whole : Whole} (handed : Handed nots w whole) where
  abbrev at : ℕ
  at = whole.at

  abbrev first : ℕ
  first = whole.node.first

  abbrev end : ℕ
  end = whole.end

  abbrev plain : Plain nots w at end
  plain = handed.plain

  abbrev e : Expr
  e = plain.parts

  given : Single w at first end e
  given =
      let i = plain.is in
      single_of (header 11 3) [] e i.valid.0 i.valid.1 i.here handed.node_of i.ends

  pub not_part : SomeExpr w first
  not_part = some_part given plain.inside

  module _ {head : ℕ} (looked : head ≡ get_or w first 0) where
    shape : Form e (kind_in head) (detail_in head)
    shape = form_by w first e given.valid given.here looked refl refl

    -- ---- a constant

    module _ {constant : Bool} (asked : constant ≡ eqb (kind_in head) 1) (is_constant : constant ≡ true) where
      h : kind_in head ≡ 1
      h = eqb-true (kind_in head) 1 (sym asked ∙ is_constant)

      pub not_room : at + 2 ≤ length w
      not_room = omega (arith, const_long given shape h, given.past, plain.inside)

      truth_is_lem : truth_of (const (is_const shape h).0) ≡ truth_of e
      truth_is_lem = ap truth_of (sym (is_const shape h).1)

      pub not_folded : {b : Bool} {next : ℕ} → IsKnown w first b next → {v : List ℕ} {r : ℕ}
          → Written w v at (const_words (boolean (not b))) r → length v ≡ length w → MadeOf nots not_made w v whole r
      not_folded {b} knows done long =
          let (c, is, class) = is_const shape h in
          folded (not b) plain makes (omega (arith, const_long given shape h, given.past)) done long
          (ap not_expr is ∙ not_const c b (truth_is_lem ∙ (known_here e given.valid given.here knows).0))

      pub not_unknown : IsUnknown w first → ⊥
      not_unknown knows =
          const_known (is_const shape h).0 (truth_is_lem ∙ unknown_here e given.valid given.here knows)

    -- ---- a Not

    module _ {test : Bool} (tested : test ≡ eqb head (header 11 3)) (is_not : test ≡ true) where
      header_is : head ≡ header 11 3
      header_is = eqb-true head (header 11 3) (sym tested ∙ is_not)

      found : (x : Expr) × (e ≡ Tree.not x)
      found = is_not_lem (form_by w first e given.valid given.here (sym header_is ∙ looked) refl refl) refl

      abbrev x : Expr
      x = found.0

      is : e ≡ Tree.not x
      is = found.1

      -- it has no payload: its part is the next word
      within : Single w first (first + 1) end x
      within =
          let g = subst (Single w at first end) is given in
          single_at (header 11 3) [] x g.valid.0 g.valid.1 g.here refl g.ends

      pub not_inner : SomeExpr w (first + 1)
      not_inner = some_part within plain.inside

      pub not_next : first + 1 ≤ length w
      not_next = omega (arith, within.ends, plain.inside)

      pub not_asks : PutAsk (length w) (first + 1) end at
      not_asks = record {
        order = omega (arith, within.ends);
        apart = inl (omega (arith, given.past, within.past));
        within = plain.inside;
        room = omega (arith, within.ends, given.past, within.past, plain.inside);
      }

      module _ {b : Bool} (told-bool : BoolOf definitely_bool w (first + 1) b) where
        says : b ≡ definitely_bool x
        says =
            told-bool.of (rose_e x) within.valid.1 within.here
            ∙ ap definitely_bool (expr_again x within.valid.0 within.valid.1)

        pub not_stripped : {v : List ℕ} {r : ℕ} → b ≡ true → PutDone w v (first + 1) end at r
            → MadeOf nots not_made w v whole r
        not_stripped {v} {r} t done =
            made_of plain makes done.frame
            (λ i g. done.above i (omega (arith, done.ends, within.ends, given.past, within.past))) done.long
            (subst (Is v at r) (sym (ap not_expr is ∙ not_not x (sym says ∙ t)))
            (record {
              valid = within.valid;
              here = put_at (rose_e x) within.ends done within.here;
              ends = omega (arith, done.ends, within.ends);
            }))

        pub not_kept : b ≡ false → MadeOf nots not_made w w whole whole.end
        not_kept t =
            stays plain makes (ap not_expr is ∙ not_other x (sym says ∙ t) ∙ ap Tree.not (sym is))

    -- ---- any other part

    pub not_stays : {constant : Bool} → constant ≡ eqb (kind_in head) 1 → constant ≡ false
        → {test : Bool} → test ≡ eqb head (header 11 3) → test ≡ false
        → MadeOf nots not_made w w whole whole.end
    not_stays asked no_constant tested other =
        let h = eqb-false (kind_in head) 1 (sym asked ∙ no_constant) in
        let g = eqb-false head (header 11 3) (sym tested ∙ other) in
        stays plain makes (not_keeps shape h (λ k d. g (omega arith)))

-- what the check applies in `not`
pub ruleset asks = (not_part, not_next, not_inner)
