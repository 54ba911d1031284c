-- What `pair` and `make` ask of each constructor, and that what it leaves is what is made of the whole.
-- Assumes nothing.
use mathlib.Core.Bool.{true, false, ◌&&◌, false≢true}
use mathlib.Core.List.{List}
use mathlib.Core.Path.{◌≡◌, refl, ap, sym, subst, ◌∙◌}
use Prim.Native.Nat.{ℕ}
use native.Mathlib.Omega.{arith}
use borrow.Author.Tests.{eq-eqb, ne_eqb}
use lib.Dec.{eqb}
use Rattle.spec.specs.Grammar.{within}
use Rattle.spec.specs.Tree.{Expr}
use Rattle.ir.specs.Standing.{NodeOf}
use Rattle.expr_forms.specs.Made.{wholes, remade, Is, Plain, Made, Handed, MadeOf}
use Rattle.expr_forms.specs.declared.Whole.{Whole}
use Rattle.expr_forms.proofs.Forms.{Form, form_at, is_not_lem, is_type_is_lem, is_logic, is_seq_lem, is_call}
use Rattle.expr_forms.proofs.Forms.{make_keeps}
use Rattle.expr_forms.proofs.Nodes.{made_of, stays}
use Rattle.expr_pairs.specs.Pairs.{seqs, seq_made, logics, logic_made}
use Rattle.expr_types.specs.Types.{type_iss, type_is_made, calls, call_made}
use Rattle.expr.specs.Nots.{nots, not_made}

-- the whole has a form
pub record Has {A : Type 0} (plain made : A → Expr) (e : Expr) : Type 0 where
  pub parts : A
  pub is : e ≡ plain parts
  pub makes : remade (plain parts) ≡ made parts

module _ {A : Type 0} {form made : A → Expr} {w : List ℕ} {whole : Whole} (p : Handed wholes w whole)
    (h : Has form made p.plain.parts) where
  here : Is w whole.at whole.end (form h.parts)
  here = subst (Is w whole.at whole.end) h.is p.plain.is

  pub whole_asks : Handed form w whole
  whole_asks = record {
    plain = record { parts = h.parts; is = here; inside = p.plain.inside };
    node_of = p.node_of;
  }

  pub whole_made : {v : List ℕ} {r : ℕ} → MadeOf form made w v whole r → MadeOf wholes remade w v whole r
  whole_made {v} {r} m =
      made_of p.plain (λ a. refl) m.below m.above m.long
      (subst (Is v whole.at r) (sym (ap remade h.is ∙ h.makes)) (m.right h.parts here))

-- which, by the node's kind and detail
module _ {w : List ℕ} {at k d p first n end : ℕ} (plain : Plain wholes w at end) (told : NodeOf w at k d p first n)
  where
    abbrev e : Expr
    e = plain.parts

    shape : Form e k d
    shape = form_at e plain.is.valid plain.is.here told

    pub has_not : k ≡ 11 → d ≡ 3 → Has nots not_made e
    unfolding remade
    has_not h g =
        let f = is_not_lem shape (simp (eq-eqb k 11 h, eq-eqb d 3 g)) in
        record { parts = f.0; is = f.1; makes = refl }

    pub has_type_is : k ≡ 11 → d ≡ 4 → Has type_iss type_is_made e
    unfolding remade
    has_type_is h g =
        let f = is_type_is_lem shape (simp (eq-eqb k 11 h, eq-eqb d 4 g)) in
        record { parts = f.0; is = f.1; makes = refl }

    pub has_logic : k ≡ 12 → Has logics logic_made e
    unfolding remade
    has_logic h = let f = is_logic shape h in record { parts = f.0; is = f.1; makes = refl }

    pub has_seq : k ≡ 13 → Has seqs seq_made e
    unfolding remade
    has_seq h = let f = is_seq_lem shape h in record { parts = f.0; is = f.1; makes = refl }

    pub has_call : k ≡ 16 → Has calls call_made e
    unfolding remade
    has_call h = let f = is_call shape h in record { parts = f.0; is = f.1; makes = refl }

    -- outside
    pub whole_stays : eqb k 11 && eqb d 3 ≡ false → eqb k 11 && eqb d 4 ≡ false → within 12 13 k ≡ false
        → (k ≡ 16 → ⊥) → Made wholes remade w w at end end
    whole_stays g h b c = stays plain (λ a. refl) (make_keeps shape g h (none 12 refl) (none 13 refl) c)
      where
        none : (n : ℕ) → within 12 13 n ≡ true → k ≡ n → ⊥
        none n u q = false≢true (sym b ∙ ap (within 12 13) q ∙ u)

    -- so no Builtin1, And, Or, Seq or call
    pub other_stays : (k ≡ 11 → ⊥) → within 12 13 k ≡ false → (k ≡ 16 → ⊥) → Made wholes remade w w at end end
    other_stays g b c = let e = ne_eqb k 11 g in whole_stays (simp e) (simp e) b c

    -- and a Builtin1 but Not and TypeIs
    pub builtin_stays : k ≡ 11 → (d ≡ 3 → ⊥) → (d ≡ 4 → ⊥) → Made wholes remade w w at end end
    builtin_stays e g h =
        whole_stays (simp (eq-eqb k 11 e, ne_eqb d 3 g)) (simp (eq-eqb k 11 e, ne_eqb d 4 h)) (ap (within 12 13) e)
        (λ q. omega arith)
