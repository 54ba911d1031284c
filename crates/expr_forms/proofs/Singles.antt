-- Nodes of one expression, Not and TypeIs, where they stand: the place of the part.
-- Assumes nothing.
use mathlib.Core.List.{List, ◌∷◌}
use mathlib.Core.Path.{◌≡◌, refl, ap, sym, subst}
use Prim.Native.Nat.{ℕ, ◌+◌, ◌≤◌, ◌<◌}
use native.Mathlib.Omega.{arith}
use lib.ListN.{length}
use Rattle.spec.specs.Rose.{Rose, node, nil, cons, size, At}
use Rattle.spec.specs.Grammar.{Valid}
use Rattle.spec.specs.Tree.{Const, none}
use Rattle.spec.specs.Tree.{Expr, const, rose_e}
use Rattle.spec.specs.Proper.{Proper, ValidExpr}
use Rattle.spec.proofs.Meanings.{expr_parts}
use Rattle.spec.specs.declared.Sort.TheVariants as sort
use Rattle.ir.specs.Standing.{SomeExpr, NodeOf}
use Rattle.expr_forms.proofs.Forms.{Form, is_const}

-- the node, by its own words
abbrev pub single : ℕ → List ℕ → Expr → Rose
single h pay e = node sort.Expr (h ∷ pay) (cons (rose_e e) nil)

-- where its part stands
pub record Single (w : List ℕ) (at first end : ℕ) (e : Expr) : Type 0 where
  pub here : At w first (rose_e e)
  pub valid : ValidExpr e
  pub past : at < first
  pub ends : end ≡ first + size (rose_e e)

pub single_at : {w : List ℕ} {at first end : ℕ} (h : ℕ) (pay : List ℕ) (e : Expr) → Proper e
    → Valid sort.Expr (single h pay e) → At w at (single h pay e) → first ≡ at + length (h ∷ pay)
    → end ≡ at + size (single h pay e) → Single w at first end e
single_at {w} {at} h pay e p v here f q = record {
  here = subst (λ (i : ℕ). At w i (rose_e e)) (sym f) here.1.0;
  valid = (p, (expr_parts (single h pay e) v).0);
  past = omega arith;
  ends = omega arith;
}

pub single_of : {w : List ℕ} {at k d p first n end : ℕ} (h : ℕ) (pay : List ℕ) (e : Expr) → Proper e
    → Valid sort.Expr (single h pay e) → At w at (single h pay e) → NodeOf w at k d p first n
    → end ≡ at + size (single h pay e) → Single w at first end e
single_of h pay e p v here told q =
    single_at h pay e p v here (told.of sort.Expr (single h pay e) refl v here).is_first q

const_words_lem : (c : Const) → 2 ≤ size (rose_e (const c))
const_words_lem none = omega arith
const_words_lem _ = omega arith

module _ {w : List ℕ} {at first end : ℕ} {e : Expr} (s : Single w at first end e) where
  pub some_part : end ≤ length w → SomeExpr w first
  some_part i = record { tree = rose_e e; valid = s.valid.1; here = s.here; inside = omega (arith, s.ends) }

  -- a constant has two words at least
  pub const_long : {k d : ℕ} → Form e k d → k ≡ 1 → first + 2 ≤ end
  const_long f h =
      let c = is_const f h in
      omega (arith, s.ends, ap (λ (x : Expr). size (rose_e x)) c.1, const_words_lem c.0)
