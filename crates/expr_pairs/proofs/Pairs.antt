-- Nodes of two expressions, Seq, And and Or, where they stand: the places of the parts, and what is left where one of
-- the parts is moved down into the node's place.
-- Assumes nothing.
use mathlib.Core.List.{List, [], ◌∷◌}
use mathlib.Core.Logic.{inl}
use mathlib.Core.Path.{◌≡◌, refl, sym, subst}
use Prim.Native.Nat.{ℕ, ◌+◌, ◌≤◌}
use native.Mathlib.Omega.{arith}
use lib.ListN.{length}
use Rattle.spec.specs.Rose.{Rose, node, nil, cons, size, At}
use Rattle.spec.specs.Grammar.{Valid}
use Rattle.spec.specs.Tree.{Expr, rose_e}
use Rattle.spec.specs.Proper.{Proper, ValidExpr}
use Rattle.spec.proofs.Meanings.{expr_parts}
use Rattle.spec.specs.declared.Sort.TheVariants as sort
use Rattle.ir.specs.Standing.{SomeExpr, NodeOf}
use Rattle.buffer.specs.Copy.{PutAsk, PutDone}
use Rattle.buffer.proofs.Frames.{put_at}
use Rattle.expr_forms.specs.Made.{Is}

-- the node, by its header
abbrev pub pair : ℕ → Expr → Expr → Rose
pair h x y = node sort.Expr (h ∷ []) (cons (rose_e x) (cons (rose_e y) nil))

-- where its parts stand
pub record Pair (w : List ℕ) (at first end : ℕ) (x y : Expr) : Type 0 where
  pub left : At w first (rose_e x)
  pub right : At w (first + size (rose_e x)) (rose_e y)
  pub left_valid : ValidExpr x
  pub right_valid : ValidExpr y
  pub past : first ≡ at + 1
  pub ends : end ≡ first + size (rose_e x) + size (rose_e y)

pub pair_of : {w : List ℕ} {at k d p first n end : ℕ} (h : ℕ) (x y : Expr) → Proper x → Proper y
    → Valid sort.Expr (pair h x y) → At w at (pair h x y) → NodeOf w at k d p first n → end ≡ at + size (pair h x y)
    → Pair w at first end x y
pair_of {w} {at} h x y p q v here told e =
    let f = (told.of sort.Expr (pair h x y) refl v here).is_first in
    let each = expr_parts (pair h x y) v in record {
      left = subst (λ (i : ℕ). At w i (rose_e x)) (sym f) here.1.0;
      right = subst (λ (i : ℕ). At w (i + size (rose_e x)) (rose_e y)) (sym f) here.1.1.0;
      left_valid = (p, each.0);
      right_valid = (q, each.1.0);
      past = f;
      ends = omega arith;
    }

pub some_left : {w : List ℕ} {at first end : ℕ} {x y : Expr} → end ≤ length w → Pair w at first end x y
    → SomeExpr w first
some_left {w} {at} {first} {end} {x} i p = record {
  tree = rose_e x;
  valid = p.left_valid.1;
  here = p.left;
  inside = omega (arith, p.ends);
}

module _ {w : List ℕ} {at first end : ℕ} {x y : Expr} (p : Pair w at first end x y) (inside : end ≤ length w) where
  -- each part may be moved down into the node's place
  pub left_asks : PutAsk (length w) first (first + size (rose_e x)) at
  left_asks = record {
    order = omega arith;
    apart = inl (omega (arith, p.past));
    within = omega (arith, p.ends);
    room = omega (arith, p.ends, p.past);
  }

  pub right_asks : PutAsk (length w) (first + size (rose_e x)) end at
  right_asks = record {
    order = omega (arith, p.ends);
    apart = inl (omega (arith, p.past));
    within = inside;
    room = omega (arith, p.ends, p.past);
  }

  -- and stands there then
  pub left_put : {v : List ℕ} {r : ℕ} → PutDone w v first (first + size (rose_e x)) at r
      → Is v at r x × (r ≤ end)
  left_put d = (
    record { valid = p.left_valid; here = put_at (rose_e x) refl d p.left; ends = omega (arith, d.ends) },
    omega (arith, d.ends, p.ends, p.past),
  )

  pub right_put : {v : List ℕ} {r : ℕ} → PutDone w v (first + size (rose_e x)) end at r
      → Is v at r y × (r ≤ end)
  right_put d = (
    record {
      valid = p.right_valid;
      here = put_at (rose_e y) p.ends d p.right;
      ends = omega (arith, d.ends, p.ends);
    },
    omega (arith, d.ends, p.ends, p.past),
  )
