-- What `seq` leaves: the right part alone where the left one is pure, and else the node as it stood.
-- Assumes nothing.
use mathlib.Core.Bool.{true, false}
use mathlib.Core.List.{List}
use mathlib.Core.Path.{◌≡◌, refl, sym, subst}
use Prim.Native.Nat.{ℕ, ◌+◌, ◌≤◌}
use native.Mathlib.Omega.{arith}
use lib.ListN.{length}
use Rattle.spec.specs.Rose.{size}
use Rattle.spec.specs.Tree.{Expr, seq, rose_e}
use Rattle.spec.specs.Verdict.{pure}
use Rattle.spec.specs.Pass.{seq_expr}
use Rattle.ir.specs.Standing.{SomeExpr}
use Rattle.purity.specs.Told.{IsPure, IsImpure}
use Rattle.purity.proofs.Exprs.{pure_here, impure_here}
use Rattle.buffer.specs.Copy.{PutAsk, PutDone}
use Rattle.buffer.proofs.Frames.{same_refl}
use Rattle.expr_forms.specs.Made.{Is, Plain, Handed, MadeOf}
use Rattle.expr_forms.specs.declared.Whole.{Whole}
use Rattle.expr_pairs.specs.Pairs.{seqs, seq_made}
use Rattle.expr_pairs.proofs.Pairs.{Pair, pair_of, some_left, right_asks, right_put}

seq_pure : (x y : Expr) → pure x ≡ true → seq_expr x y ≡ y
unfolding seq_expr
seq_pure x y p = rw p refl

seq_kept : (x y : Expr) → pure x ≡ false → seq_expr x y ≡ seq x y
unfolding seq_expr
seq_kept x y p = rw p refl

module _ {w : List ℕ} {whole : Whole} (handed : Handed seqs w whole) where
  abbrev at : ℕ
  at = whole.at

  abbrev first : ℕ
  first = whole.node.first

  abbrev end : ℕ
  end = whole.end

  abbrev plain : Plain seqs w at end
  plain = handed.plain

  pairs : (a : Expr × Expr) → Is w at end (seqs a) → Pair w at first end a.0 a.1
  pairs a i = pair_of 13 a.0 a.1 i.valid.0.0 i.valid.0.1 i.valid.1 i.here handed.node_of i.ends

  given : Pair w at first end plain.parts.0 plain.parts.1
  given = pairs plain.parts plain.is

  pub seq_left : SomeExpr w first
  seq_left = some_left plain.inside given

  module _ {next : ℕ} (left : IsPure w first next) where
    left_told : (a : Expr × Expr) → Is w at end (seqs a) → (pure a.0 ≡ true) × (next ≡ first + size (rose_e a.0))
    left_told a i = let q = pairs a i in pure_here a.0 q.left_valid q.left left

    pub seq_asks : PutAsk (length w) next end at
    seq_asks =
        subst (λ (i : ℕ). PutAsk (length w) i end at) (sym (left_told plain.parts plain.is).1)
        (right_asks given plain.inside)

    pub seq_dropped : {v : List ℕ} {r : ℕ} → PutDone w v next end at r → MadeOf seqs seq_made w v whole r
    seq_dropped {v} {r} done = record {
      below = done.frame;
      above = λ k h. done.above k (omega (arith, (moved plain.parts plain.is).1));
      long = done.long;
      right = λ a i.
          subst (Is v at r) (sym (seq_pure a.0 a.1 (left_told a i).0)) (moved a i).0;
    }
      where
        moved : (a : Expr × Expr) → Is w at end (seqs a) → Is v at r a.1 × (r ≤ end)
        moved a i =
            right_put (pairs a i) plain.inside
            (subst (λ (j : ℕ). PutDone w v j end at r) (left_told a i).1 done)

  pub seq_stays : IsImpure w first → MadeOf seqs seq_made w w whole whole.end
  seq_stays left = record {
    below = same_refl at w;
    above = λ k h. refl;
    long = refl;
    right = λ a i.
        let q = pairs a i in
        subst (Is w at end) (sym (seq_kept a.0 a.1 (impure_here a.0 q.left_valid q.left left))) i;
  }

-- what the check applies in `seq`
pub ruleset steps = (seq_left, seq_asks, seq_dropped)
