-- An expression that was read at the start of the words is optimized behind them, and its statements are made there,
-- within 17 times the words.
-- Assumes nothing.
use mathlib.Core.List.{List}
use mathlib.Core.Path.{◌≡◌, refl, ap, sym}
use Prim.Native.Nat.{ℕ, ◌+◌, ◌*◌, ◌≤◌, ◌<◌, ◌^◌}
use native.Mathlib.Omega.{arith}
use lib.ListN.{length, take}
use lib.Seq.{get_or-take, length-take-le}
use Rattle.spec.specs.Outcome.{Outcome, given, refused}
use Rattle.spec.specs.Rose.{Rose, size}
use Rattle.spec.specs.Frames.{Agree}
use Rattle.spec.specs.Tree.{Expr, rose_e}
use Rattle.spec.specs.Meaning.{expr_of, read_expr}
use Rattle.spec.specs.Reading.{bind, read_words}
use Rattle.spec.proofs.Outcomes.{not_given}
use Rattle.spec.proofs.Places.{at_move}
use Rattle.spec.specs.Weight.{weight_e, stmt_room}
use Rattle.spec.proofs.Trees.{expr_stands}
use Rattle.spec.proofs.Weights.{expr_weight}
use Rattle.spec.specs.declared.Sort.TheVariants as sort
use Rattle.reader.specs.Answers.{passed}
use Rattle.optimize.specs.Passed.{Ask, Done}
use Rattle.optimize.specs.declared.Optimized.{Optimized}
use Rattle.runs.specs.declared.Run.{Run}
use Rattle.in_place.specs.InPlace.{PlaceAsk, PlaceDone}
use Rattle.pass.specs.Pruned.{ExprBelow}
use Rattle.pass.proofs.Stated.{stated_ask, stated_place, stated_done}
use Rattle.expr_limits.specs.Room.{PassAsk}

-- words that are accepted hold an expression
accepted : (ws : List ℕ) (o : Outcome Rose) → read_words sort.Expr ws ≡ o → passed o ≡ given tt
    → (e : Expr) × (read_expr ws ≡ given e)
accepted ws (given r) q p = (expr_of r, ap (λ (o : Outcome Rose). bind o (λ t. given (expr_of t))) q)
accepted ws (refused number place) q p = absurd (not_given p)

pub read_asks : (w : List ℕ) (n : ℕ) → given tt ≡ passed (read_words sort.Expr (take n w)) → 17 * n ≤ length w
    → length w < 2 ^ 32 → PassAsk w n
read_asks w n p room short =
    let (e, q) = accepted (take n w) (read_words sort.Expr (take n w)) refl (sym p) in
    let f = expr_stands (take n w) e q in
    let l : length (take n w) ≡ n = length-take-le n w (omega arith) in
    let agree : Agree (take n w) 0 w 0 (size (rose_e e)) =
    record { word = λ k h. sym (get_or-take n w (0 + k) 0 (omega (arith, f.whole, l))) } in
    record {
      tree = e;
      valid = f.valid;
      here = at_move (rose_e e) f.here agree;
      ends = omega (arith, f.whole, l);
      room = room;
      short = short;
    }

module _ {w : List ℕ} {n : ℕ} (a : PassAsk w n) where
  is : ExprBelow w 0 n a.tree
  is = record { valid = a.valid; here = a.here; below = omega (arith, a.ends) }

  enough : n + stmt_room (weight_e a.tree) ≤ length w
  enough = omega (arith, (expr_weight a.tree).1, a.ends, a.room)

  pub row_ask : Ask w 0 (n + 1)
  row_ask = stated_ask is enough a.short

  module _ {v : List ℕ} {o : Optimized} (d : Done w v 0 (n + 1) o) (long : length v ≡ length w) where
    pub row_place : PlaceAsk v n o.end
    row_place = stated_place is enough a.short d long

    pub row_behind : {u : List ℕ} {run : Run} → PlaceDone v u n o.end run → n ≤ run.end
    row_behind p =
        let q = stated_done is enough a.short d long p in omega (arith, q.begins, (q.right a.tree is).holds.ends)
