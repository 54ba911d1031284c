-- What `logical_bin_op` leaves: the part that counts where the left one's truth is known, and else the node as it
-- stood.
-- Assumes nothing.
use mathlib.Core.Bool.{Bool, true, false, cond, beq}
use mathlib.Core.List.{List}
use mathlib.Core.Path.{◌≡◌, refl, ap, sym, subst, ◌∙◌}
use Prim.Native.Nat.{ℕ, ◌+◌, ◌≤◌}
use native.Mathlib.Omega.{arith}
use lib.Dec.{eqb}
use lib.ListN.{length}
use Rattle.spec.specs.Rose.{size}
use Rattle.spec.specs.Grammar.{header, detail_in}
use Rattle.spec.specs.Tree.{Expr, Logic, and, or, logic, logic_detail, rose_e}
use Rattle.spec.specs.Verdict.{truth_of, known}
use Rattle.spec.specs.Running.{decides}
use Rattle.spec.specs.Pass.{logical_by, logical_bin_op}
use Rattle.spec.specs.declared.Sort.TheVariants as sort
use Rattle.spec.specs.declared.Truth.TheVariants as truth
use Rattle.ir.specs.Standing.{SomeExpr}
use Rattle.purity.specs.Told.{IsKnown, IsUnknown}
use Rattle.purity.proofs.Exprs.{known_here, unknown_here}
use Rattle.buffer.specs.Copy.{PutDone}
use Rattle.buffer.proofs.Frames.{same_refl}
use Rattle.expr_forms.specs.Made.{Is, Plain, Handed, MadeOf}
use Rattle.expr_forms.specs.declared.Whole.{Whole}
use Rattle.expr_pairs.specs.Pairs.{logics, logic_made, Kept}
use Rattle.expr_pairs.proofs.Pairs.{Pair, pair_of, some_left, left_asks, right_asks, left_put, right_put}

-- which part is kept where the left one's truth is known: for yes the left of an Or, for no the left of an And
logic_known : (l : Logic) (b : Bool) (x y : Expr) → truth_of x ≡ known b
    → logical_bin_op l x y ≡ cond (beq b (eqb (logic_detail l) 1)) x y
unfolding logical_bin_op logical_by decides
logic_known and true x y t = rw t refl
logic_known and false x y t = rw t refl
logic_known or true x y t = rw t refl
logic_known or false x y t = rw t refl

logic_unknown : (l : Logic) (x y : Expr) → truth_of x ≡ truth.Unknown → logical_bin_op l x y ≡ logic l x y
unfolding logical_bin_op logical_by
logic_unknown l x y t = rw t refl

logic_detail_lem : (l : Logic) → detail_in (header 12 (logic_detail l)) ≡ logic_detail l
logic_detail_lem and = refl
logic_detail_lem or = refl

module _ {w : List ℕ} {whole : Whole} (handed : Handed logics w whole) where
  abbrev at : ℕ
  at = whole.at

  abbrev d : ℕ
  d = whole.node.detail

  abbrev first : ℕ
  first = whole.node.first

  abbrev end : ℕ
  end = whole.end

  abbrev plain : Plain logics w at end
  plain = handed.plain

  pairs : (a : Logic × Expr × Expr) → Is w at end (logics a) → Pair w at first end a.1 a.2
  pairs a i =
      pair_of (header 12 (logic_detail a.0)) a.1 a.2 i.valid.0.0 i.valid.0.1 i.valid.1 i.here
      handed.node_of i.ends

  detail_is : (a : Logic × Expr × Expr) → Is w at end (logics a) → d ≡ logic_detail a.0
  detail_is a i =
      (handed.node_of.of sort.Expr (rose_e (logics a)) refl i.valid.1 i.here).is_detail ∙ logic_detail_lem a.0

  given : Pair w at first end plain.parts.1 plain.parts.2
  given = pairs plain.parts plain.is

  pub logic_left : SomeExpr w first
  logic_left = some_left plain.inside given

  module _ {b : Bool} {next : ℕ} (left : IsKnown w first b next) where
    left_told : (a : Logic × Expr × Expr) → Is w at end (logics a)
        → (truth_of a.1 ≡ known b) × (next ≡ first + size (rose_e a.1))
    left_told a i = let q = pairs a i in known_here a.1 q.left_valid q.left left

    pub logic_asks : Kept (length w) at first next end
    logic_asks =
        subst (λ (j : ℕ). Kept (length w) at first j end) (sym (left_told plain.parts plain.is).1)
        (record { left = left_asks given plain.inside; right = right_asks given plain.inside })

    module _ {v : List ℕ} {r : ℕ} where
      -- one part was put in the node's place
      moved : (b : Bool) → PutDone w v (cond b first next) (cond b next end) at r
          → (a : Logic × Expr × Expr) → Is w at end (logics a) → Is v at r (cond b a.1 a.2) × (r ≤ end)
      moved true done a i =
          left_put (pairs a i) plain.inside (subst (λ (j : ℕ). PutDone w v first j at r) (left_told a i).1 done)
      moved false done a i =
          right_put (pairs a i) plain.inside (subst (λ (j : ℕ). PutDone w v j end at r) (left_told a i).1 done)

      pub logic_kept : (let left-kept = beq b (eqb d 1) in
          PutDone w v (cond left-kept first next) (cond left-kept next end) at r)
          → MadeOf logics logic_made w v whole r
      logic_kept done = record {
        below = done.frame;
        above = λ j l. done.above j (omega (arith, (moved (beq b (eqb d 1)) done plain.parts plain.is).1));
        long = done.long;
        right = λ a i.
            subst (Is v at r)
            (sym (logic_known a.0 b a.1 a.2 (left_told a i).0
            ∙ ap (λ (m : ℕ). cond (beq b (eqb m 1)) a.1 a.2) (sym (detail_is a i))))
            (moved (beq b (eqb d 1)) done a i).0;
      }

  pub logic_stays : IsUnknown w first → MadeOf logics logic_made w w whole whole.end
  logic_stays left = record {
    below = same_refl at w;
    above = λ j h. refl;
    long = refl;
    right = λ a i.
        let q = pairs a i in
        subst (Is w at end) (sym (logic_unknown a.0 a.1 a.2 (unknown_here a.1 q.left_valid q.left left))) i;
  }

-- what the check applies in `logical_bin_op`
pub ruleset steps = (logic_left, logic_asks)
