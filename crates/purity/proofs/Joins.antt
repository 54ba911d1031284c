-- And, Or and Not as `known_end` meets them, by the header that was read and the node that was made of it: their parts
-- stand ahead, and what is told of these tells of them.
-- Assumes nothing.
use mathlib.Core.Bool.{Bool, true, false, not}
use mathlib.Core.List.{List}
use mathlib.Core.Path.{◌≡◌, refl, ap}
use Prim.Native.Nat.{ℕ, ◌-◌, ◌<◌}
use native.Mathlib.Omega.{arith}
use borrow.Author.Tests.{eqb-true}
use lib.Dec.{eqb}
use lib.ListN.{length, get_or}
use Rattle.std.specs.Prelude.{Option}
use Rattle.spec.specs.Grammar.{kind_in, detail_in}
use Rattle.tables.specs.declared.exprs.ExprKind.{ExprKind}
use Rattle.ir.specs.Standing.{SomeExpr, IsExpr, NodeOf, SkipOf}
use Rattle.ir.specs.declared.tree.Node.{Node}
use Rattle.ir.proofs.Nodes.{some_of}
use Rattle.purity.specs.Told.{IsKnown, IsUnknown, TruthOf, left_decides}
use Rattle.purity.specs.declared.expr.Known.{Known}
use Rattle.purity.proofs.Pures.{some_node, expr_inside, expr_read}
use Rattle.purity.proofs.Truths.{not_asks, not_known, not_open, left_asks, right_asks, unknown_way, decided_way}
use Rattle.purity.proofs.Truths.{right_way, node_past, known_past}

-- And (detail 0) or Or at `at`, its left side at `first`
pub record Logic (ws : List ℕ) (at d first : ℕ) : Type 0 where
  pub left : SomeExpr ws first
  pub left_ahead : length ws - first < length ws - at
  pub unknown : IsUnknown ws first → IsUnknown ws at
  -- the right side, at `middle`, once the truth of the left one is known
  pub right : {b : Bool} {middle : ℕ} → IsKnown ws first b middle
      → (length ws - middle < length ws - at) × SomeExpr ws middle
  pub decides : {b : Bool} {middle next : ℕ} → IsKnown ws first b middle → left_decides d b ≡ true
      → SkipOf ws middle 1 next
      → IsKnown ws at b next
  pub goes_on : {b : Bool} {middle : ℕ} → IsKnown ws first b middle → left_decides d b ≡ false → (u : Option Known)
      → TruthOf ws middle u
      → TruthOf ws at u

-- Not at `at`, its part at `first`
pub record Turned (ws : List ℕ) (at first : ℕ) : Type 0 where
  pub part : SomeExpr ws first
  pub ahead : length ws - first < length ws - at
  pub unknown : IsUnknown ws first → IsUnknown ws at
  pub turns : {b : Bool} {next : ℕ} → IsKnown ws first b next → IsKnown ws at (not b) next

module _ {ws : List ℕ} {at : ℕ} (node : Node ExprKind) (x : SomeExpr ws at) where
  -- the node's numbers, under the kind and the detail that were read in its header
  numbers : {k d : ℕ} → k ≡ kind_in (get_or ws at 0) → d ≡ detail_in (get_or ws at 0) → IsExpr ws at node
      → NodeOf ws at k d node.word node.first node.count
  numbers ek ed = expr_read node (some_of (some_node x) refl ek ed)

  -- fewer words follow a part
  ahead : {k d : ℕ} → NodeOf ws at k d node.word node.first node.count → SomeExpr ws node.first
      → length ws - node.first < length ws - at
  ahead o y = omega (arith, (node_past x o).0, expr_inside y)

  pub logic : {k d : ℕ} → k ≡ kind_in (get_or ws at 0) → d ≡ detail_in (get_or ws at 0) → IsExpr ws at node → k ≡ 12
      → Logic ws at d node.first
  logic ek ed o k12 =
      let n = numbers ek ed o in
      let y = left_asks n k12 x in
      record {
        left = y;
        left_ahead = ahead n y;
        unknown = unknown_way n k12;
        right = λ q.
            let z = right_asks n k12 q x in
            (omega (arith, (node_past x n).0, known_past y q, expr_inside z), z);
        decides = λ q. decided_way n k12 q;
        goes_on = λ q. right_way n k12 q;
      }

  pub turned : eqb (get_or ws at 0) 779 ≡ true → IsExpr ws at node → Turned ws at node.first
  turned e o =
      let is = eqb-true (get_or ws at 0) 779 e in
      let k11 : kind_in (get_or ws at 0) ≡ 11 = ap kind_in is in
      let d3 : detail_in (get_or ws at 0) ≡ 3 = ap detail_in is in
      let n = numbers refl refl o in
      let y = not_asks n k11 d3 x in
      record {
        part = y;
        ahead = ahead n y;
        unknown = not_open n k11 d3;
        turns = not_known n k11 d3;
      }
