-- Purity along the right parts of Seqs, however far they nest: the first loop of `pure_end`.
-- Assumes nothing.
use mathlib.Core.List.{List}
use mathlib.Core.Path.{◌≡◌, refl, sym, ◌∙◌}
use Rattle.std.specs.Prelude.{Option, Some, None}
use Prim.Native.Nat.{ℕ, ◌≤◌, ◌<◌}
use native.Mathlib.Omega.{arith}
use lib.ListN.{length, get_or}
use Rattle.spec.specs.Grammar.{kind_in, detail_in}
use Rattle.tables.specs.declared.exprs.ExprKind.{ExprKind}
use Rattle.ir.specs.declared.tree.Node.{Node}
use Rattle.spec.specs.declared.Sort.TheVariants as sort
use Rattle.ir.specs.Standing.{SomeExpr, IsExpr}
use Rattle.ir.proofs.Nodes.{some_of, bare_of}
use Rattle.purity.specs.Told.{IsPure, IsImpure, PureOf}
use Rattle.purity.proofs.Pures.{some_node, expr_read, Inv, inv_start, inv_asks, inv_past, inv_step, inv_halt, inv_whole}

-- an expression stands at `here`, and what is told of it holds of the one at `at`
pub record Chain (ws : List ℕ) (at here : ℕ) : Type 0 where
  pub some : SomeExpr ws here
  pub past : at ≤ here
  pub so : (p : Option ℕ) → PureOf ws here p → PureOf ws at p

-- the expression at `here` is a Seq, its left part at `first`
pub record Link (ws : List ℕ) (at here first : ℕ) : Type 0 where
  pub chain : Chain ws at here
  pub parts : Inv ws here 2 first 0

pub link : {ws : List ℕ} {at here h : ℕ} (node : Node ExprKind) → Chain ws at here → h ≡ get_or ws here 0
    → kind_in h ≡ 13 → IsExpr ws here node
    → Link ws at here node.first
link {ws} {at} {here} {h} node f eh k o =
    let x = some_of {d = detail_in h} (some_node f.some) eh (sym k) refl in
    let numbers = expr_read node x o in
    let s = f.some in
    let told = numbers.of sort.Expr s.tree refl s.valid s.here in
    let bare = (bare_of x refl refl).of sort.Expr s.tree refl s.valid s.here in
    let two : node.count ≡ 2 = told.is_count ∙ sym bare.is_count in
    record { chain = f; parts = rw two at (inv_start numbers refl refl) }

module _ {ws : List ℕ} {at here first : ℕ} (l : Link ws at here first) where
  pub left_asks : SomeExpr ws first
  left_asks = inv_asks l.parts l.chain.some (omega arith)

  pub left_past : (at < first) × (at < length ws)
  left_past =
      let p = inv_past l.parts l.chain.some in
      (omega (arith, p.0, l.chain.past), omega (arith, p.1, l.chain.past))

  -- the left part is not pure
  pub left_halt : IsImpure ws first → IsImpure ws at
  left_halt q = l.chain.so None (inv_halt l.parts (omega arith) q)

  -- the left part is pure, and the right one begins where it ends
  module _ {end : ℕ} (q : IsPure ws first end) where
    rest : Inv ws here 2 end 1
    rest = inv_step l.parts (omega arith) q

    pub right_past : here < end
    right_past = (inv_past rest l.chain.some).0

    whole : (p : Option ℕ) → PureOf ws end p → PureOf ws here p
    whole (Some next) o =
        inv_whole (inv_step rest (omega arith) o) (omega arith)
    whole None o = inv_halt rest (omega arith) o

    pub chain_on : Chain ws at end
    chain_on = record {
      some = inv_asks rest l.chain.some (omega arith);
      past = omega (arith, l.chain.past, right_past);
      so = λ p o. l.chain.so p (whole p o);
    }
