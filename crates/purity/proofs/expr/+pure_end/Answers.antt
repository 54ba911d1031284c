-- `purity::expr::pure_end` meets its contract. The words from its place on fall at each call.
-- Assumes nothing.
use mathlib.Core.Path.{refl, sym, ◌∙◌}
use Prim.Native.Nat.{ℕ}
use native.Mathlib.Omega.{arith}
use Rattle.std.specs.Prelude.{Some, None}
use Rattle.tables.specs.Kinds.{expr_number}
use Rattle.ir.specs.Standing.{NodeOf}
use Rattle.ir.proofs.Nodes.{some_of}
use Rattle.ir.proofs.Ranges.{expr_range}
use Rattle.purity.proofs.Pures.{some_node, expr_inside, expr_read, own_impure, kind_impure, inv_start, inv_asks}
use Rattle.purity.proofs.Pures.{inv_past, inv_step, inv_halt, inv_whole}
use Rattle.purity.proofs.Chains.{Link, link, left_asks, left_past, left_halt, right_past, chain_on}
use Rattle.purity.proofs.expr.+pure_end.Goals as goal
use Rattle.purity.proofs.expr.+pure_end.Goals.{After-bare_at-seq, After-own_by-node}

-- a Seq that was met, by its left part
seq : (t : ℕ) (c : After-bare_at-seq t) → Link c.args.words.now c.args.at c.loop-seq.here c.bare_at-seq.result.first
seq t c =
    link c.bare_at-seq.result c.loop-seq.invariant.0 c.loop-seq.invariant.1
    (sym c.kind_of.ensures ∙ c.loop-seq-test.true) c.bare_at-seq.ensures

-- any other node, by its numbers
numbers : (t : ℕ) (c : After-own_by-node t) → let r = c.own_by-node.result in
    NodeOf c.args.words.now c.loop-seq.here (expr_number c.at-kind.result) c.detail_of-detail.result
    r.word r.first r.count
numbers t c =
    let some = some_node c.loop-seq.invariant.0.some in
    expr_read c.own_by-node.result (some_of some c.loop-seq.invariant.1 c.at-kind.ensures c.detail_of-detail.ensures)
    c.own_by-node.ensures

pub bounds-words-here : goal.bounds-words-here
bounds-words-here t c = expr_inside c.requires

pub pure_end-requires : goal.pure_end-requires
pure_end-requires t c =
    let l = seq t (goal.at.pure_end-requires t c).After-bare_at-seq in
    (omega (arith, left_past l, c.decreases), left_asks l)

pub returns-in_err-left : goal.returns-in_err-left
returns-in_err-left t c =
    rw c.from_residual.ensures
    (left_halt (seq t (goal.at.returns-in_err-left t c).After-bare_at-seq) c.in_err-left.ensures)

pub offset_bounds-words-here-in-loop-seq : goal.offset_bounds-words-here-in-loop-seq
offset_bounds-words-here-in-loop-seq t c =
    let l = seq t (goal.at.offset_bounds-words-here-in-loop-seq t c).After-bare_at-seq in
    omega (arith, expr_inside (chain_on l c.in_ok-left.ensures).some)

pub bounds-words-here-in-loop-seq : goal.bounds-words-here-in-loop-seq
bounds-words-here-in-loop-seq t c =
    let l = seq t (goal.at.bounds-words-here-in-loop-seq t c).After-bare_at-seq in
    expr_inside (chain_on l c.in_ok-left.ensures).some

pub loop-seq-smaller : goal.loop-seq-smaller
loop-seq-smaller t c =
    let l = seq t (goal.at.loop-seq-smaller t c).After-bare_at-seq in
    omega (arith, right_past l c.in_ok-left.ensures, expr_inside (chain_on l c.in_ok-left.ensures).some)

pub loop-seq-preserved : goal.loop-seq-preserved
loop-seq-preserved t c =
    (chain_on (seq t (goal.at.loop-seq-preserved t c).After-bare_at-seq) c.in_ok-left.ensures, refl)

pub returns-then-not-may_be_pure : goal.returns-then-not-may_be_pure
returns-then-not-may_be_pure t c =
    let chain = c.loop-seq.invariant.0 in
    chain.so None
    (kind_impure (some_of (some_node chain.some) c.loop-seq.invariant.1 c.at-kind.ensures refl)
    (sym c.may_be_pure.ensures ∙ c.if-not-may_be_pure.true))

pub returns-then-not-own_pure : goal.returns-then-not-own_pure
returns-then-not-own_pure t c =
    let node = numbers t (goal.at.returns-then-not-own_pure t c).After-own_by-node in
    c.loop-seq.invariant.0.so None
    (own_impure node c.word_or_zero-callee.ensures (sym c.if-not-own_pure.true ∙ c.own_pure.ensures))

pub loop-i-init : goal.loop-i-init
loop-i-init t c =
    inv_start (numbers t (goal.at.loop-i-init t c).After-own_by-node) c.word_or_zero-callee.ensures
    (sym c.if-not-own_pure.false ∙ c.own_pure.ensures)

pub pure_end-requires-in-loop-i : goal.pure_end-requires-in-loop-i
pure_end-requires-in-loop-i t c =
    let v = c.loop-i.invariant in
    let chain = c.loop-seq.invariant.0 in
    let p = inv_past v chain.some in
    (omega (arith, p.0, p.1, chain.past, c.decreases), inv_asks v chain.some c.loop-i-test.true)

pub returns-in_err-next : goal.returns-in_err-next
returns-in_err-next t c =
    rw c.from_residual-in_err-next.ensures
    (c.loop-seq.invariant.0.so None (inv_halt c.loop-i.invariant c.loop-i-test.true c.in_err-next.ensures))

pub loop-i-preserved : goal.loop-i-preserved
loop-i-preserved t c = inv_step c.loop-i.invariant c.loop-i-test.true c.in_ok-next.ensures

pub returns : goal.returns
returns t c = c.loop-seq.invariant.0.so (Some _) (inv_whole c.loop-i.invariant c.loop-i-test.false)

pub at-kind-requires : goal.at-kind-requires
at-kind-requires t c = rw c.loop-seq.invariant.1 (expr_range c.loop-seq.invariant.0.some)
