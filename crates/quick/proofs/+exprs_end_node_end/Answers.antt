-- `quick::exprs_end` and `quick::node_end` meet their contracts. The levels fall at each call of `exprs_end`;
-- `node_end` is called with the same levels, and counts one less there.
-- Assumes nothing.
use mathlib.Core.Path.{refl, ap, sym, ◌∙◌}
use Prim.Native.Nat.{◌<◌}
use native.Mathlib.Omega.{arith}
use Rattle.std.specs.Prelude.{Some}
use Rattle.tables.specs.Kinds.{expr_number}
use Rattle.spec.specs.Grammar.{part_count}
use Rattle.spec.specs.Reading.{read_at}
use Rattle.spec.specs.declared.Sort.TheVariants as sort
use Rattle.steps.specs.Steps.{next_of}
use Rattle.steps.specs.Quick.{Quick}
use Rattle.steps.proofs.Nodes.{parts_goes, exprs_none}
use Rattle.steps.proofs.Owns.{node_exprs}
use Rattle.quick.proofs.Ends.{const_told}
use Prim.Native.Nat.{ℕ}
use Rattle.quick.proofs.+exprs_end_node_end.Goals as goal
use Rattle.quick.proofs.+exprs_end_node_end.Goals.{exprs_end-Joined-is_read}
use Rattle.quick.proofs.+exprs_end_node_end.Goals.{exprs_end-then-is_read+in_ok-next}
use Rattle.quick.proofs.+exprs_end_node_end.Goals.{exprs_end-else-is_read+then-is_constant+in_ok-next-2}
use Rattle.quick.proofs.+exprs_end_node_end.Goals.{exprs_end-else-is_read+else-is_constant+in_ok-ok+in_ok-next-3}

-- a read, a constant or another node, the expression is what is read there
passed : (t : ℕ) (c : exprs_end-Joined-is_read t)
    → let a = c.args in
    Quick (next_of (read_at a.levels a.words.now sort.Expr c.loop-i.next)) (Some c.if-is_read.next)
passed t c =
    let level : 0 < c.args.levels = omega (arith, c.if-levels-eq0.false) in
    let (inside, word) = c.in_ok-h.ensures.lookup.3 in
    elim c.if-is_read.branch [
      | exprs_end-then-is_read+in_ok-next w ↦ rw w.next-is (w.in_ok-next.ensures _ level)
      | exprs_end-else-is_read+then-is_constant+in_ok-next-2 w ↦
          rw w.next-is
          (const_told _ _ _ inside level (rw (word 0) at (sym w.is_constant.ensures ∙ w.if-is_constant.true))
          (rw (word 0) at w.detail_of-d.ensures) (Some w.in_ok-next-2.next) w.in_ok-next-2.ensures)
      | exprs_end-else-is_read+else-is_constant+in_ok-ok+in_ok-next-3 w ↦ rw w.next-is w.in_ok-next-3.ensures
    ]

pub exprs_end-loop-i-preserved : goal.exprs_end-loop-i-preserved
exprs_end-loop-i-preserved t c =
    let a = c.args in
    let l = c.loop-i in
    let read = passed t (goal.at.exprs_end-loop-i-preserved t c).Joined-is_read in
    l.invariant
    ∙ parts_goes a.levels a.words.now (λ i. sort.Expr) a.count l._i l.next c.loop-i-test.true refl read

pub node_end-returns-then-count-eq0 : goal.node_end-returns-then-count-eq0
node_end-returns-then-count-eq0 t c =
    let a = c.args in
    node_exprs c.requires c.in_ok-first.ensures
    (c.part_count-count.ensures ∙ ap (part_count (expr_number a.kind) a.d) c.word_or_zero-w.ensures)
    ∙ exprs_none _ _ _ _ c.if-count-eq0.true
