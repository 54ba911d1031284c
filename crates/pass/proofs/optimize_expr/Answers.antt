-- `optimize_expr` meets its contract.
-- Assumes nothing.
use mathlib.Core.Path.{refl, sym, ◌∙◌}
use borrow.Author.Tests.{eqb-true}
use Rattle.ir.specs.Standing.{SomeNodeOf}
use Rattle.ir.proofs.Nodes.{some_of}
use Rattle.tables.specs.Kinds.{expr_number}
use Rattle.purity.proofs.Pures.{some_node, node_read}
use Rattle.pass.proofs.Constants.{const_done}
use Rattle.pass.proofs.Stated.{stated_some, stated_done}
use Rattle.pass.proofs.optimize_expr.Goals as goal
use Rattle.pass.proofs.optimize_expr.Goals.{After-detail_of}

-- a constant with its header read
read : (c : After-detail_of)
    → SomeNodeOf c.args.words.now
    c.args.first 1 c.detail_of.result
read c =
    some_of (some_node (stated_some c.requires.is c.requires.room c.requires.short)) c.word_or_zero-h.ensures
    (sym (eqb-true _ 1 (sym c.is_constant.ensures ∙ c.if-is_constant.true))) c.detail_of.ensures

pub returns-then-is_constant : goal.returns-then-is_constant
returns-then-is_constant c =
    let places = goal.at.returns-then-is_constant c in
    let r = c.leaf_at-node.result in
    let told = c.leaf_at-node.ensures in
    const_done (node_read {j = expr_number r.kind} {e = r.detail} (read places.After-detail_of) told) refl
    c.empty.ensures

pub returns : goal.returns
returns c =
    stated_done c.requires.is c.requires.room c.requires.short c.optimize-made.ensures c.optimize-made.auto.words
    c.expr_in_place-run.ensures
