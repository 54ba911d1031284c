-- `reader::read_own` meets its contract: the payload follows a header that is right.
-- Assumes nothing.
use Rattle.std.proofs.Common.{rules, ◌≡◌, ap, sym, ◌∙◌, get_or}
use Rattle.spec.specs.Grammar.{kind_in, part_count}
use Rattle.tables.specs.Kinds.{node_number}
use Rattle.reader.proofs.Owned.{is_same, node_stops, node_owns}
use Rattle.reader.proofs.read_own.Goals as goal

pub returns-in_err-first : goal.returns-in_err-first
returns-in_err-first c =
    let (inside, word) = (rw c.in_ok-h.ensures.ok_part at c.get.ensures.lookup).3 in
    let number : node_number c.in_ok-kind.kind ≡ kind_in (get_or c.args.words.now c.args.at 0) = search rules in
    let node = sym (is_same c.args.sort) ∙ sym c.if-eq.ensures in
    let right = sym c.head_right.ensures ∙ c.if-not-head_right.false in
    let told = node_stops c.args.levels c.args.words.now c.args.sort c.args.at c.in_ok-kind.kind inside
    c.if-levels-eq0.false node number (rw (word 0) at c.detail_of-d.ensures) right (sym c.in_err-first.ensures) in
    search (rules, told)

pub returns : goal.returns
returns c =
    let (inside, word) = (rw c.in_ok-h.ensures.ok_part at c.get.ensures.lookup).3 in
    let k = node_number c.in_ok-kind.kind in
    let number : k ≡ kind_in (get_or c.args.words.now c.args.at 0) = search rules in
    let node = sym (is_same c.args.sort) ∙ sym c.if-eq.ensures in
    let right = sym c.head_right.ensures ∙ c.if-not-head_right.false in
    node_owns c.args.levels c.args.words.now c.args.sort c.args.at c.in_ok-kind.kind inside c.if-levels-eq0.false node
    number (rw (word 0) at c.detail_of-d.ensures) right (sym c.in_ok-first.ensures)
    (c.part_count-count.ensures ∙ ap (part_count k c.detail_of-d.result) c.word_or_zero-w.ensures)
