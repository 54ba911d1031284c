-- `blocks::store::put_rule` meets its contract: after its turns all of the block's rule words are laid down, and zeros
-- behind them.
-- Assumes nothing.
use Rattle.std.proofs.Common.{sym, ◌∙◌}
use Rattle.blocks.proofs.Writing.{no_words, rule_next, filled_zeros, rule_done}
use Rattle.blocks.proofs.store.put_rule.Goals as goal

pub loop-i-init : goal.loop-i-init
loop-i-init c = sym (no_words _ 4)

pub loop-i-preserved : goal.loop-i-preserved
loop-i-preserved c =
    let zeros = filled_zeros c.args.bytes.now c.fill.new.self c.requires.size (c.fill.ensures.after (λ y e. e)) in
    c.put_word.ensures
    ∙ rule_next _ c.args.rule.now c.loop-i.i c.loop-i.bytes c.loop-i-test.true c.requires.few zeros.1 c.loop-i.invariant

pub returns : goal.returns
returns c =
    let zeros = filled_zeros c.args.bytes.now c.fill.new.self c.requires.size (c.fill.ensures.after (λ y e. e)) in
    rule_done c.args.bytes.now _ c.args.rule.now c.loop-i.bytes c.loop-i.i c.requires.size c.requires.few
    c.loop-i-test.false zeros.0 c.loop-i.invariant
