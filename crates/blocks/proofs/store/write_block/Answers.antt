-- `blocks::store::write_block` meets its contract: word 0, the rule words and the sum, side by side.
-- Assumes nothing.
use Rattle.blocks.proofs.Writing.{block_done}
use Rattle.blocks.proofs.store.write_block.Goals as goal

pub returns : goal.returns
returns c =
    block_done c.args.bytes.now c.args.rule.now c.args.number c.requires.number_bound c.requires.few c.requires.size
    (record { each = λ k. (c.type_inv.rule k).fits }) _ _ _ _ _ c.head_of-head.ensures c.put_word.ensures
    c.put_rule.ensures c.block_sum-sum.ensures c.put_word-2.ensures
