-- `block_words::block_sum` meets its contract.
-- Assumes nothing.
use Rattle.std.proofs.Common.{ℕ, ap, ◌∙◌, arith, List, slice_index_or, take, length-take, w32}
use Rattle.std.specs.Int.{from_le_bytes}
use Rattle.block_words.proofs.Chunks.{front_read}
use Rattle.block_words.proofs.Sums.{sum_more}
use Rattle.block_words.proofs.block_sum.Goals as goal

pub loop-word-preserved : goal.loop-word-preserved
loop-word-preserved c =
    let i = c.loop-word.word-index in
    let long = length-take 127 c.as_chunks.result.0.now in
    sum_more c.args.block.now i c.loop-word.sum c.from_le_bytes-sum.result c.requires
    (omega (arith, long, c.loop-word-test.true)) c.loop-word.invariant
    (c.from_le_bytes-sum.ensures
    ∙ ap (λ (cs : List (List ℕ)). from_le_bytes w32 (slice_index_or (take 127 cs) i _)) c.as_chunks.ensures.front
    ∙ front_read c.args.block.now 127 i _ c.requires (omega (arith, long, c.loop-word-test.true)))
