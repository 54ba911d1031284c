-- `decimal::Taken::take_words` meets its contract: a byte more is read (`Reading`). Assumes nothing.
use native.Mathlib.Omega.{arith}
use Rattle.decimal.proofs.Reading.{reading_more}
use Rattle.decimal.proofs.Taken.take_words.Goals as goal

pub loop-byte-preserved : goal.loop-byte-preserved
loop-byte-preserved c =
    reading_more _ _ _ _
    c.loop-byte.invariant
    c.loop-byte-test.true
    (omega arith)
    c.put_ended.ensures
    c.put_ended.auto.words
    c.next_mark-taken.ensures
