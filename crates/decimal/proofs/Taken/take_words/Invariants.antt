-- `decimal::Taken::take_words` meets its contract. The invariant: what is read of the whole text is what is read of the
-- rest from here (`Reading`). Assumes nothing.
use Rattle.decimal.proofs.Reading.{Reading}
use Rattle.decimal.proofs.Taken.take_words.Given as goal

abbrev pub invariant-loop-byte : goal.invariant-loop-byte
invariant-loop-byte l =
    Reading l.text l.initial.words l.fn.self.mark l.fn.self.count l.words l.taken.mark l.taken.count l.byte-index
