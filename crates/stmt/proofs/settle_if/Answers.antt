-- `stmt::settle_if` meets its contract.
-- Assumes nothing.
use Rattle.stmt.proofs.Stays.{stay_test, stay_done}
use Rattle.stmt.proofs.settle_if.Goals as goal

pub test_at-requires : goal.test_at-requires
test_at-requires c = stay_test c.in-Expr.ensures c.requires c.new.auto.words

pub returns-in-Stays : goal.returns-in-Stays
returns-in-Stays c = stay_done c.in-Expr.ensures c.in-Stays.ensures
