-- `outer::optimize_top` meets its contract.
-- Assumes nothing.
use Rattle.outer.proofs.Tops.{keep_ask, keep_few, kept_done, stmt_ask, pass_few, pass_done}
use Rattle.outer.proofs.optimize_top.Goals as goal

pub keep-more-requires : goal.keep-more-requires
keep-more-requires c = keep_ask c.requires c.in-Some.ensures c.if-end-n.true

pub extend-joined-requires : goal.extend-joined-requires
extend-joined-requires c = keep_few c.requires c.keep-more.ensures

pub returns-then-end-n : goal.returns-then-end-n
returns-then-end-n c =
    kept_done c.requires c.in-Some.ensures c.if-end-n.true c.keep-more.ensures c.extend-joined.ensures

pub optimize_stmt-made-requires : goal.optimize_stmt-made-requires
optimize_stmt-made-requires c = stmt_ask c.requires c.in_ok-next.ensures c.if-next-n.false

pub extend-joined-requires-2 : goal.extend-joined-requires-2
extend-joined-requires-2 c = pass_few c.requires c.in_ok-next.ensures c.if-next-n.false c.optimize_stmt-made.ensures

pub returns : goal.returns
returns c =
    pass_done c.requires c.in_ok-next.ensures c.if-next-n.false c.optimize_stmt-made.ensures c.extend-joined-2.ensures
