-- What a proof that computes a run, a pass, the table of cases or the pruning of words opens: each of these four is
-- there for its `unfolding` line, which opens all that it names.
-- Assumes nothing.
use Rattle.spec.specs.Reading.{read_pay, read_parts, read_list, read_body, read_node}
use Rattle.spec.specs.Meaning.{expr_of, target_of, stmt_of}
use Rattle.spec.specs.Verdict.{pure, pures, pure_one, truth_of}
use Rattle.spec.specs.Value.{shape, shapes, value_truth, value_type, value_empty, is_type_value}
use Rattle.spec.specs.Value.{rounds_of, as_bool, answer_to}
use Rattle.spec.specs.Running.{next, give, bind, answered, started, make, decides}
use Rattle.spec.specs.Running.{then, again, loop, perform, test}
use Rattle.spec.specs.Running.{make_dict, call_with, run, runs, run_target, run_targets, start_loop, assigned, round}
use Rattle.spec.specs.Running.{run_stmt, run_stmts, end_of, closed, run_rule}
use Rattle.spec.specs.Pass.{not_expr, seq_expr, type_is_expr, logical_by, logical_bin_op, typ, call_expr}
use Rattle.spec.specs.Pass.{decided, not_condition, logic_condition, new_bool}
use Rattle.spec.specs.Pass.{nodes_of, nodes_in, if_left, if_step, if_bounded, if_expr}
use Rattle.spec.specs.Pass.{optimize_expr, optimize_exprs, optimize_target, optimize_targets}
use Rattle.spec.specs.PassStmts.{one, is_empty, is_exit, is_terminal, join_stmts, extend}
use Rattle.spec.specs.PassStmts.{part_stmts, logic_stmts, call_stmts, expr_step, expr_bounded, expr_stmts}
use Rattle.spec.specs.PassStmts.{if_stays, if_stmt_left, if_stmt_step, if_stmt_bounded, if_stmts, for_stmts}
use Rattle.spec.specs.PassStmts.{optimize_stmt, optimize_behind, optimize}
use Rattle.spec.specs.NothingDead.{nothing_dead, alive}
use Rattle.spec.specs.Foldable.{foldable, foldables, foldable_target, foldable_targets}
use Rattle.spec.specs.Foldable.{foldable_stmt, foldable_behind, foldable_count}
use Rattle.spec.specs.Inlining.{forbidden, forbiddens, locals_of, locals_in, safe}
use Rattle.spec.specs.Inlining.{in_order, in_orders, up_to_forbidden, visits, safety, inline_body}

unfoldable pub computing_runs : Unit {0}
unfolding shape shapes value_truth value_type value_empty is_type_value rounds_of as_bool answer_to next give bind
    answered started make decides then again loop perform test make_dict call_with run runs run_target run_targets
    start_loop assigned round run_stmt run_stmts end_of closed run_rule
computing_runs = tt

unfoldable pub computing_passes : Unit {0}
unfolding pure pures pure_one truth_of decides not_expr seq_expr type_is_expr logical_by logical_bin_op typ
    call_expr decided not_condition logic_condition new_bool nodes_of nodes_in if_left if_step if_bounded if_expr
    optimize_expr optimize_exprs optimize_target optimize_targets one is_empty is_exit is_terminal join_stmts
    extend part_stmts logic_stmts call_stmts expr_step expr_bounded expr_stmts if_stays if_stmt_left if_stmt_step
    if_stmt_bounded if_stmts for_stmts optimize_stmt optimize_behind optimize
computing_passes = tt

unfoldable pub computing_cases : Unit {0}
unfolding computing_passes nothing_dead alive foldable foldables foldable_target foldable_targets foldable_stmt
    foldable_behind foldable_count forbidden forbiddens locals_of locals_in safe in_order in_orders up_to_forbidden
    visits safety inline_body
computing_cases = tt

unfoldable pub computing_words : Unit {0}
unfolding computing_cases read_pay read_parts read_list read_body read_node expr_of target_of stmt_of
computing_words = tt
