-- `kept_nodes::builtin_own` meets its contract: Minus, Plus and BitNot are the three lowest details.
-- Assumes nothing.
use Prim.Native.Nat.{◌≤◌}
use Rattle.std.proofs.Common.{rules}
use Rattle.kept_nodes.proofs.Owns.{builtin_told}
use Rattle.kept_nodes.proofs.builtin_own.Goals as goal

pub returns-in-Minus : goal.returns-in-Minus
returns-in-Minus c =
    let low : c.args.detail ≤ 2 = search rules in
    builtin_told c.requires low c.is_constant-in-Minus.ensures
