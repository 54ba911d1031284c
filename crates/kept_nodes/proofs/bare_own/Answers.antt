-- `kept_nodes::bare_own` meets its contract.
-- Assumes nothing.
use mathlib.Core.Path.{ap}
use Rattle.tables.specs.Kinds.{expr_number}
use Rattle.kept_nodes.proofs.Owns.{slice_told}
use Rattle.kept_nodes.proofs.bare_own.Goals as goal

pub returns-in-Slice : goal.returns-in-Slice
returns-in-Slice c =
    slice_told (rw (ap expr_number c.in-Slice.is) at c.requires) c.if-detail-le7.true c.part_count-in-Slice.ensures
    c.is_constant-in-Slice.ensures
