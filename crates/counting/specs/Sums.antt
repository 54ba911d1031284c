-- Counts of longer expressions from those of shorter ones: what the internal functions promise. The sentences are
-- document 01's, 'Verdicts on one expression'.
use Rattle.std.specs.Prelude.{List, ◌≡◌, ℕ, ◌+◌, ◌*◌, ◌<◌, length, slice_index_or}
use Rattle.spec.specs.Tree.{Logic, and, or}
use Rattle.counting.specs.declared.entry.TruthCounts.{TruthCounts}
use Rattle.counting.specs.Formulas.{formulas}
use Rattle.counting.specs.Counts.{counts}

abbrev pub none : TruthCounts
none = record { yes = 0; no = 0; unknown = 0 }

-- those of the three leaves
abbrev pub ones : TruthCounts
ones = record { yes = 1; no = 1; unknown = 1 }

-- with any truth
abbrev pub all : TruthCounts → ℕ
all c = c.yes + c.no + c.unknown

-- of two lists together
abbrev pub plus : TruthCounts → TruthCounts → TruthCounts
plus c d = record { yes = c.yes + d.yes; no = c.no + d.no; unknown = c.unknown + d.unknown }

-- "Not turns it round"
abbrev pub opposites : TruthCounts → TruthCounts
opposites c = record { yes = c.no; no = c.yes; unknown = c.unknown }

-- of each on the left with each on the right: "an unknown left is unknown; a left that decides gives itself; else the
-- right's answer"
abbrev pub joined_counts : Logic → TruthCounts → TruthCounts → TruthCounts
joined_counts and c d = record {
  yes = c.yes * d.yes;
  no = c.no * all d + c.yes * d.no;
  unknown = c.unknown * all d + c.yes * d.unknown;
}
joined_counts or c d = record {
  yes = c.yes * all d + c.no * d.yes;
  no = c.no * d.no;
  unknown = c.unknown * all d + c.no * d.unknown;
}

-- of And and of Or
abbrev pub both : TruthCounts → TruthCounts → TruthCounts
both c d = plus (joined_counts and c d) (joined_counts or c d)

-- each of the counts is that for its number of nodes, from none on
pub record Filled (fewer : List TruthCounts) : Type 0 where
  pub each : (n : ℕ) → n < length fewer → slice_index_or fewer n none ≡ counts (formulas n)
