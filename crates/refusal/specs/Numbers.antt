-- The papers' number and place for each case of the enum: those of document 01's list 'Turned back' in its order, then
-- document 02's, 2.13: "19, n outside 1 to 20 (n)".
use Rattle.std.specs.Prelude.{ℕ}
use Rattle.refusal.specs.declared.Refusal.{Refusal}
use Rattle.refusal.specs.declared.Refusal.TheVariants as refusal

abbrev pub number_of : Refusal → ℕ
number_of (refusal.FileLength place) = 1
number_of (refusal.BlockHead place) = 2
number_of (refusal.BlockSum place) = 3
number_of (refusal.UnusedWord place) = 4
number_of (refusal.WordCount place) = 5
number_of (refusal.ShortWork place) = 6
number_of (refusal.TooDeep place) = 7
number_of (refusal.EndsEarly place) = 8
number_of (refusal.WrongWord place) = 9
number_of (refusal.WordsRemain place) = 10
number_of (refusal.ShortResult place) = 11
number_of (refusal.NodeCount place) = 19

abbrev pub place_of : Refusal → ℕ
place_of (refusal.FileLength place) = place
place_of (refusal.BlockHead place) = place
place_of (refusal.BlockSum place) = place
place_of (refusal.UnusedWord place) = place
place_of (refusal.WordCount place) = place
place_of (refusal.ShortWork place) = place
place_of (refusal.TooDeep place) = place
place_of (refusal.EndsEarly place) = place
place_of (refusal.WrongWord place) = place
place_of (refusal.WordsRemain place) = place
place_of (refusal.ShortResult place) = place
place_of (refusal.NodeCount place) = place
