-- Elements laid into a list.
use Rattle.std.specs.Prelude.{ℕ, ◌+◌, List, ◌++◌, length, take, drop}

-- l with the elements of xs in the place of those from `at` on
abbrev pub placed : List ℕ → ℕ → List ℕ → List ℕ
placed l at xs = take at l ++ (xs ++ drop (at + length xs) l)
