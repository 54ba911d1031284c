-- The rule words of a block.
use Rattle.std.specs.Prelude.{List, ◌++◌, ℕ, ◌-◌, length, take, replicate}

-- the 126 rule words of a block: the first of ws, then zeros
abbrev pub padded : List ℕ → List ℕ
padded ws = take 126 ws ++ replicate (126 - length (take 126 ws)) 0
