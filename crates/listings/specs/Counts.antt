-- The line of counts.
use Rattle.std.specs.Prelude.{ℕ, ◌+◌, List, [], ◌++◌, codes, decimal}
use Rattle.std.specs.List.{flat_map, range_with_len}
use Rattle.patterns.specs.Occurs.{avoiders}

-- a blank, and the number of the permutations of a length that avoid the basis
abbrev pub count_item : List (List ℕ) → ℕ → List ℕ
count_item basis n = codes " " ++ decimal (avoiders basis n)

-- the word `count`, and these numbers for the lengths from 0 to the last
abbrev pub count_line : List (List ℕ) → ℕ → List ℕ
count_line basis last = codes "count" ++ flat_map (count_item basis) (range_with_len 0 (last + 1)) ++ codes "\n"
