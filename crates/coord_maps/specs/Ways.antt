-- In how many ways the points of a line go into its parts.
use Rattle.std.specs.Prelude.{ℕ, zero, suc, ◌+◌}

-- from the numbers of ways with one point fewer, by parts, the number for so many parts
abbrev pub ways_with_one_more : (ℕ → ℕ) → ℕ → ℕ
ways_with_one_more before zero = 0
ways_with_one_more before (suc parts) = ways_with_one_more before parts + before (suc parts)

-- how many lists of so many of the parts never fall: a binomial coefficient, by its law of addition
abbrev pub ways : ℕ → ℕ → ℕ
ways zero parts = 1
ways (suc points) parts = ways_with_one_more (ways points) parts
