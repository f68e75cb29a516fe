-- Counts of faults: when one rose.
use Rattle.std.specs.Prelude.{◌≡◌, ℕ, ◌+◌, ◌<◌, ◌⊎◌, min}

-- the last value of a counter
abbrev pub last_count : ℕ
last_count = 18446744073709551615

-- the value of a counter after one more event: one more, or the last value, where it stays
abbrev pub next_count : ℕ → ℕ
next_count count = min (count + 1) last_count

-- the count is greater than before, or it stands at the last value of a counter
abbrev pub Rose : ℕ → ℕ → Type 0
Rose before now = (before < now) ⊎ (now ≡ last_count)
