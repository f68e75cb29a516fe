-- Maps that cut a line into parts. They send each new line to the old line that it is a part of.
use Rattle.std.specs.Prelude.{◌≡◌, ◌<◌, ◌≤◌, ◌⊎◌, ℕ, ◌+◌, ◌-◌, nat_lt, nat_eq, if◌then◌else◌}

-- of so many lines, the one at a place is cut into parts
pub record Cut : Type 0 where
  pub lines : ℕ
  pub at : ℕ
  pub parts : ℕ

-- how many lines there are after the cut
abbrev pub new_lines : Cut → ℕ
new_lines m = m.lines + m.parts - 1

-- what the type keeps
pub record IsCut (m : Cut) : Type 0 where
  pub some_parts : 1 ≤ m.parts
  pub inside : (m.at < m.lines) ⊎ (m.parts ≡ 1)
  pub few : new_lines m ≤ 8

-- the old line of a new one
abbrev pub old_line : Cut → ℕ → ℕ
old_line m new = if nat_lt new m.at then new else if nat_lt new (m.at + m.parts) then m.at else new - (m.parts - 1)

-- the first of the new lines that go to an old one
abbrev pub first_line : Cut → ℕ → ℕ
first_line m old = if nat_lt m.at old then old + m.parts - 1 else old

-- how many new lines go to an old one
abbrev pub parts_of : Cut → ℕ → ℕ
parts_of m old = if nat_eq old m.at then m.parts else 1

-- the line at a place cut into three
abbrev pub in_three : ℕ → ℕ → Cut
in_three lines at = record { lines = lines; at = at; parts = 3 }

-- the new line of a point of line i where line `at` is cut into three at another of its points: that point gets the
-- middle part, and the points of a lower rank than it the first
abbrev pub part_at : ℕ → ℕ → ℕ → ℕ → ℕ
part_at at rank middle_rank i =
    if nat_lt i at then i else if nat_lt at i then i + 2
    else if nat_lt rank middle_rank then i else if nat_lt middle_rank rank then i + 2 else i + 1
