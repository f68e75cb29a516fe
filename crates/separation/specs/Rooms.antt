-- Room for a number of things.
use Rattle.std.specs.Prelude.{ℕ, ◌-◌, nat_le, Option, Some, None, if◌then◌else◌}

-- how much of the room n things leave, where they have enough
abbrev pub room_left : ℕ → ℕ → Option ℕ
room_left room n = if nat_le n room then Some (room - n) else None
