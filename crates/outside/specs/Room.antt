-- A sink in memory, with a room of fixed size and the calls that are to fail.
use Rattle.std.specs.Prelude.{◌≡◌, ℕ, ◌-◌, ◌<◌, ◌⊎◌, List, length, min, Contains}

-- what contracts see of it
pub record MemSinkState : Type 0 where
  -- the bytes that it holds
  pub held : List ℕ
  -- how many bytes it can hold
  pub room : ℕ
  -- how many bytes it takes in one call, at most
  pub most : ℕ
  -- the numbers of the calls that fail, counted from 0
  pub fail : List ℕ
  -- the number of the next call
  pub calls : ℕ
  -- how many calls failed
  pub faults : ℕ

-- how many bytes it can still take
abbrev pub space : MemSinkState → ℕ
space sink = sink.room - length sink.held

-- the next call fails, given a piece of this length: its number is one of those, or there is a byte and no space
abbrev pub Fails : MemSinkState → ℕ → Type 0
Fails sink len = Contains sink.fail sink.calls ⊎ (0 < len × (space sink ≡ 0))

-- how many bytes of a piece of this length the next call takes, where it does not fail
abbrev pub takes : MemSinkState → ℕ → ℕ
takes sink len = min len (min sink.most (space sink))
