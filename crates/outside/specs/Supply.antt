-- A source in memory, with the calls that are to fail.
use Rattle.std.specs.Prelude.{ℕ, List, length, min, Contains}

-- what contracts see of it
pub record MemSourceState : Type 0 where
  -- the bytes still to come
  pub left : List ℕ
  -- how many bytes it gives in one call, at most
  pub most : ℕ
  -- the numbers of the calls that fail, counted from 0
  pub fail : List ℕ
  -- the number of the next call
  pub calls : ℕ
  -- how many calls failed
  pub faults : ℕ

-- the next call fails: its number is one of those
abbrev pub FailsNext : MemSourceState → Type 0
FailsNext source = Contains source.fail source.calls

-- how many bytes the next call gives to a buffer of this length, where it does not fail
abbrev pub gives : MemSourceState → ℕ → ℕ
gives source len = min len (min source.most (length source.left))
