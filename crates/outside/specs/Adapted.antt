-- A reader or a writer of std, with its faults counted.
use Rattle.std.specs.Prelude.{ℕ}

pub record Adapted (T : Type 0) : Type 0 where
  pub inner : T
  pub faults : ℕ
