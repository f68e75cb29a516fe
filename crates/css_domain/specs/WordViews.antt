-- What contracts see of words that are read one by one.
use Rattle.std.specs.Prelude.{ℕ, List}

-- the words, and how many readings of words there were
pub record ViewState : Type 0 where
  pub words : List ℕ
  pub reads : ℕ
