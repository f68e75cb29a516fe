-- The first place of a list where something fails.
use Rattle.std.specs.Prelude.{ℕ, ◌<◌}

-- k is the first of the n places where Good doesn't hold
pub record IsFirstPlace (n : ℕ) (Good : ℕ → Type 0) (k : ℕ) : Type 0 where
  pub within : k < n
  pub bad : Good k → ⊥
  pub first : (j : ℕ) → j < k → Good j
