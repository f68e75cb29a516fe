-- Laws of the definitions, as facts that clauses can name.
use Rattle.std.specs.Prelude.{◌≡◌, ◌↔◌, ℕ, List, length, map}
use Rattle.lists.specs.Parts.{IsPart, IsRising, StandAt}
use Rattle.lists.specs.Products.{choices, product_count}

-- the rising places of whole at which part stands
pub record Places (part whole : List ℕ) : Type 0 where
  pub places : List ℕ
  pub rising : IsRising 0 (length whole) places
  pub there : StandAt whole places part

abbrev pub PartsStandAtRisingPlaces : Type 0
PartsStandAtRisingPlaces = (part whole : List ℕ) → IsPart part whole ↔ Places part whole

abbrev pub ChoicesAreCounted : Type 0
ChoicesAreCounted = (collections : List (ℕ → List ℕ)) (n : ℕ) → length (choices collections n) ≡ product_count (map (λ c. λ k. length (c k)) collections) n
