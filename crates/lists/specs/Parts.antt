-- Parts of a list: what is left of it where some elements are left out.
use Rattle.std.specs.Prelude.{◌≡◌, ◌<◌, ◌≤◌, ℕ, zero, suc, List, [], ◌∷◌, ◌++◌, map, slice_index_or}

-- part is what stands at some rising places of whole
pub data IsPart {X : Type 0} : List X → List X → Type 0 where
  none : IsPart [] []
  kept : {part whole : List X} (x : X) → IsPart part whole → IsPart (x ∷ part) (x ∷ whole)
  left_out : {part whole : List X} (x : X) → IsPart part whole → IsPart part (x ∷ whole)

-- the parts of so many elements
abbrev pub parts : {X : Type 0} → ℕ → List X → List (List X)
parts zero xs = [] ∷ []
parts (suc n) [] = []
parts (suc n) (x ∷ xs) = map (λ part. x ∷ part) (parts n xs) ++ parts (suc n) xs

-- each place is at or past `from`, below `end`, and above the one before
abbrev pub IsRising : ℕ → ℕ → List ℕ → Type 0
IsRising from end [] = Unit {0}
IsRising from end (k ∷ ks) = (from ≤ k) × (k < end) × IsRising (suc k) end ks

-- these elements stand at these places
abbrev pub StandAt : {X : Type 0} → List X → List ℕ → List X → Type 0
StandAt xs [] [] = Unit {0}
StandAt xs (k ∷ ks) (y ∷ ys) = ((d : _) → slice_index_or xs k d ≡ y) × StandAt xs ks ys
StandAt xs _ _ = ⊥
