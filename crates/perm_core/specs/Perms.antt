-- What a word needs to be a permutation, and the array that holds it.
use Rattle.std.proofs.Common.{arith}
use Rattle.std.proofs.lemmas.List.{length-take-le}
use Rattle.std.specs.Prelude.{◌≡◌, ◌≤◌, ◌++◌, [], ◌∷◌, take, drop, ◌<◌, ◌≢◌, ℕ, List, length, slice_index, EachIndex}
use Rattle.perm_core.specs.Places.{IsFirstPlace}

-- the item at a place equals no earlier one
abbrev pub IsNewAt : List ℕ → ℕ → Type 0
IsNewAt letters k = (j : ℕ) → j < k → slice_index letters j ≢ slice_index letters k

-- the letter at a place is below the length and equals no earlier one
pub record IsGoodPlace (letters : List ℕ) (k : ℕ) : Type 0 where
  pub below : slice_index letters k < length letters
  pub new : IsNewAt letters k

-- each of 0 to n - 1 once
abbrev pub IsPerm : List ℕ → Type 0
IsPerm letters = EachIndex letters (λ k. IsGoodPlace letters k)

-- the first place whose letter isn't below the length or equals an earlier one
abbrev pub IsFirstBadPlace : List ℕ → ℕ → Type 0
IsFirstBadPlace letters k = IsFirstPlace (length letters) (λ j. IsGoodPlace letters j) k

-- no item stands twice
abbrev pub IsDistinct : List ℕ → Type 0
IsDistinct items = EachIndex items (λ k. IsNewAt items k)

-- the first place whose item equals an earlier one
abbrev pub IsFirstRepeat : List ℕ → ℕ → Type 0
IsFirstRepeat items k = IsFirstPlace (length items) (λ j. IsNewAt items j) k

-- nine places, of which those past the end are 0
abbrev pub nine : List ℕ → List ℕ
nine letters = letters ++ drop (length letters) (0 ∷ 0 ∷ 0 ∷ 0 ∷ 0 ∷ 0 ∷ 0 ∷ 0 ∷ 0 ∷ [])

-- an array whose first len places hold a permutation
pub record IsInlinePerm (len : ℕ) (letters : List ℕ) : Type 0 where
  pub few : len ≤ 9
  pub places : length letters ≡ 9
  pub perm : IsPerm (take len letters)
  pub blank : letters ≡ nine (take len letters)

pub len_of_inline : (len : ℕ) (letters : List ℕ) → IsInlinePerm len letters → length (take len letters) ≡ len
len_of_inline len letters h = length-take-le len letters (omega (arith, h.few, h.places))
