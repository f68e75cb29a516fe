-- Occurrences of a pattern. A point has a letter, and `same` says which points may stand for one of the pattern, as those in its cell.
use Rattle.std.specs.Prelude.{◌≡◌, ◌↔◌, ◌<◌, ℕ, Bool, true, false, not, ◌&&◌, ◌==◌, nat_lt, List, [], ◌∷◌, length, slice_index, map, filter}
use Rattle.std.specs.Bool.{beq}
use Rattle.std.specs.List.{list_all, list_any, zip, AllZip}
use Rattle.patterns.specs.Words.{all_perms}
use Rattle.lists.specs.Parts.{IsPart, parts}

-- numbers that stand in the same relative order
pub record IsSameOrder (xs ys : List ℕ) : Type 0 where
  pub as_many : length xs ≡ length ys
  pub alike : (i j : ℕ) → i < length ys → j < length ys → (slice_index xs i < slice_index xs j) ↔ (slice_index ys i < slice_index ys j)

-- some points of w, from left to right, stand in the same relative order as those of p, and each may stand for its point of p
pub record Occurs {X : Type 0} (letter : X → ℕ) (same : X → X → Bool) (w p : List X) : Type 0 where
  pub points : List X
  pub chosen : IsPart points w
  pub order : IsSameOrder (map letter points) (map letter p)
  pub fit : AllZip (λ x a. same x a ≡ true) points p

-- whether x stands to y as a does to b
abbrev pub stand_alike : ℕ → ℕ → ℕ → ℕ → Bool
stand_alike x a y b = beq (nat_lt x y) (nat_lt a b) && beq (nat_lt y x) (nat_lt b a)

module _ {X : Type 0} (letter : X → ℕ) (same : X → X → Bool) where
  -- whether x stands to the points of one list as a does to those of the other
  abbrev pub stands_as : X → X → List X → List X → Bool
  stands_as x a [] [] = true
  stands_as x a (y ∷ ys) (b ∷ bs) = stand_alike (letter x) (letter a) (letter y) (letter b) && stands_as x a ys bs
  stands_as x a _ _ = false

  -- whether these points can be an occurrence
  abbrev pub is_match : List X → List X → Bool
  is_match [] [] = true
  is_match (x ∷ xs) (a ∷ as') = same x a && (stands_as x a xs as' && is_match xs as')
  is_match _ _ = false

  -- whether w has an occurrence of p
  unfoldable pub occurs : List X → List X → Bool
  occurs w p = list_any (λ points. is_match points p) (parts (length p) w)

-- containment of permutations
abbrev pub contains : List ℕ → List ℕ → Bool
contains w p = occurs (λ x. x) (λ _ _. true) w p

abbrev pub Contains : List ℕ → List ℕ → Type 0
Contains w p = Occurs (λ x. x) (λ _ _. true) w p

-- containment with cells, which are numbers: the chosen letters stand in the pattern's cells
abbrev pub contains_in_cells : List ℕ → List ℕ → List ℕ → List ℕ → Bool
contains_in_cells w w_cells p p_cells = occurs (λ (x : ℕ × ℕ). x.0) (λ x a. x.1 == a.1) (zip w w_cells) (zip p p_cells)

abbrev pub ContainsInCells : List ℕ → List ℕ → List ℕ → List ℕ → Type 0
ContainsInCells w w_cells p p_cells = Occurs (λ (x : ℕ × ℕ). x.0) (λ x a. x.1 == a.1) (zip w w_cells) (zip p p_cells)

-- whether w contains no word of the basis
abbrev pub avoids : List (List ℕ) → List ℕ → Bool
avoids basis w = list_all (λ p. not (contains w p)) basis

-- how many permutations of length n contain no word of the basis
abbrev pub avoiders : List (List ℕ) → ℕ → ℕ
avoiders basis n = length (filter (λ w. avoids basis w) (all_perms n))
