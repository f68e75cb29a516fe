-- Lists of patterns in a grid: none, one and two patterns, and put together.
use Rattle.std.proofs.Common.{◌≡◌, true, ℕ, List, [], ◌∷◌, ◌++◌, refl, sym, ◌∙◌}
use Rattle.std.specs.Prelude.{All, Bool, ◌↔◌}
use Rattle.std.proofs.lemmas.List.Elements.{All-append, All-from_recursion}
use Rattle.gridded.specs.Grids.{Point}
use Rattle.gridded.specs.Places.{fits_grid}
use Rattle.gridded.specs.Small.{point_at, rising, falling}
use Rattle.tiling_core.specs.Tiles.{IsInGrid}
use Rattle.tiling_core.specs.Patterns.{is_among}
use Rattle.tiling_core.specs.Roots.{only_cell}
use Rattle.tiling_core.proofs.GridCells.{among_decides}
use Rattle.lists.specs.Members.{IsIn}

pub IsInGrid-append : (w h : ℕ) (xs ys : List (List Point)) → IsInGrid w h xs → IsInGrid w h ys → IsInGrid w h (xs ++ ys)
IsInGrid-append w h xs ys a b = All-append (λ g. fits_grid w h g ≡ true) xs ys a b

pub lists_in-append : (w h : ℕ) (xs ys : List (List (List Point))) → All (λ patterns. IsInGrid w h patterns) xs → All (λ patterns. IsInGrid w h patterns) ys → All (λ patterns. IsInGrid w h patterns) (xs ++ ys)
lists_in-append w h xs ys a b = All-append (λ patterns. IsInGrid w h patterns) xs ys a b

pub ruleset joined = (IsInGrid-append, lists_in-append)

pub IsInGrid-single : (w h : ℕ) (g : List Point) → fits_grid w h g ≡ true → IsInGrid w h (g ∷ [])
IsInGrid-single w h g e = All-from_recursion (λ p. fits_grid w h p ≡ true) (g ∷ []) (e, tt)

pub lists_in-single : (w h : ℕ) (g : List Point) → fits_grid w h g ≡ true → All (λ patterns. IsInGrid w h patterns) ((g ∷ []) ∷ [])
lists_in-single w h g e = All-from_recursion (λ patterns. IsInGrid w h patterns) ((g ∷ []) ∷ []) (IsInGrid-single w h g e, tt)

pub IsInGrid-none : (w h : ℕ) → IsInGrid w h []
IsInGrid-none w h = All-from_recursion (λ g. fits_grid w h g ≡ true) [] tt

pub lists_in-none : (w h : ℕ) → All (λ patterns. IsInGrid w h patterns) []
lists_in-none w h = All-from_recursion (λ patterns. IsInGrid w h patterns) [] tt

-- the empty pattern lies in every grid
pub IsInGrid-empty : (w h : ℕ) → IsInGrid w h ([] ∷ [])
IsInGrid-empty w h = IsInGrid-single w h [] refl

-- the patterns of the point tiling
pub IsInGrid-pair : IsInGrid 1 1 (rising only_cell only_cell ∷ falling only_cell only_cell ∷ [])
IsInGrid-pair = All-from_recursion (λ p. fits_grid 1 1 p ≡ true) (rising only_cell only_cell ∷ falling only_cell only_cell ∷ []) (refl, (refl, tt))

pub lists_in-point : All (λ patterns. IsInGrid 1 1 patterns) ((point_at only_cell ∷ []) ∷ [])
lists_in-point = lists_in-single 1 1 (point_at only_cell) refl

pub ruleset single = (IsInGrid-single, lists_in-single, IsInGrid-none, lists_in-none, IsInGrid-empty, IsInGrid-pair, lists_in-point)

-- an answer that is the test says which pattern is listed
pub listed_answer : (answer : Bool) (patterns : List (List Point)) (g : List Point) → answer ≡ is_among patterns g → (answer ≡ true) ↔ IsIn g patterns
listed_answer answer patterns g e = let d = among_decides patterns g in ((λ t. d.0 (sym e ∙ t)), (λ h. e ∙ d.1 h))
