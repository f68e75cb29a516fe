-- What a step leaves lies in its grid.
use Rattle.std.proofs.Common.{◌≡◌, ℕ, true, List, [], ◌∷◌, sym, subst}
use Rattle.std.specs.Prelude.{map, not, All}
use Rattle.std.specs.List.{filter, AllByRecursion}
use Rattle.std.proofs.lemmas.List.Elements.{All-from_recursion, All-filter}
use Rattle.lists.specs.Members.IsIn.{here, later}
use Rattle.lists.specs.Members.{IsIn}
use Rattle.lists.proofs.Members.{from_IsIn-map}
use Rattle.gridded.specs.Grids.{Point}
use Rattle.tiling_core.specs.Tiles.{IsInGrid}
use Rattle.gridded.specs.Places.{fits_grid}
use Rattle.tiling_core.specs.Patterns.{is_among, minimal, holds_another}
use Rattle.steps.specs.Steps.{useful, tidied, is_implied}
use Rattle.steps.proofs.ListTests.{at_each}
use Rattle.steps.proofs.Tidied.{remaining, is_possible}

by_recursion : {X : Type 0} (P : X → Type 0) (xs : List X) → ((x : X) → IsIn x xs → P x) → AllByRecursion P xs
by_recursion P [] f = tt
by_recursion P (x ∷ xs) f = (f x here, by_recursion P xs (λ y m. f y (later x m)))

pub all_in : {X : Type 0} (P : X → Type 0) (xs : List X) → ((x : X) → IsIn x xs → P x) → All P xs
all_in P xs f = All-from_recursion P xs (by_recursion P xs f)

pub minimal_in_grid : (w h : ℕ) (patterns : List (List Point)) → IsInGrid w h patterns → IsInGrid w h (minimal patterns)
minimal_in_grid w h patterns k = All-filter (λ g. not (holds_another patterns g)) (λ g. fits_grid w h g ≡ true) patterns k

useful_in_grid : (w h : ℕ) (obstructions patterns : List (List Point)) → IsInGrid w h patterns → IsInGrid w h (useful obstructions patterns)
useful_in_grid w h obstructions patterns k =
    minimal_in_grid w h (filter (is_possible obstructions) patterns) (All-filter (is_possible obstructions) (λ g. fits_grid w h g ≡ true) patterns k)

pub tidied_in_grid : (w h : ℕ) (obstructions : List (List Point)) (lists : List (List (List Point))) → All (λ patterns. IsInGrid w h patterns) lists → All (λ patterns. IsInGrid w h patterns) (tidied obstructions lists)
tidied_in_grid w h obstructions lists k =
    let kept = remaining obstructions lists in
    All-filter (λ others. not (is_implied kept others)) (λ patterns. IsInGrid w h patterns) kept
    (All-filter (λ patterns. not (is_among patterns [])) (λ patterns. IsInGrid w h patterns) (map (useful obstructions) lists)
    (all_in (λ patterns. IsInGrid w h patterns) (map (useful obstructions) lists) (λ a m. each a (from_IsIn-map (useful obstructions) lists m))))
  where
    each : (a : List (List Point)) → (b : List (List Point)) × IsIn b lists × (a ≡ useful obstructions b) → IsInGrid w h a
    each a b =
        let inside = at_each (λ patterns. IsInGrid w h patterns) k b.1 in
        subst (λ (c : List (List Point)). IsInGrid w h c) (sym b.2) (useful_in_grid w h obstructions b.0 inside)
