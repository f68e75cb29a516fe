-- What follows where a kind applies.
use Rattle.std.proofs.Common.{◌≡◌, true, List, [], ◌∷◌}
use Rattle.std.specs.Prelude.{◌&&◌, not, nat_le}
use Rattle.std.specs.List.{list_all, AllByRecursion}
use Rattle.std.proofs.lemmas.List.Elements.{All-from_recursion}
use Rattle.std.proofs.lemmas.Bool.{and_parts}
use Rattle.gridded.specs.Grids.{Point}
use Rattle.tiling_core.specs.Measures.{weight}
use Rattle.tiling_core.specs.Tiles.{Tiles, IsInGrid}
use Rattle.gridded.specs.Places.{fits_grid}
use Rattle.rule_kinds.specs.Conditions.{ascends}
use Rattle.emptiness.specs.Inferable.{is_inferable}
use Rattle.rule_kinds.specs.Lines.{in_grid}
use Rattle.lists.specs.Members.{is_nil}

pub inserted_in_grid : (t : Tiles) (r : List Point) → (not (is_nil r) && in_grid t r) ≡ true → in_grid t r ≡ true
inserted_in_grid t r e = (and_parts (not (is_nil r)) (in_grid t r) e).1

inferable_in_grid : (t : Tiles) (g : List Point) → is_inferable t g ≡ true → in_grid t g ≡ true
inferable_in_grid t g e = (and_parts _ _ (and_parts _ _ (and_parts _ _ (and_parts _ _ e).0).0).0).1

each_in_grid : (t : Tiles) (patterns : List (List Point)) → list_all (is_inferable t) patterns ≡ true → AllByRecursion (λ g. fits_grid t.width t.height g ≡ true) patterns
each_in_grid t [] e = tt
each_in_grid t (g ∷ patterns) e = let h = and_parts (is_inferable t g) (list_all (is_inferable t) patterns) e in (inferable_in_grid t g h.0, each_in_grid t patterns h.1)

pub inferred_in_grid : (t : Tiles) (patterns : List (List Point)) → (not (is_nil patterns) && ascends patterns && nat_le (weight t) 4 && list_all (is_inferable t) patterns) ≡ true → IsInGrid t.width t.height patterns
inferred_in_grid t patterns e =
    All-from_recursion (λ g. fits_grid t.width t.height g ≡ true) patterns (each_in_grid t patterns (and_parts (not (is_nil patterns) && ascends patterns && nat_le (weight t) 4) (list_all (is_inferable t) patterns) e).1)

pub ruleset applying = (inserted_in_grid, inferred_in_grid)
