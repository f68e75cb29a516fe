-- Patterns that ascend make a tiling as they stand.
use Rattle.std.proofs.Common.{◌≡◌, ℕ, List}
use Rattle.std.specs.List.Sorted.{IsStrictlySortedBy}
use Rattle.gridded.specs.Grids.{Point}
use Rattle.gridded.specs.Orders.{gridded_cmp}
use Rattle.tiling_core.specs.Tiles.{tiling_of}
use Rattle.steps.proofs.ListTests.{at_each}
use Rattle.steps.proofs.Shrinks.{ascending_list, ordered_lists}
use Rattle.spec_reader.specs.Drafts.{AreParts}

pub parts_stay : (w h : ℕ) (os : List (List Point)) (rs : List (List (List Point))) → AreParts w h os rs → tiling_of w h os rs ≡ record { width = w; height = h; obstructions = os; requirements = rs }
parts_stay w h os rs k =
    let o = ascending_list os k.obstructions_ascend in
    let r = ordered_lists rs (λ a m. at_each (λ ps. IsStrictlySortedBy gridded_cmp ps) k.each_ascends m) k.requirements_ascend in
    λ i. record { width = w; height = h; obstructions = o i; requirements = r i }
