-- Sums of numbers of preimages, list by list.
use Rattle.std.proofs.Common.{◌≡◌, ◌<◌, ◌+◌, ℕ, List, [], ◌∷◌, length, get_or, take, refl, sym, ap, ◌∙◌, arith}
use Rattle.std.specs.Prelude.{sum_by}
use Rattle.std.proofs.lemmas.List.Sums.{sum_by-append, sum_by-cons, sum_by_more_le}
use Rattle.gridded.specs.Grids.{Point}
use Rattle.coord_maps.specs.declared.grid_map.GridMap.{GridMap}
use Rattle.coord_maps.specs.Preimages.{preimages}
use Rattle.rule_kinds.specs.Conditions.{preimages_in, all_of}

-- the sum over all lists is the sum of their sums
sum_of_all : {X : Type 0} (f : X → ℕ) (lists : List (List X)) → sum_by f (all_of lists) ≡ sum_by (λ xs. sum_by f xs) lists
sum_of_all f [] = refl
sum_of_all f (xs ∷ lists) = sum_by-append f xs (all_of lists) ∙ ap (λ n. sum_by f xs + n) (sum_of_all f lists) ∙ sym (sum_by-cons (λ ys. sum_by f ys) xs lists)

-- what is left is less than one list's number, and so the whole is less than all
pub too_few : (m : GridMap) (lists : List (List (List Point))) (i : ℕ) (patterns : List (List Point)) (left most : ℕ) → i < length lists → patterns ≡ get_or lists i patterns
    → left + preimages_in m (all_of (take i lists)) ≡ most → left < preimages_in m patterns → most < preimages_in m (all_of lists)
too_few m lists i patterns left most below is e f =
    let before = sum_of_all (λ g. length (preimages m g)) (take i lists) in
    let whole = sum_of_all (λ g. length (preimages m g)) lists in
    let more = sum_by_more_le (preimages_in m) lists i patterns below in
    let at : preimages_in m patterns ≡ preimages_in m (get_or lists i patterns) = ap (preimages_in m) is in
    omega (arith, before, whole, more, at, e, f)
