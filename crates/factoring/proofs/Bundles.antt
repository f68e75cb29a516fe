-- The bundles are the obstructions, but for single points, and the lists.
use Rattle.std.proofs.Common.{◌≡◌, Bool, true, false, List, [], ◌∷◌, length, cond, refl, sym, ap, ◌∙◌}
use Rattle.std.specs.Prelude.{◌||◌, ◌&&◌, ◌==◌, not, map}
use Rattle.std.specs.List.{filter, list_all, list_any}
use Rattle.std.proofs.lemmas.List.Folds.{list_all-append, list_any-append}
use Rattle.std.proofs.Math.Bool.{or-false}
use Rattle.gridded.specs.declared.cell.Cell.{Cell}
use Rattle.gridded.specs.Grids.{Point}
use Rattle.gridded.specs.CellSets.{is_among}
use Rattle.gridded.specs.Places.{touches}
use Rattle.tiling_core.specs.Tiles.{Tiles}
use Rattle.rule_kinds.specs.Conditions.{bundles}
use Rattle.factoring.specs.Shares.{is_in_one}
use Rattle.factoring.specs.Tied.{is_tied, is_tied_alone}

abbrev is_longer : List Point → Bool
is_longer g = not (length g == 1)

all_alone : (test : List (List Point) → Bool) (patterns : List (List Point)) → list_all (λ g. length g == 1 || test (g ∷ [])) patterns ≡ list_all test (map (λ g. g ∷ []) (filter is_longer patterns))
all_alone test [] = refl
all_alone test (g ∷ patterns) = go (length g == 1) (all_alone test patterns)
  where
    go : (b : Bool) → list_all (λ h. length h == 1 || test (h ∷ [])) patterns ≡ list_all test (map (λ h. h ∷ []) (filter is_longer patterns))
        → ((b || test (g ∷ [])) && list_all (λ h. length h == 1 || test (h ∷ [])) patterns) ≡ list_all test (map (λ h. h ∷ []) (cond (not b) (g ∷ filter is_longer patterns) (filter is_longer patterns)))
    go true e = e
    go false e = ap (λ b. test (g ∷ []) && b) e

pub bundles_apart : (sets : List (List Cell)) (t : Tiles) → (list_all (λ g. length g == 1 || is_in_one sets (g ∷ [])) t.obstructions && list_all (is_in_one sets) t.requirements) ≡ list_all (is_in_one sets) (bundles t)
bundles_apart sets t =
    ap (λ b. b && list_all (is_in_one sets) t.requirements) (all_alone (is_in_one sets) t.obstructions)
    ∙ sym (list_all-append (is_in_one sets) (map (λ g. g ∷ []) (filter is_longer t.obstructions)) t.requirements)

any_alone : (set : List Cell) (test : Cell → Bool) (patterns : List (List Point)) → list_any (is_tied_alone set test) patterns ≡ list_any (is_tied set test) (map (λ g. g ∷ []) (filter is_longer patterns))
any_alone set test [] = refl
any_alone set test (g ∷ patterns) = go (length g == 1) (any_alone set test patterns)
  where
    go : (b : Bool) → list_any (is_tied_alone set test) patterns ≡ list_any (is_tied set test) (map (λ h. h ∷ []) (filter is_longer patterns))
        → ((not b && (touches (is_among set) g && touches test g)) || list_any (is_tied_alone set test) patterns) ≡ list_any (is_tied set test) (map (λ h. h ∷ []) (cond (not b) (g ∷ filter is_longer patterns) (filter is_longer patterns)))
    go true e = e
    go false e =
        (λ i. (sym (or-false (touches (is_among set) g)) i && sym (or-false (touches test g)) i) || e i)

pub tied_apart : (set : List Cell) (test : Cell → Bool) (t : Tiles) → (list_any (is_tied_alone set test) t.obstructions || list_any (is_tied set test) t.requirements) ≡ list_any (is_tied set test) (bundles t)
tied_apart set test t =
    ap (λ b. b || list_any (is_tied set test) t.requirements) (any_alone set test t.obstructions)
    ∙ sym (list_any-append (is_tied set test) (map (λ g. g ∷ []) (filter is_longer t.obstructions)) t.requirements)

-- where the obstructions pass, the lists tell; where they don't, nothing passes
pub second_tells : (sets : List (List Cell)) (t : Tiles) {obstructions : List (List Point)} {lists : List (List (List Point))} (answer : Bool) → obstructions ≡ t.obstructions → lists ≡ t.requirements
    → list_all (λ g. length g == 1 || is_in_one sets (g ∷ [])) obstructions ≡ true → answer ≡ list_all (is_in_one sets) lists → answer ≡ list_all (is_in_one sets) (bundles t)
second_tells sets t {obstructions = obstructions} answer o l e f =
    f ∙ ap (λ lists. list_all (is_in_one sets) lists) l
    ∙ ap (λ b. b && list_all (is_in_one sets) t.requirements) (sym (sym (ap (λ patterns. list_all (λ g. length g == 1 || is_in_one sets (g ∷ [])) patterns) o) ∙ e))
    ∙ bundles_apart sets t

pub first_tells : (sets : List (List Cell)) (t : Tiles) (obstructions : List (List Point)) → obstructions ≡ t.obstructions → list_all (λ g. length g == 1 || is_in_one sets (g ∷ [])) obstructions ≡ false → false ≡ list_all (is_in_one sets) (bundles t)
first_tells sets t obstructions o e =
    ap (λ b. b && list_all (is_in_one sets) t.requirements) (sym (sym (ap (λ patterns. list_all (λ g. length g == 1 || is_in_one sets (g ∷ [])) patterns) o) ∙ e))
    ∙ bundles_apart sets t

-- what the obstructions and the lists tie
pub all_tied : (set : List Cell) (test : Cell → Bool) (t : Tiles) (none alone tied : List Cell) (obstructions : List (List Point)) (lists : List (List (List Point))) → none ≡ [] → obstructions ≡ t.obstructions → lists ≡ t.requirements
    → list_any test alone ≡ (list_any test none || list_any (is_tied_alone set test) obstructions) → list_any test tied ≡ (list_any test alone || list_any (is_tied set test) lists) → list_any test tied ≡ list_any (is_tied set test) (bundles t)
all_tied set test t none alone tied obstructions lists n o l e f = f ∙ rw (e, n, o, l) refl ∙ tied_apart set test t
