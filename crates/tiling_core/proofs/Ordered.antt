-- Membership doesn't see in which order patterns stand, nor how often.
use Rattle.std.proofs.Common.{◌≡◌, ◌+◌, ℕ, Bool, true, false, List, [], ◌∷◌, ◌++◌, refl, sym, ap, ◌∙◌}
use Rattle.std.specs.Prelude.{◌&&◌, not, map}
use Rattle.std.specs.List.{list_all, list_any}
use Rattle.std.specs.Cmp.Lexicographic.{slice_cmp, lists_total}
use Rattle.std.proofs.lemmas.List.Elements.{filter_agree}
use Rattle.std.proofs.lemmas.List.Folds.{list_all-map, list_all-append}
use Rattle.std.proofs.Math.Bool.{and-true, and-false}
use Rattle.gridded.specs.Grids.{Point, holds, gridded_of}
use Rattle.gridded.specs.Orders.{gridded_cmp}
use Rattle.gridded.specs.OrderLaws.{gridded_total, gridded_exact}
use Rattle.sequences.specs.Ascending.{in_order}
use Rattle.sequences.proofs.InOrder.{list_all-in_order, list_any-in_order}
use Rattle.tiling_core.specs.Tiles.{Tiles, tiling_of, is_member}
use Rattle.gridded.specs.Places.{fits_grid}
use Rattle.tiling_core.specs.Patterns.{also}
use Rattle.tiling_core.specs.Counts.{InsertionAddsUp}
use Rattle.tiling_core.proofs.Kept.{lists_exact}
use Rattle.lists.proofs.Tests.{none-not_any, list_all-agree}
use Rattle.lists.proofs.Filters.{filter_split}

not_twice : (b : Bool) → not (not b) ≡ b
not_twice true = refl
not_twice false = refl

-- ---- membership
abbrev pub holds_one : List Point → List (List Point) → Bool
holds_one g patterns = list_any (λ p. holds g p) patterns

abbrev pub holds_none : List Point → List (List Point) → Bool
holds_none g patterns = list_all (λ p. not (holds g p)) patterns

abbrev pub holds_each : List Point → List (List (List Point)) → Bool
holds_each g lists = list_all (λ patterns. list_any (λ p. holds g p) patterns) lists

none-in_order : (g : List Point) (patterns : List (List Point)) → holds_none g (in_order gridded_cmp patterns) ≡ holds_none g patterns
none-in_order g patterns = list_all-in_order gridded_cmp gridded_total gridded_exact (λ p. not (holds g p)) patterns

each-in_order : (g : List Point) (lists : List (List (List Point))) → holds_each g (in_order (slice_cmp gridded_cmp) (map (λ patterns. in_order gridded_cmp patterns) lists)) ≡ holds_each g lists
each-in_order g lists =
    list_all-in_order (slice_cmp gridded_cmp) (lists_total gridded_total) lists_exact (holds_one g) (map (λ patterns. in_order gridded_cmp patterns) lists)
    ∙ list_all-map (holds_one g) (λ patterns. in_order gridded_cmp patterns) lists
    ∙ list_all-agree (λ patterns. holds_one g (in_order gridded_cmp patterns)) (holds_one g) lists (λ patterns _. list_any-in_order gridded_cmp gridded_total gridded_exact (λ p. holds g p) patterns)

-- the members of a tiling of patterns are those of the patterns as they are given
pub is_member-tiling_of : (w h : ℕ) (obstructions : List (List Point)) (lists : List (List (List Point))) (g : List Point)
    → is_member (tiling_of w h obstructions lists) g ≡ is_member (record { width = w; height = h; obstructions = obstructions; requirements = lists }) g
is_member-tiling_of w h obstructions lists g =
    ap (λ b. fits_grid w h g && (b && holds_each g (in_order (slice_cmp gridded_cmp) (map (λ patterns. in_order gridded_cmp patterns) lists)))) (none-in_order g obstructions)
    ∙ ap (λ b. fits_grid w h g && (holds_none g obstructions && b)) (each-in_order g lists)

regrouped : (f a b c d : Bool) → (f && ((a && b) && (c && d))) ≡ ((f && (b && d)) && (a && c))
regrouped false a b c d = refl
regrouped true false b c d = sym (and-false (b && d))
regrouped true true false c d = refl
regrouped true true true false d = sym (and-false d)
regrouped true true true true d = sym (and-true d)

-- further obstructions and lists are further tests
pub is_member-also : (t : Tiles) (obstructions : List (List Point)) (lists : List (List (List Point))) (g : List Point)
    → is_member (also t obstructions lists) g ≡ (is_member t g && (list_all (λ p. not (holds g p)) obstructions && list_all (λ patterns. list_any (λ p. holds g p) patterns) lists))
is_member-also t obstructions lists g =
    is_member-tiling_of t.width t.height (obstructions ++ t.obstructions) (lists ++ t.requirements) g
    ∙ ap (λ b. fits_grid t.width t.height g && (b && holds_each g (lists ++ t.requirements))) (list_all-append (λ p. not (holds g p)) obstructions t.obstructions)
    ∙ ap (λ b. fits_grid t.width t.height g && ((holds_none g obstructions && holds_none g t.obstructions) && b)) (list_all-append (holds_one g) lists t.requirements)
    ∙ regrouped (fits_grid t.width t.height g) (holds_none g obstructions) (holds_none g t.obstructions) (holds_each g lists) (holds_each g t.requirements)

-- ---- insertion
without_patterns : (t : Tiles) (patterns : List (List Point)) (g : List Point) → is_member (also t patterns []) g ≡ (is_member t g && not (holds_one g patterns))
without_patterns t patterns g =
    is_member-also t patterns [] g ∙ ap (λ b. is_member t g && b) (and-true (holds_none g patterns) ∙ none-not_any (λ p. holds g p) patterns)

with_patterns : (t : Tiles) (patterns : List (List Point)) (g : List Point) → is_member (also t [] (patterns ∷ [])) g ≡ (is_member t g && holds_one g patterns)
with_patterns t patterns g = is_member-also t [] (patterns ∷ []) g ∙ ap (λ b. is_member t g && b) (and-true (holds_one g patterns))

pub insertion_adds_up : InsertionAddsUp
insertion_adds_up t patterns n =
    filter_split (λ g. is_member t g) (λ g. holds_one g patterns) (gridded_of t.width t.height n)
    ∙ rw (filter_agree (λ g. is_member (also t patterns []) g) (λ g. is_member t g && not (holds_one g patterns)) (without_patterns t patterns) (gridded_of t.width t.height n), filter_agree (λ g. is_member (also t [] (patterns ∷ [])) g) (λ g. is_member t g && holds_one g patterns) (with_patterns t patterns) (gridded_of t.width t.height n))
