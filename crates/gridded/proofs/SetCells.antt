-- The cells of a set, column by column.
use Rattle.std.proofs.Common.{◌≡◌, ℕ, ◌+◌, List, [], ◌∷◌, ◌++◌, sym, ap, ◌∙◌, append_assoc}
use Rattle.std.specs.Prelude.{map}
use Rattle.std.specs.List.{filter, flat_map, range_with_len}
use Rattle.std.proofs.lemmas.List.Elements.{filter-append}
use Rattle.std.proofs.lemmas.List.{map-append, append-nil}
use Rattle.std.proofs.lemmas.Grind.{flat_map-append}
use Rattle.gridded.specs.declared.cell.Cell.{Cell}
use Rattle.gridded.specs.CellSets.{IsCellSet, cells_that, is_among, one_of, column_of}
use Rattle.lists.proofs.Filters.{filter-flat_map}
use Rattle.lists.proofs.Ranges.{range_next}

abbrev at : ℕ → ℕ → Cell
at x y = record { x = x; y = y }

column_of-more : (set : List Cell) (x y : ℕ) → column_of set x (y + 1) ≡ column_of set x y ++ one_of set (at x y)
column_of-more set x y =
    rw (range_next y) (ap (λ cs. filter (λ c. is_among set c) cs) (map-append (λ z. at x z) (range_with_len 0 y) (y ∷ [])) ∙ filter-append (λ c. is_among set c) (map (λ z. at x z) (range_with_len 0 y)) (at x y ∷ []))

pub column-step : (set : List Cell) (x y : ℕ) (old before after : List Cell) → before ≡ old ++ column_of set x y → after ≡ before ++ one_of set (at x y) → after ≡ old ++ column_of set x (y + 1)
column-step set x y old before after e f = f ∙ ap (λ s. s ++ one_of set (at x y)) e ∙ append_assoc old (column_of set x y) (one_of set (at x y)) ∙ ap (λ s. old ++ s) (sym (column_of-more set x y))

columns-more : (set : List Cell) (x : ℕ) → flat_map (λ i. column_of set i 8) (range_with_len 0 (x + 1)) ≡ flat_map (λ i. column_of set i 8) (range_with_len 0 x) ++ column_of set x 8
columns-more set x =
    rw (range_next x) (flat_map-append (λ i. column_of set i 8) (range_with_len 0 x) (x ∷ []) ∙ ap (λ rest. flat_map (λ i. column_of set i 8) (range_with_len 0 x) ++ rest) (append-nil (column_of set x 8)))

pub set-step : (set : List Cell) (x : ℕ) (before after : List Cell) → before ≡ flat_map (λ i. column_of set i 8) (range_with_len 0 x) → after ≡ before ++ column_of set x 8 → after ≡ flat_map (λ i. column_of set i 8) (range_with_len 0 (x + 1))
set-step set x before after e f = f ∙ ap (λ s. s ++ column_of set x 8) e ∙ sym (columns-more set x)

pub columns-whole : (set : List Cell) → IsCellSet set → flat_map (λ i. column_of set i 8) (range_with_len 0 8) ≡ set
unfolding cells_that
columns-whole set h = sym (filter-flat_map (λ c. is_among set c) (λ x. map (λ y. record { x = x; y = y }) (range_with_len 0 8)) (range_with_len 0 8)) ∙ sym h
