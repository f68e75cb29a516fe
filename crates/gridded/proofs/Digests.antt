-- The digest, point by point.
use Rattle.std.proofs.Common.{◌≡◌, ℕ, ◌+◌, ◌<◌, ◌≤◌, ◌^◌, ◌%◌, List, [], ◌∷◌, length, get_or, drop, arith}
use Rattle.std.proofs.lemmas.List.{drop_all}
use Rattle.gridded.specs.declared.cell.Cell.{Cell}
use Rattle.gridded.specs.Grids.{points, corner}
use Rattle.gridded.specs.PointLaws.{length-points}
use Rattle.gridded.proofs.Searches.{drop-points}

-- a sum may be reduced at each step
pub mod-add_first : (a b : ℕ) → (a % 2 ^ 64 + b) % 2 ^ 64 ≡ (a + b) % 2 ^ 64
mod-add_first a b = omega arith

pub ruleset mixing = (mod-add_first)

pub drop-points-corner : (i : ℕ) (letters : List ℕ) (cells : List Cell) → i < length letters → length letters ≡ length cells → drop i (points letters cells) ≡ record { letter = get_or letters i 0; cell = get_or cells i corner } ∷ drop (i + 1) (points letters cells)
drop-points-corner i letters cells h e = drop-points i letters cells corner h e

pub drop-points-all : (i : ℕ) (letters : List ℕ) (cells : List Cell) → length letters ≤ i → length letters ≡ length cells → drop i (points letters cells) ≡ []
drop-points-all i letters cells h e = drop_all i (points letters cells) (rw (length-points letters cells e) h)

pub ruleset stepping = (drop-points-corner, drop-points-all)
