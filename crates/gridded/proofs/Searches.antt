-- One step of the search, over the places of slices.
use Rattle.std.proofs.Common.{◌≡◌, ℕ, zero, suc, ◌+◌, ◌<◌, ◌≤◌, Bool, true, false, List, [], ◌∷◌, ◌++◌, length, get_or, take, drop, set, refl, sym, ap, ◌∙◌, arith, ◌-◌, length-drop}
use Rattle.std.specs.Prelude.{◌&&◌, ◌||◌, ◌↔◌, IsTrue, map}
use Rattle.std.proofs.lemmas.List.{take_more, take_more_set, drop_more, drop_all, length-take-le, get_or-take, get_or_default, map_push}
use Rattle.patterns.specs.Occurs.{stands_as, stand_alike}
use Rattle.patterns.specs.Search.{is_found, letters_fit}
use Rattle.patterns.proofs.Occurrences.{occurs_decides}
use Rattle.patterns.proofs.Searches.{found_from_start}
use Rattle.gridded.specs.declared.cell.Cell.{Cell}
use Rattle.gridded.specs.Grids.{Point, points, corner, holds, Holds, letter_of, same_cell}
use Rattle.gridded.specs.Orders.{cell_eq}
use Rattle.gridded.specs.Search.{found}
use Rattle.gridded.specs.PointLaws.{length-points}

-- ---- points
pub drop-points : (i : ℕ) (letters : List ℕ) (cells : List Cell) (d : Cell) → i < length letters → length letters ≡ length cells → drop i (points letters cells) ≡ record { letter = get_or letters i 0; cell = get_or cells i d } ∷ drop (i + 1) (points letters cells)
drop-points i [] cells d h e = absurd (omega arith)
drop-points i (l ∷ letters) [] d h e = absurd (omega arith)
drop-points zero (l ∷ letters) (c ∷ cells) d h e = refl
drop-points (suc i) (l ∷ letters) (c ∷ cells) d h e =
    let up : suc i + 1 ≡ suc (i + 1) = omega arith in
    rw up (drop-points i letters cells d (omega arith) (omega arith))

pub found_step : (chosen pattern letters : List ℕ) (cells pattern_cells : List Cell) (taken from : ℕ) → taken < length chosen → taken < length pattern → from < length letters → length letters ≡ length cells → length pattern ≡ length pattern_cells
    → found (take taken chosen) (take taken pattern) (drop from (points letters cells)) (drop taken (points pattern pattern_cells))
    ≡ (cell_eq (get_or cells from corner) (get_or pattern_cells taken corner) && letters_fit (get_or letters from 0) (get_or pattern taken 0) (take taken chosen) (take taken pattern)
    && found (take (taken + 1) (set chosen taken (get_or letters from 0))) (take (taken + 1) pattern) (drop (from + 1) (points letters cells)) (drop (taken + 1) (points pattern pattern_cells))
    || found (take taken chosen) (take taken pattern) (drop (from + 1) (points letters cells)) (drop taken (points pattern pattern_cells)))
found_step chosen pattern letters cells pattern_cells taken from h k l e f =
    rw (drop-points from letters cells corner l e, drop-points taken pattern pattern_cells corner k f, take_more_set chosen taken (get_or letters from 0) h, take_more pattern taken 0 k)

-- nothing is found where too few points are left
found_short : (xs ys : List ℕ) (w p : List Point) → length w < length p → found xs ys w p ≡ false
found_short xs ys w [] h = absurd (omega arith)
found_short xs ys [] (y ∷ p) h = refl
found_short xs ys (x ∷ w) (y ∷ p) h =
    neither (same_cell x y) (letters_fit x.letter y.letter xs ys) (found (xs ++ x.letter ∷ []) (ys ++ y.letter ∷ []) w p) (found xs ys w (y ∷ p)) (found_short (xs ++ x.letter ∷ []) (ys ++ y.letter ∷ []) w p (omega arith)) (found_short xs ys w (y ∷ p) (omega arith))
  where
    neither : (a b c d : Bool) → c ≡ false → d ≡ false → (a && b && c || d) ≡ false
    neither true true c d e f = rw (e, f) refl
    neither true false c d e f = f
    neither false b c d e f = f

pub found_few : (xs ys pattern letters : List ℕ) (cells pattern_cells : List Cell) (taken from : ℕ) → length letters - from < length pattern - taken → length letters ≡ length cells → length pattern ≡ length pattern_cells → found xs ys (drop from (points letters cells)) (drop taken (points pattern pattern_cells)) ≡ false
found_few xs ys pattern letters cells pattern_cells taken from h e f =
    found_short xs ys (drop from (points letters cells)) (drop taken (points pattern pattern_cells))
    (omega (arith, length-drop from (points letters cells), length-drop taken (points pattern pattern_cells), length-points letters cells e, length-points pattern pattern_cells f))

pub found_end : (xs ys pattern : List ℕ) (w : List Point) (pattern_cells : List Cell) (taken : ℕ) → length pattern ≤ taken → length pattern ≡ length pattern_cells → found xs ys w (drop taken (points pattern pattern_cells)) ≡ true
found_end xs ys pattern w pattern_cells taken k f = rw (drop_all taken (points pattern pattern_cells) (rw (length-points pattern pattern_cells f) k))

pub ruleset stepping = (found_step, found_few, found_end)

pub ruleset reading = (get_or_default)

-- ---- the search decides
stands_by_letters : (x a : Point) (xs ys : List Point) → stands_as letter_of same_cell x a xs ys ≡ letters_fit x.letter a.letter (map letter_of xs) (map letter_of ys)
stands_by_letters x a [] [] = refl
stands_by_letters x a [] (b ∷ ys) = refl
stands_by_letters x a (y ∷ xs) [] = refl
stands_by_letters x a (y ∷ xs) (b ∷ ys) = ap (λ t. stand_alike x.letter a.letter y.letter b.letter && t) (stands_by_letters x a xs ys)

found_is : (xs ys w p : List Point) → is_found letter_of same_cell xs ys w p ≡ found (map letter_of xs) (map letter_of ys) w p
found_is xs ys w [] = refl
found_is xs ys [] (y ∷ p) = refl
found_is xs ys (x ∷ w) (y ∷ p) =
    rw (stands_by_letters x y xs ys, found_is xs ys w (y ∷ p), found_is (xs ++ x ∷ []) (ys ++ y ∷ []) w p, map_push letter_of xs x, map_push letter_of ys y)

pub starting : (w p : List Point) → found [] [] w p ≡ holds w p
starting w p = sym (found_is [] [] w p) ∙ found_from_start letter_of same_cell w p

-- an answer that is the test says what is held
pub answered : (answer : Bool) (w p : List Point) → answer ≡ holds w p → IsTrue answer ↔ Holds w p
answered answer w p e = let d = occurs_decides letter_of same_cell w p in ((λ t. d.0 (sym e ∙ t)), (λ h. e ∙ d.1 h))
