-- One step of the search, over the places of slices.
use Rattle.std.proofs.Common.{◌≡◌, ℕ, zero, suc, ◌+◌, ◌<◌, ◌≤◌, Bool, true, false, List, [], ◌∷◌, ◌++◌, length, get_or, drop, refl, sym, ap, ◌∙◌, arith, length-drop}
use Rattle.std.specs.Prelude.{◌≢◌, ◌&&◌, ◌||◌, ◌==◌, ◌↔◌, not, map, IsTrue}
use Rattle.std.specs.List.{list_any, zip}
use Rattle.std.proofs.lemmas.Bool.Decides.{Decides-eqb}
use Rattle.std.proofs.lemmas.Bool.{and_parts, or_parts, not-true}
use Rattle.std.proofs.lemmas.List.{drop_more, drop_all, map_push}
use Rattle.patterns.specs.Occurs.{stand_alike, stands_as, occurs, Occurs}
use Rattle.patterns.specs.Search.{is_found, letters_fit}
use Rattle.patterns.proofs.Occurrences.{occurs_decides}
use Rattle.patterns.proofs.Searches.{found_from_start}
use Rattle.patterns.specs.Words.{has_no_repeats}
use Rattle.kernels.specs.Search.{found, found_from, found_in_cells_from}

-- the step at a place of the word
pub found_from-step : (xs ys w p : List ℕ) (from taken : ℕ) → from < length w → taken < length p
    → found_from xs ys from w taken p
    ≡ (letters_fit (get_or w from 0) (get_or p taken 0) xs ys && found_from (xs ++ get_or w from 0 ∷ []) (ys ++ get_or p taken 0 ∷ []) (from + 1) w (taken + 1) p || found_from xs ys (from + 1) w taken p)
found_from-step xs ys w p from taken h k = rw (drop_more w from 0 h, drop_more p taken 0 k) refl

pub found_from-end : (xs ys w p : List ℕ) (from taken : ℕ) → length p ≤ taken → found_from xs ys from w taken p ≡ true
found_from-end xs ys w p from taken k = rw (drop_all taken p k) refl

-- nothing is found where too few points are left
found-short : {X : Type 0} (letter : X → ℕ) (same : X → X → Bool) (xs ys : List ℕ) (w p : List X) → length w < length p → found letter same xs ys w p ≡ false
found-short letter same xs ys w [] h = absurd (omega arith)
found-short letter same xs ys [] (y ∷ p) h = refl
found-short letter same xs ys (x ∷ w) (y ∷ p) h =
    neither (same x y) (letters_fit (letter x) (letter y) xs ys) _ _ (found-short letter same (xs ++ letter x ∷ []) (ys ++ letter y ∷ []) w p (omega arith)) (found-short letter same xs ys w (y ∷ p) (omega arith))
  where
    neither : (a b c d : Bool) → c ≡ false → d ≡ false → (a && b && c || d) ≡ false
    neither true true c d e f = rw (e, f) refl
    neither true false c d e f = f
    neither false b c d e f = f

pub found_from-few : (xs ys w p : List ℕ) (from taken : ℕ) → length w + taken < length p + from → taken < length p → found_from xs ys from w taken p ≡ false
found_from-few xs ys w p from taken h k =
    found-short (λ l. l) (λ _ _. true) xs ys (drop from w) (drop taken p) (omega (arith, length-drop from w, length-drop taken p))

-- ---- the same with cells
drop-zip : (w cells : List ℕ) (i : ℕ) → i < length w → i < length cells → drop i (zip w cells) ≡ (get_or w i 0, get_or cells i 0) ∷ drop (i + 1) (zip w cells)
drop-zip [] cells i h e = absurd (omega arith)
drop-zip (l ∷ w) [] i h e = absurd (omega arith)
drop-zip (l ∷ w) (c ∷ cells) zero h e = refl
drop-zip (l ∷ w) (c ∷ cells) (suc i) h e = let up : suc i + 1 ≡ suc (i + 1) = omega arith in rw up (drop-zip w cells i (omega arith) (omega arith))

pub found_in_cells_from-step : (xs ys w w_cells p p_cells : List ℕ) (from taken : ℕ) → from < length w → from < length w_cells → taken < length p → taken < length p_cells
    → found_in_cells_from xs ys from w w_cells taken p p_cells
    ≡ ((get_or w_cells from 0 == get_or p_cells taken 0) && letters_fit (get_or w from 0) (get_or p taken 0) xs ys && found_in_cells_from (xs ++ get_or w from 0 ∷ []) (ys ++ get_or p taken 0 ∷ []) (from + 1) w w_cells (taken + 1) p p_cells
    || found_in_cells_from xs ys (from + 1) w w_cells taken p p_cells)
unfolding found_in_cells_from
found_in_cells_from-step xs ys w w_cells p p_cells from taken h i k l = rw (drop-zip w w_cells from h i, drop-zip p p_cells taken k l) refl

length-zip : (w cells : List ℕ) → length w ≡ length cells → length (zip w cells) ≡ length w
length-zip [] cells e = refl
length-zip (l ∷ w) [] e = absurd (omega arith)
length-zip (l ∷ w) (c ∷ cells) e = ap suc (length-zip w cells (omega arith))

zip-short : (w cells : List ℕ) → length (zip w cells) ≤ length w
zip-short [] cells = omega arith
zip-short (l ∷ w) [] = omega arith
zip-short (l ∷ w) (c ∷ cells) = omega (arith, zip-short w cells)

pub found_in_cells_from-end : (xs ys w w_cells p p_cells : List ℕ) (from taken : ℕ) → length p ≤ taken → found_in_cells_from xs ys from w w_cells taken p p_cells ≡ true
unfolding found_in_cells_from
found_in_cells_from-end xs ys w w_cells p p_cells from taken k = rw (drop_all taken (zip p p_cells) (omega (arith, zip-short p p_cells))) refl

pub found_in_cells_from-few : (xs ys w w_cells p p_cells : List ℕ) (from taken : ℕ) → length w + taken < length p + from → taken < length p → length w ≡ length w_cells → length p ≡ length p_cells → found_in_cells_from xs ys from w w_cells taken p p_cells ≡ false
unfolding found_in_cells_from
found_in_cells_from-few xs ys w w_cells p p_cells from taken h k e f =
    found-short (λ (x : ℕ × ℕ). x.0) (λ x a. x.1 == a.1) xs ys (drop from (zip w w_cells)) (drop taken (zip p p_cells))
    (omega (arith, length-drop from (zip w w_cells), length-drop taken (zip p p_cells), length-zip w w_cells e, length-zip p p_cells f))

-- ---- letters at two places differ
elsewhere : (x : ℕ) (w : List ℕ) (k : ℕ) → list_any (λ y. x == y) w ≡ false → k < length w → x ≢ get_or w k 0
elsewhere x [] k h m e = omega arith
elsewhere x (l ∷ w) zero h m e = let out = or_parts (x == l) (list_any (λ y. x == y) w) h in let same : (x == l) ≡ true = (Decides-eqb x l).1 e in absurd cc
elsewhere x (l ∷ w) (suc k) h m e = elsewhere x w k (or_parts (x == l) (list_any (λ y. x == y) w) h).1 (omega arith) e

apart : (w : List ℕ) (j k : ℕ) → has_no_repeats w ≡ true → j < k → k < length w → get_or w j 0 ≢ get_or w k 0
apart [] j k h l m e = absurd (omega arith)
apart (x ∷ w) j zero h l m e = absurd (omega arith)
apart (x ∷ w) zero (suc k) h l m e = elsewhere x w k (not-true _ (and_parts (not (list_any (λ y. x == y) w)) (has_no_repeats w) h).0) (omega arith) e
apart (x ∷ w) (suc j) (suc k) h l m e = apart w j k (and_parts (not (list_any (λ y. x == y) w)) (has_no_repeats w) h).1 (omega arith) (omega arith) e

pub letters_differ : (w : List ℕ) (i j : ℕ) → IsTrue (has_no_repeats w) → i < j → j < length w → get_or w j 0 ≢ get_or w i 0
letters_differ w i j h k l e = apart w i j h k l (sym e)

pub ruleset stepping = (found_from-step, found_from-end, found_from-few, letters_differ)

pub ruleset stepping_in_cells = (found_in_cells_from-step, found_in_cells_from-end, found_in_cells_from-few, letters_differ)

-- ---- the search decides
stands_by_letters : {X : Type 0} (letter : X → ℕ) (same : X → X → Bool) (x a : X) (xs ys : List X) → stands_as letter same x a xs ys ≡ letters_fit (letter x) (letter a) (map letter xs) (map letter ys)
stands_by_letters letter same x a [] [] = refl
stands_by_letters letter same x a [] (b ∷ ys) = refl
stands_by_letters letter same x a (y ∷ xs) [] = refl
stands_by_letters letter same x a (y ∷ xs) (b ∷ ys) = ap (λ t. stand_alike (letter x) (letter a) (letter y) (letter b) && t) (stands_by_letters letter same x a xs ys)

found_is : {X : Type 0} (letter : X → ℕ) (same : X → X → Bool) (xs ys w p : List X) → is_found letter same xs ys w p ≡ found letter same (map letter xs) (map letter ys) w p
found_is letter same xs ys w [] = refl
found_is letter same xs ys [] (y ∷ p) = refl
found_is letter same xs ys (x ∷ w) (y ∷ p) =
    rw (stands_by_letters letter same x y xs ys, found_is letter same xs ys w (y ∷ p), found_is letter same (xs ++ x ∷ []) (ys ++ y ∷ []) w p, map_push letter xs x, map_push letter ys y) refl

starting : {X : Type 0} (letter : X → ℕ) (same : X → X → Bool) (w p : List X) → found letter same [] [] w p ≡ occurs letter same w p
starting letter same w p = sym (found_is letter same [] [] w p) ∙ found_from_start letter same w p

-- an answer that is the search's is the test, which decides
pub record Answered {X : Type 0} (letter : X → ℕ) (same : X → X → Bool) (w p : List X) (answer : Bool) : Type 0 where
  pub test : answer ≡ occurs letter same w p
  pub relation : IsTrue answer ↔ Occurs letter same w p

pub answered : {X : Type 0} (letter : X → ℕ) (same : X → X → Bool) (w p : List X) (answer : Bool) → answer ≡ found letter same [] [] w p → Answered letter same w p answer
answered letter same w p answer e =
    let d = occurs_decides letter same w p in
    let f = e ∙ starting letter same w p in
    record { test = f; relation = ((λ t. d.0 (sym f ∙ t)), (λ h. f ∙ d.1 h)) }

pub answered_in_cells : (w w_cells p p_cells : List ℕ) (answer : Bool) → answer ≡ found_in_cells_from [] [] 0 w w_cells 0 p p_cells → Answered (λ (x : ℕ × ℕ). x.0) (λ x a. x.1 == a.1) (zip w w_cells) (zip p p_cells) answer
unfolding found_in_cells_from
answered_in_cells w w_cells p p_cells answer e = answered (λ (x : ℕ × ℕ). x.0) (λ x a. x.1 == a.1) (zip w w_cells) (zip p p_cells) answer e
