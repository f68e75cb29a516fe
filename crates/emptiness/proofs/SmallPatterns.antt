-- The patterns of one or two points in some cells, and which of them are inferable.
use Rattle.std.proofs.Common.{◌≡◌, ℕ, zero, suc, ◌+◌, ◌<◌, ◌≤◌, Bool, true, false, cond, List, [], ◌∷◌, ◌++◌, length, refl, sym, ap, ◌∙◌, subst, arith, inl, inr, ⊎_elim, add-zero, append_assoc}
use Rattle.std.specs.Prelude.{◌&&◌, ◌||◌, ◌⊎◌, not, map, nat_lt, nat_le, ◌==◌, IsTrue, All}
use Rattle.std.specs.List.{filter, flat_map, list_all, list_any, range_with_len, AllByRecursion}
use Rattle.std.proofs.lemmas.List.Elements.{All-from_recursion, filter-append}
use Rattle.std.proofs.lemmas.Bool.Decides.{nat_tests}
use Rattle.std.proofs.lemmas.List.{map-append, append-nil}
use Rattle.std.proofs.lemmas.Grind.{flat_map-append}
use Rattle.std.proofs.lemmas.Bool.{false_from_ne_true as false_from, and_parts as and_true, and_from as both_true, not_from_false as not_false}
use Rattle.lists.specs.Members.IsIn.{here, later}
use Rattle.patterns.specs.Words.{has_no_repeats}
use Rattle.patterns.proofs.Occurrences.{occurs_decides}
use Rattle.gridded.specs.declared.cell.Cell.{Cell}
use Rattle.gridded.specs.Grids.{Point, letter_of, same_cell, cells_in, points_in, gridded_of, is_gridded, is_consistent, may_follow, holds, Holds, IsGridded, FitTogether}
use Rattle.gridded.specs.CellSets.{IsCellSet, cells_that, is_among}
use Rattle.gridded.specs.Orders.{cells_of, gridded_eq, gridded_cmp}
use Rattle.gridded.specs.OrderLaws.{gridded_total, gridded_exact, gridded_eq_decides}
use Rattle.sequences.specs.Ascending.{in_order}
use Rattle.sequences.proofs.InOrder.{All-in_order, list_all-in_order, in_order_ascends}
use Rattle.gridded.proofs.SmallFits.{consistent-rising, consistent-falling, fit-point, fit-rising, fit-falling}
use Rattle.tiling_core.specs.Tiles.{Tiles}
use Rattle.gridded.specs.Small.{point_at, rising, falling}
use Rattle.tiling_core.specs.Patterns.{forbids, active_cells}
use Rattle.emptiness.specs.Glueing.{reaches}
use Rattle.emptiness.specs.Candidates.{pairs_of, candidates_with, candidates_of, is_unheld}
use Rattle.emptiness.specs.Emptiness.{IsInferable, IsInferredOf, IsHeldByMember}
use Rattle.emptiness.proofs.Inserted.{IsPlaced}
use Rattle.lists.proofs.Members.{of_all, each_in, from_IsIn-map, IsIn-filter, from_IsIn-filter, IsIn-append_right, IsIn-append_cases, IsIn-flat_map, from_IsIn-flat_map}
use Rattle.lists.proofs.Tests.{which_passes, some_passes, each_passes, all_pass}
use Rattle.lists.specs.Members.{IsIn}
use Rattle.lists.specs.Words.{words}
use Rattle.lists.proofs.Words.{from_IsIn-words}
use Rattle.lists.proofs.Ranges.{IsIn-range_with_len}
use Rattle.tiling_core.proofs.Deciding.{not_held as not_both}
use Rattle.emptiness.proofs.Counted.{placed-listed, held_decides}

-- ---- small gridded permutations
placed-point : (c : Cell) → IsPlaced (point_at c)
placed-point c = record { below = (omega arith, tt); distinct = refl; consistent = refl }

placed-rising : (c d : Cell) → c.x ≤ d.x → c.y ≤ d.y → IsPlaced (rising c d)
placed-rising c d h k = record { below = (omega arith, (omega arith, tt)); distinct = refl; consistent = consistent-rising c d h k }

placed-falling : (c d : Cell) → c.x ≤ d.x → d.y ≤ c.y → IsPlaced (falling c d)
placed-falling c d h k = record { below = (omega arith, (omega arith, tt)); distinct = refl; consistent = consistent-falling c d h k }

-- ---- candidates
pub data IsCandidate (cells : List Cell) : List Point → Type 0 where
  alone : (c : Cell) → IsIn c cells → IsCandidate cells (point_at c)
  up : (c d : Cell) → IsIn c cells → IsIn d cells → c.x ≤ d.x → c.y ≤ d.y → IsCandidate cells (rising c d)
  down : (c d : Cell) → IsIn c cells → IsIn d cells → c.x ≤ d.x → d.y ≤ c.y → IsCandidate cells (falling c d)

at_most : (a b : ℕ) → nat_le a b ≡ true → a ≤ b
at_most a b e = grind (arith, nat_tests)

at_most_is : (a b : ℕ) → a ≤ b → nat_le a b ≡ true
at_most_is a b h = grind (arith, nat_tests)

in-single : {X : Type 0} (b : Bool) (x y : X) → IsIn y (cond b (x ∷ []) []) → (b ≡ true) × (y ≡ x)
in-single true x y here = (refl, refl)
in-single true x y (later _ m) = elim m [ ]
in-single false x y m = elim m [ ]

from-pairs : (cells : List Cell) (c d : Cell) → IsIn c cells → IsIn d cells → (p : List Point) → IsIn p (pairs_of c d) → IsCandidate cells p
from-pairs cells c d h k p m = go (nat_le c.x d.x) refl m
  where
    go : (b : Bool) → nat_le c.x d.x ≡ b → IsIn p (cond b (cond (nat_le c.y d.y) (rising c d ∷ []) [] ++ cond (nat_le d.y c.y) (falling c d ∷ []) []) []) → IsCandidate cells p
    go false e n = elim n [ ]
    go true e n =
        ⊎_elim {C = IsCandidate cells p}
        (λ a. let w = in-single (nat_le c.y d.y) (rising c d) p a in subst (λ q. IsCandidate cells q) (sym w.1) (up c d h k (at_most c.x d.x e) (at_most c.y d.y w.0)))
        (λ a. let w = in-single (nat_le d.y c.y) (falling c d) p a in subst (λ q. IsCandidate cells q) (sym w.1) (down c d h k (at_most c.x d.x e) (at_most d.y c.y w.0)))
        (IsIn-append_cases (cond (nat_le c.y d.y) (rising c d ∷ []) []) (cond (nat_le d.y c.y) (falling c d ∷ []) []) n)

pub candidates_tell : (cells : List Cell) (p : List Point) → IsIn p (candidates_of cells) → IsCandidate cells p
candidates_tell cells p m =
    let w = from_IsIn-flat_map (λ c. candidates_with cells c) cells m in
    first w.0 w.1 p w.2
  where
    first : (c : Cell) → IsIn c cells → (q : List Point) → IsIn q (point_at c ∷ flat_map (λ d. pairs_of c d) cells) → IsCandidate cells q
    first c h q here = alone c h
    first c h q (later _ n) = let v = from_IsIn-flat_map (λ d. pairs_of c d) cells n in from-pairs cells c v.0 h v.1 q v.2

pub candidate_listed : (cells : List Cell) {p : List Point} → IsCandidate cells p → IsIn p (candidates_of cells)
candidate_listed cells (alone c h) = IsIn-flat_map (λ e. candidates_with cells e) h here
candidate_listed cells (up c d h k l m) =
    IsIn-flat_map (λ e. candidates_with cells e) h (later (point_at c) (IsIn-flat_map (λ e. pairs_of c e) k (rw (at_most_is c.x d.x l, at_most_is c.y d.y m) here)))
candidate_listed cells (down c d h k l m) =
    IsIn-flat_map (λ e. candidates_with cells e) h (later (point_at c) (IsIn-flat_map (λ e. pairs_of c e) k (rw (at_most_is c.x d.x l, at_most_is d.y c.y m) (IsIn-append_right (cond (nat_le c.y d.y) (rising c d ∷ []) []) here))))

-- ---- what is listed
letter-below : (w h n : ℕ) (p : Point) → IsIn p (points_in w h n) → p.letter < n
letter-below w h n p m =
    let a = from_IsIn-flat_map (λ (letter : ℕ). map (λ cell. record { letter = letter; cell = cell }) (cells_in w h)) (range_with_len 0 n) m in
    let b = from_IsIn-map {Y = Point} (λ cell. record { letter = a.0; cell = cell }) (cells_in w h) a.2 in
    let e : p.letter ≡ a.0 = ap letter_of b.2 in
    let k = (IsIn-range_with_len 0 n a.0 a.1).1 in
    omega arith

cell-in : (w h : ℕ) (c : Cell) → IsIn c (cells_in w h) → (nat_lt c.x w && nat_lt c.y h) ≡ true
cell-in w h c m =
    let a = from_IsIn-flat_map (λ (x : ℕ). map (λ y. record { x = x; y = y }) (range_with_len 0 h)) (range_with_len 0 w) m in
    let b = from_IsIn-map {Y = Cell} (λ y. record { x = a.0; y = y }) (range_with_len 0 h) a.2 in
    let ex : c.x ≡ a.0 = ap (λ (d : Cell). d.x) b.2 in
    let ey : c.y ≡ b.0 = ap (λ (d : Cell). d.y) b.2 in
    let k = (IsIn-range_with_len 0 w a.0 a.1).1 in
    let l = (IsIn-range_with_len 0 h b.0 b.1).1 in
    both_true (nat_lt c.x w) (nat_lt c.y h) (lower c.x w (omega arith)) (lower c.y h (omega arith))
  where
    lower : (a b : ℕ) → a < b → nat_lt a b ≡ true
    lower a b f = grind (arith, nat_tests)

pub active-in_grid : (t : Tiles) (c : Cell) → IsIn c (active_cells t) → (nat_lt c.x t.width && nat_lt c.y t.height) ≡ true
active-in_grid t c m = cell-in t.width t.height c (from_IsIn-filter (λ d. not (forbids t (point_at d))) (cells_in t.width t.height) m).0

-- ---- which candidates are inferable
letters-below : (w h n : ℕ) (p : List Point) → AllByRecursion (λ x. IsIn x (points_in w h n)) p → AllByRecursion (λ (x : Point). x.letter < n) p
letters-below w h n [] k = tt
letters-below w h n (x ∷ p) k = (letter-below w h n x k.0, letters-below w h n p k.1)

unheld_tells : (t : Tiles) (p : List Point) → IsGridded p → is_unheld t p ≡ true → ((o : List Point) → IsIn o t.obstructions → ¬ (Holds p o)) × (¬ (IsHeldByMember t p))
unheld_tells t p g e =
    let k = and_true (not (list_any (λ o. holds p o) t.obstructions)) (not (reaches t t.requirements p)) e in (
      (λ o m h. not_both (list_any (λ q. holds p q) t.obstructions) k.0 (some_passes (λ q. holds p q) m ((occurs_decides letter_of same_cell p o).1 h))),
      (λ h. not_both (reaches t t.requirements p) k.1 ((held_decides t p g).1 h)),
    )

unheld_from : (t : Tiles) (p : List Point) → IsGridded p → ((o : List Point) → IsIn o t.obstructions → ¬ (Holds p o)) → ¬ (IsHeldByMember t p) → is_unheld t p ≡ true
unheld_from t p g f h =
    both_true (not (list_any (λ o. holds p o) t.obstructions)) (not (reaches t t.requirements p))
    (not_false (list_any (λ o. holds p o) t.obstructions) (false_from (list_any (λ o. holds p o) t.obstructions) (λ e. let w = which_passes (λ o. holds p o) t.obstructions e in f w.0 w.1 ((occurs_decides letter_of same_cell p w.0).0 w.2))))
    (not_false (reaches t t.requirements p) (false_from (reaches t t.requirements p) (λ e. h ((held_decides t p g).0 e))))

in-two : {X : Type 0} (P : X → Type 0) (a b : X) → P a → P b → (x : X) → IsIn x (a ∷ b ∷ []) → P x
in-two P a b h k _ here = h
in-two P a b h k _ (later _ here) = k
in-two P a b h k x (later _ (later _ m)) = elim m [ ]

in-one : {X : Type 0} (P : X → Type 0) (a : X) → P a → (x : X) → IsIn x (a ∷ []) → P x
in-one P a h _ here = h
in-one P a h x (later _ m) = elim m [ ]

candidate-gridded : (cells : List Cell) {p : List Point} → IsCandidate cells p → IsGridded p
candidate-gridded cells (alone c h) = (fit-point c).gridded
candidate-gridded cells (up c d h k l m) = (fit-rising c d l m).gridded
candidate-gridded cells (down c d h k l m) = (fit-falling c d l m).gridded

candidate-inferable : (t : Tiles) {p : List Point} → IsCandidate (active_cells t) p → is_unheld t p ≡ true → IsInferable t p
candidate-inferable t (alone c h) e =
    let u = unheld_tells t (point_at c) (fit-point c).gridded e in record {
      small = inl refl;
      listed = placed-listed t.width t.height (point_at c) (placed-point c) (both_true (nat_lt c.x t.width && nat_lt c.y t.height) true (active-in_grid t c h) refl);
      active = in-one (λ d. IsIn d (active_cells t)) c h;
      no_obstruction = u.0;
      unheld = u.1;
    }
candidate-inferable t (up c d h k l m) e =
    let u = unheld_tells t (rising c d) (fit-rising c d l m).gridded e in record {
      small = inr refl;
      listed = placed-listed t.width t.height (rising c d) (placed-rising c d l m) (both_true (nat_lt c.x t.width && nat_lt c.y t.height) (nat_lt d.x t.width && nat_lt d.y t.height && true) (active-in_grid t c h) (both_true (nat_lt d.x t.width && nat_lt d.y t.height) true (active-in_grid t d k) refl));
      active = in-two (λ x. IsIn x (active_cells t)) c d h k;
      no_obstruction = u.0;
      unheld = u.1;
    }
candidate-inferable t (down c d h k l m) e =
    let u = unheld_tells t (falling c d) (fit-falling c d l m).gridded e in record {
      small = inr refl;
      listed = placed-listed t.width t.height (falling c d) (placed-falling c d l m) (both_true (nat_lt c.x t.width && nat_lt c.y t.height) (nat_lt d.x t.width && nat_lt d.y t.height && true) (active-in_grid t c h) (both_true (nat_lt d.x t.width && nat_lt d.y t.height) true (active-in_grid t d k) refl));
      active = in-two (λ x. IsIn x (active_cells t)) c d h k;
      no_obstruction = u.0;
      unheld = u.1;
    }

-- a gridded permutation of one or two points over the cells is a candidate
one-candidate : (cells : List Cell) (x : Point) → x.letter < 1 → IsIn x.cell cells → IsCandidate cells (x ∷ [])
one-candidate cells x low h =
    let e : 0 ≡ x.letter = omega arith in
    let same : point_at x.cell ≡ x ∷ [] = λ i. record { letter = e i; cell = x.cell } ∷ [] in
    subst (λ p. IsCandidate cells p) same (alone x.cell h)

two-candidate : (cells : List Cell) (x y : Point) → x.letter < 2 → y.letter < 2 → (x.letter == y.letter) ≡ false → may_follow x y ≡ true → IsIn x.cell cells → IsIn y.cell cells → IsCandidate cells (x ∷ y ∷ [])
two-candidate cells x y lx ly ne fit h k = go (nat_lt x.letter y.letter) refl
  where
    columns : x.cell.x ≤ y.cell.x
    columns = grind (arith, nat_tests)

    go : (b : Bool) → nat_lt x.letter y.letter ≡ b → IsCandidate cells (x ∷ y ∷ [])
    go true e =
        let less : x.letter < y.letter = grind (arith, nat_tests) in
        let ex : 0 ≡ x.letter = omega arith in
        let ey : 1 ≡ y.letter = omega arith in
        let rows : x.cell.y ≤ y.cell.y = grind (arith, nat_tests) in
        let same : rising x.cell y.cell ≡ x ∷ y ∷ [] = λ i. record { letter = ex i; cell = x.cell } ∷ record { letter = ey i; cell = y.cell } ∷ [] in
        subst (λ p. IsCandidate cells p) same (up x.cell y.cell h k columns rows)
    go false e =
        let apart : y.letter < x.letter = grind (arith, nat_tests) in
        let ex : 1 ≡ x.letter = omega arith in
        let ey : 0 ≡ y.letter = omega arith in
        let rows : y.cell.y ≤ x.cell.y = grind (arith, nat_tests) in
        let same : falling x.cell y.cell ≡ x ∷ y ∷ [] = λ i. record { letter = ex i; cell = x.cell } ∷ record { letter = ey i; cell = y.cell } ∷ [] in
        subst (λ p. IsCandidate cells p) same (down x.cell y.cell h k columns rows)

small-candidate : (t : Tiles) (p : List Point) → (length p ≡ 1) ⊎ (length p ≡ 2) → IsIn p (gridded_of t.width t.height (length p)) → ((c : Cell) → IsIn c (cells_of p) → IsIn c (active_cells t)) → IsCandidate (active_cells t) p
small-candidate t [] s m f = ⊎_elim {C = IsCandidate (active_cells t) []} (λ e. absurd (omega arith)) (λ e. absurd (omega arith)) s
small-candidate t (x ∷ []) s m f =
    let w = from_IsIn-words (points_in t.width t.height 1) 1 (x ∷ []) (from_IsIn-filter is_gridded (words (points_in t.width t.height 1) 1) m).0 in
    one-candidate (active_cells t) x (letter-below t.width t.height 1 x w.0.0) (f x.cell here)
small-candidate t (x ∷ y ∷ []) s m f =
    let v = from_IsIn-filter is_gridded (words (points_in t.width t.height 2) 2) m in
    let w = from_IsIn-words (points_in t.width t.height 2) 2 (x ∷ y ∷ []) v.0 in
    let g = and_true (has_no_repeats (x.letter ∷ y.letter ∷ [])) (is_consistent (x ∷ y ∷ [])) v.1 in
    two-candidate (active_cells t) x y (letter-below t.width t.height 2 x w.0.0) (letter-below t.width t.height 2 y w.0.1.0)
    (first (x.letter == y.letter) g.0) (second (may_follow x y) g.1) (f x.cell here) (f y.cell (later x.cell here))
  where
    first : (b : Bool) → (not (b || false) && true) ≡ true → b ≡ false
    first true e = absurd cc
    first false e = refl

    second : (b : Bool) → ((b && true) && true) ≡ true → b ≡ true
    second true e = refl
    second false e = cc
small-candidate t (x ∷ y ∷ z ∷ p) s m f = ⊎_elim {C = IsCandidate (active_cells t) (x ∷ y ∷ z ∷ p)} (λ e. absurd (omega arith)) (λ e. absurd (omega arith)) s

-- ---- in order
ordered-adds_none : (xs : List (List Point)) (g : List Point) → IsIn g (in_order gridded_cmp xs) → IsIn g xs
ordered-adds_none xs g m = of_all (λ h. IsIn h xs) (All-in_order gridded_cmp gridded_total gridded_exact (λ h. IsIn h xs) xs (All-from_recursion (λ h. IsIn h xs) xs (each_in (λ h. IsIn h xs) xs (λ h n. n)))) m

ordered-keeps : (xs : List (List Point)) (g : List Point) → IsIn g xs → IsIn g (in_order gridded_cmp xs)
ordered-keeps xs g m = go (list_any (λ h. gridded_eq h g) (in_order gridded_cmp xs)) refl
  where
    go : (b : Bool) → list_any (λ h. gridded_eq h g) (in_order gridded_cmp xs) ≡ b → IsIn g (in_order gridded_cmp xs)
    go true e = let w = which_passes (λ h. gridded_eq h g) (in_order gridded_cmp xs) e in subst (λ h. IsIn h (in_order gridded_cmp xs)) ((gridded_eq_decides w.0 g).0 w.2) w.1
    go false e =
        let others : list_all (λ h. not (gridded_eq h g)) (in_order gridded_cmp xs) ≡ true = all_pass (λ h. not (gridded_eq h g)) (in_order gridded_cmp xs) (λ h n. not_false (gridded_eq h g) (false_from (gridded_eq h g) (λ f. let k = some_passes (λ q. gridded_eq q g) n f in absurd cc))) in
        let all = sym (list_all-in_order gridded_cmp gridded_total gridded_exact (λ h. not (gridded_eq h g)) xs) ∙ others in
        absurd (not_both (gridded_eq g g) (each_passes (λ h. not (gridded_eq h g)) all m) ((gridded_eq_decides g g).1 refl))

-- the candidates that no member holds, in order
pub inferred_in_order : (t : Tiles) (cells : List Cell) (all found patterns : List (List Point)) → cells ≡ active_cells t → all ≡ candidates_of cells → found ≡ filter (λ p. is_unheld t p) all → patterns ≡ in_order gridded_cmp found → IsInferredOf t patterns
inferred_in_order t cells all found patterns a b c d = rw (d, c, b, a) (record {
  ascends = in_order_ascends gridded_cmp gridded_total gridded_exact (filter (λ p. is_unheld t p) (candidates_of (active_cells t)));
  exact = λ p. (
    (λ m. let n = from_IsIn-filter (λ q. is_unheld t q) (candidates_of (active_cells t)) (ordered-adds_none (filter (λ q. is_unheld t q) (candidates_of (active_cells t))) p m) in
        candidate-inferable t (candidates_tell (active_cells t) p n.0) n.1),
    (λ h. let small = small-candidate t p h.small h.listed h.active in
        ordered-keeps (filter (λ q. is_unheld t q) (candidates_of (active_cells t))) p
        (IsIn-filter (λ q. is_unheld t q) (candidate_listed (active_cells t) small) (unheld_from t p (candidate-gridded (active_cells t) small) h.no_obstruction h.unheld))),
  );
})

candidate-small : (cells : List Cell) {p : List Point} → IsCandidate cells p → length p ≤ 2
candidate-small cells (alone c h) = omega arith
candidate-small cells (up c d h k l m) = omega arith
candidate-small cells (down c d h k l m) = omega arith

pub candidates-small : (cells : List Cell) (all : List (List Point)) → all ≡ candidates_of cells → All (λ p. length p ≤ 2) all
candidates-small cells all e =
    subst (λ xs. All (λ p. length p ≤ 2) xs) (sym e) (All-from_recursion (λ p. length p ≤ 2) (candidates_of cells) (each_in (λ p. length p ≤ 2) (candidates_of cells) (λ p m. candidate-small cells (candidates_tell cells p m))))
