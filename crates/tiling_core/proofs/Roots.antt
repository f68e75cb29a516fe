-- The members of the tiling of a basis are the permutations that avoid it.
use Rattle.std.proofs.Common.{◌≡◌, ℕ, true, List, [], ◌∷◌, ◌++◌, refl, sym, ap, ◌∙◌, arith}
use Rattle.std.specs.Prelude.{◌&&◌, not, map, nat_lt}
use Rattle.std.specs.List.{filter, list_all, AllByRecursion}
use Rattle.std.proofs.lemmas.List.{length-map, map_push}
use Rattle.std.proofs.lemmas.List.Folds.{list_all-map}
use Rattle.std.proofs.Math.Bool.{and-false, and-true}
use Rattle.std.proofs.lemmas.Bool.{and_from}
use Rattle.patterns.specs.Words.{all_perms, has_no_repeats}
use Rattle.patterns.specs.Occurs.{contains, avoids, stand_alike, stands_as}
use Rattle.patterns.specs.Search.{is_found}
use Rattle.patterns.specs.Laws.{IsPermutationOf}
use Rattle.patterns.proofs.NoRepeat.{NoRepeats-all_perms, perm_is_listed, listed_is_perm}
use Rattle.patterns.proofs.Searches.{found_from_start}
use Rattle.gridded.specs.Grids.{Point, letter_of, same_cell, holds, may_follow, is_consistent}
use Rattle.gridded.specs.Orders.{letters_of, cells_of}
use Rattle.gridded.specs.Laws.{IsCellOf, IsGriddedOf}
use Rattle.gridded.specs.Places.{fits_grid}
use Rattle.tiling_core.specs.Tiles.{is_member}
use Rattle.tiling_core.specs.Carried.{MemberOf}
use Rattle.tiling_core.specs.Roots.{in_one_cell, only_cell, root_of}
use Rattle.tiling_core.specs.Counts.{RootCountsAvoiders}
use Rattle.tiling_core.proofs.Deciding.{is_member_decides}
use Rattle.tiling_core.proofs.Listed.{members, member_is_listed, listed_is_member, NoRepeats-members}
use Rattle.tiling_core.proofs.Ordered.{is_member-tiling_of}
use Rattle.lists.proofs.Tests.{list_all-agree}
use Rattle.lists.specs.Members.{IsIn}
use Rattle.lists.proofs.Members.{IsIn-filter, from_IsIn-filter}
use Rattle.lists.proofs.Repeats.{NoRepeats-filter}
use Rattle.lists.proofs.Injections.{length-from_inverse}

abbrev put : ℕ → Point
put l = record { letter = l; cell = only_cell }

pub letters_in_one_cell : (w : List ℕ) → letters_of (in_one_cell w) ≡ w
letters_in_one_cell [] = refl
letters_in_one_cell (l ∷ w) = ap (λ v. l ∷ v) (letters_in_one_cell w)

pub all_in_one_cell : (g : List Point) → AllByRecursion (λ c. IsCellOf 1 1 c) (cells_of g) → in_one_cell (letters_of g) ≡ g
all_in_one_cell [] k = refl
all_in_one_cell (p ∷ g) k =
    let x : 0 ≡ p.cell.x = omega (arith, k.0.0) in
    let y : 0 ≡ p.cell.y = omega (arith, k.0.1) in
    let ih = all_in_one_cell g k.1 in
    λ i. record { letter = p.letter; cell = record { x = x i; y = y i } } ∷ ih i

-- ---- containment
stands_in_one_cell : (x a : ℕ) (xs ys : List ℕ) → stands_as letter_of same_cell (put x) (put a) (in_one_cell xs) (in_one_cell ys) ≡ stands_as (λ l. l) (λ _ _. true) x a xs ys
stands_in_one_cell x a [] [] = refl
stands_in_one_cell x a [] (b ∷ ys) = refl
stands_in_one_cell x a (y ∷ xs) [] = refl
stands_in_one_cell x a (y ∷ xs) (b ∷ ys) = ap (λ t. stand_alike x a y b && t) (stands_in_one_cell x a xs ys)

found_in_one_cell : (xs ys w p : List ℕ) → is_found letter_of same_cell (in_one_cell xs) (in_one_cell ys) (in_one_cell w) (in_one_cell p) ≡ is_found (λ l. l) (λ _ _. true) xs ys w p
found_in_one_cell xs ys w [] = refl
found_in_one_cell xs ys [] (y ∷ p) = refl
found_in_one_cell xs ys (x ∷ w) (y ∷ p) =
    rw (← map_push put xs x, ← map_push put ys y, stands_in_one_cell x y xs ys, found_in_one_cell (xs ++ x ∷ []) (ys ++ y ∷ []) w p, found_in_one_cell xs ys w (y ∷ p))

pub holds_in_one_cell : (w p : List ℕ) → holds (in_one_cell w) (in_one_cell p) ≡ contains w p
holds_in_one_cell w p = sym (found_from_start letter_of same_cell (in_one_cell w) (in_one_cell p)) ∙ found_in_one_cell [] [] w p ∙ found_from_start (λ l. l) (λ _ _. true) w p

-- ---- members
pub fits_one_cell : (w : List ℕ) → fits_grid 1 1 (in_one_cell w) ≡ true
fits_one_cell [] = refl
fits_one_cell (l ∷ w) = fits_one_cell w

pub root_members : (basis : List (List ℕ)) (w : List ℕ) → is_member (root_of basis) (in_one_cell w) ≡ avoids basis w
root_members basis w =
    is_member-tiling_of 1 1 (map in_one_cell basis) [] (in_one_cell w)
    ∙ ap (λ b. b && (list_all (λ p. not (holds (in_one_cell w) p)) (map in_one_cell basis) && true)) (fits_one_cell w)
    ∙ and-true (list_all (λ p. not (holds (in_one_cell w) p)) (map in_one_cell basis))
    ∙ list_all-map (λ p. not (holds (in_one_cell w) p)) in_one_cell basis
    ∙ list_all-agree (λ p. not (holds (in_one_cell w) (in_one_cell p))) (λ p. not (contains w p)) basis (λ p _. ap not (holds_in_one_cell w p))

follows_in_one_cell : (l m : ℕ) → may_follow (put l) (put m) ≡ true
follows_in_one_cell l m = rw (and-false (nat_lt l m), and-false (nat_lt m l))

pub all_follow : (l : ℕ) (w : List ℕ) → list_all (λ q. may_follow (put l) q) (in_one_cell w) ≡ true
all_follow l [] = refl
all_follow l (m ∷ w) = and_from (may_follow (put l) (put m)) (list_all (λ q. may_follow (put l) q) (in_one_cell w)) (follows_in_one_cell l m) (all_follow l w)

pub consistent_in_one_cell : (w : List ℕ) → is_consistent (in_one_cell w) ≡ true
consistent_in_one_cell [] = refl
consistent_in_one_cell (l ∷ w) = and_from (list_all (λ q. may_follow (put l) q) (in_one_cell w)) (is_consistent (in_one_cell w)) (all_follow l w) (consistent_in_one_cell w)

pub perm_of_gridded : (w h n : ℕ) (g : List Point) → IsGriddedOf w h n g → IsPermutationOf n (letters_of g)
perm_of_gridded w h n g k = record { as_long = length-map g letter_of ∙ k.as_long; below = k.below; distinct = k.distinct }

in_that_cell : (w : List ℕ) → AllByRecursion (λ c. IsCellOf 1 1 c) (cells_of (in_one_cell w))
in_that_cell [] = tt
in_that_cell (l ∷ w) = ((omega arith, omega arith), in_that_cell w)

gridded_of_perm : (n : ℕ) (w : List ℕ) → IsPermutationOf n w → IsGriddedOf 1 1 n (in_one_cell w)
gridded_of_perm n w k = record {
  as_long = length-map w put ∙ k.as_long;
  below = rw (letters_in_one_cell w) k.below;
  distinct = ap has_no_repeats (letters_in_one_cell w) ∙ k.distinct;
  consistent = consistent_in_one_cell w;
  in_grid = in_that_cell w;
}

pub root_counts_avoiders : RootCountsAvoiders
root_counts_avoiders basis n =
    length-from_inverse letters_of in_one_cell (NoRepeats-members (root_of basis) n) (NoRepeats-filter (λ w. avoids basis w) (NoRepeats-all_perms n)) there home
  where
    there : (g : List Point) → IsIn g (members (root_of basis) n) → IsIn (letters_of g) (filter (λ w. avoids basis w) (all_perms n)) × (in_one_cell (letters_of g) ≡ g)
    there g m =
        let k = listed_is_member (root_of basis) n g m in
        let same = all_in_one_cell g k.gridded.in_grid in
        let tested : avoids basis (letters_of g) ≡ true = sym (root_members basis (letters_of g)) ∙ ap (λ h. is_member (root_of basis) h) same ∙ (is_member_decides (root_of basis) g).1 k.member in
        (IsIn-filter (λ w. avoids basis w) (perm_is_listed n (letters_of g) (perm_of_gridded 1 1 n g k.gridded)) tested, same)

    home : (w : List ℕ) → IsIn w (filter (λ v. avoids basis v) (all_perms n)) → IsIn (in_one_cell w) (members (root_of basis) n) × (letters_of (in_one_cell w) ≡ w)
    home w m =
        let a = from_IsIn-filter (λ v. avoids basis v) (all_perms n) m in
        let k : MemberOf (root_of basis) n (in_one_cell w) = record { gridded = gridded_of_perm n w (listed_is_perm n w a.0); member = (is_member_decides (root_of basis) (in_one_cell w)).0 (root_members basis w ∙ a.1) } in
        (member_is_listed (root_of basis) n (in_one_cell w) k, letters_in_one_cell w)
