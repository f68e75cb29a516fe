-- The search decides whether there is a member, and whether one holds a pattern.
use Rattle.std.proofs.Common.{◌≡◌, ℕ, zero, suc, ◌+◌, ◌<◌, Bool, true, false, List, [], ◌∷◌, length, refl, sym, ◌∙◌, subst, arith}
use Rattle.std.specs.Prelude.{◌&&◌, ◌↔◌, not, map, nat_lt, Decides, IsTrue}
use Rattle.std.specs.List.{filter, list_all, list_any, AllByRecursion, range_with_len}
use Rattle.std.proofs.lemmas.Bool.Decides.{nat_tests}
use Rattle.std.proofs.lemmas.Bool.{false_from_ne_true as false_from, and_parts as and_true, and_from as both_true}
use Rattle.lists.specs.Members.IsIn.{here}
use Rattle.patterns.specs.Words.{has_no_repeats}
use Rattle.gridded.specs.declared.cell.Cell.{Cell}
use Rattle.gridded.specs.Grids.{Point, letter_of, cells_in, points_in, gridded_of, is_gridded, is_consistent, IsGridded, holds, same_cell}
use Rattle.gridded.specs.Orders.{cells_of}
use Rattle.tiling_core.specs.Tiles.{Tiles, is_member, count}
use Rattle.gridded.specs.Places.{fits_grid}
use Rattle.tiling_core.specs.Measures.{weight}
use Rattle.emptiness.specs.Emptiness.{IsEmpty, ShortLength, MembersWithinWeight, IsHeldByMember}
use Rattle.emptiness.specs.Glueing.{reaches}
use Rattle.emptiness.proofs.Inserted.{IsPlaced, placed}
use Rattle.emptiness.proofs.Complete.{reached-from_member}
use Rattle.lists.proofs.Tests.{which_passes, some_passes, each_passes, all_pass}
use Rattle.lists.specs.Members.{IsIn}
use Rattle.lists.specs.Words.{words}
use Rattle.lists.proofs.Members.{IsIn-map, IsIn-filter, from_IsIn-filter, IsIn-flat_map}
use Rattle.lists.proofs.Words.{IsIn-words}
use Rattle.lists.proofs.Ranges.{in_range_with_len}
use Rattle.tiling_core.proofs.Deciding.{not_held as not_both}
use Rattle.emptiness.proofs.Sound.{reaches-sound, Found}
use Rattle.gridded.proofs.Holding.{Holds-trans}
use Rattle.emptiness.proofs.Held.{reached-from_held}
use Rattle.patterns.proofs.Occurrences.{occurs_decides}

in-cells : (w h : ℕ) (c : Cell) → (nat_lt c.x w && nat_lt c.y h) ≡ true → IsIn c (cells_in w h)
in-cells w h c e =
    let k = and_true (nat_lt c.x w) (nat_lt c.y h) e in
    IsIn-flat_map (λ (x : ℕ). map (λ y. record { x = x; y = y }) (range_with_len 0 h)) (in_range_with_len 0 w c.x (omega arith) (below c.x w k.0))
    (IsIn-map {Y = Cell} (λ y. record { x = c.x; y = y }) (in_range_with_len 0 h c.y (omega arith) (below c.y h k.1)))
  where
    below : (a b : ℕ) → nat_lt a b ≡ true → a < 0 + b
    below a b f = grind (arith, nat_tests)

in-points : (w h n : ℕ) (p : Point) → p.letter < n → (nat_lt p.cell.x w && nat_lt p.cell.y h) ≡ true → IsIn p (points_in w h n)
in-points w h n p l e =
    IsIn-flat_map (λ (letter : ℕ). map (λ cell. record { letter = letter; cell = cell }) (cells_in w h)) (in_range_with_len 0 n p.letter (omega arith) (omega arith))
    (IsIn-map {Y = Point} (λ cell. record { letter = p.letter; cell = cell }) (in-cells w h p.cell e))

all-in-points : (w h n : ℕ) (g : List Point) → AllByRecursion (λ (p : Point). p.letter < n) g → fits_grid w h g ≡ true → AllByRecursion (λ p. IsIn p (points_in w h n)) g
all-in-points w h n [] b e = tt
all-in-points w h n (p ∷ g) b e =
    let k = and_true (nat_lt p.cell.x w && nat_lt p.cell.y h) (list_all (λ c. nat_lt c.x w && nat_lt c.y h) (cells_of g)) e in
    (in-points w h n p b.0 k.0, all-in-points w h n g b.1 k.1)

-- what is placed in the grid is listed
pub placed-listed : (w h : ℕ) (g : List Point) → IsPlaced g → fits_grid w h g ≡ true → IsIn g (gridded_of w h (length g))
placed-listed w h g k e =
    IsIn-filter is_gridded (IsIn-words (points_in w h (length g)) g (all-in-points w h (length g) g k.below e))
    (both_true (has_no_repeats (map letter_of g)) (is_consistent g) k.distinct k.consistent)

pub listed-gridded : (w h n : ℕ) (g : List Point) → IsIn g (gridded_of w h n) → is_gridded g ≡ true
listed-gridded w h n g m = (from_IsIn-filter is_gridded (words (points_in w h n) n) m).1

nothing-placed : IsPlaced []
nothing-placed = record { below = tt; distinct = refl; consistent = refl }

counted-from : (t : Tiles) (g : List Point) → IsIn g (gridded_of t.width t.height (length g)) → is_member t g ≡ true → 0 < count t (length g)
counted-from t g m e = some (filter (λ h. is_member t h) (gridded_of t.width t.height (length g))) (IsIn-filter (λ h. is_member t h) m e)
  where
    some : (xs : List (List Point)) → IsIn g xs → 0 < length xs
    some [] k = elim k [ ]
    some (x ∷ xs) k = omega arith

abbrev Counted : Tiles → ℕ → Type 0
Counted t n = (g : List Point) × IsIn g (gridded_of t.width t.height n) × (is_member t g ≡ true)

counted-has : (t : Tiles) (n : ℕ) → 0 < count t n → Counted t n
counted-has t n h = go (filter (λ g. is_member t g) (gridded_of t.width t.height n)) refl h
  where
    go : (xs : List (List Point)) → filter (λ g. is_member t g) (gridded_of t.width t.height n) ≡ xs → 0 < length xs → Counted t n
    go [] e k = absurd (omega arith)
    go (x ∷ xs) e k =
        let m = from_IsIn-filter (λ g. is_member t g) (gridded_of t.width t.height n) (subst (λ ys. IsIn x ys) (sym e) here) in
        (x, m.0, m.1)

found-counted : (t : Tiles) (g : List Point) (n : ℕ) → Found t g n → ShortLength t n
found-counted t g n f =
    let fits = (and_true (fits_grid t.width t.height f.found) _ f.belongs).0 in
    record { size = length f.found; short = f.short; counted = counted-from t f.found (placed-listed t.width t.height f.found f.placed fits) f.belongs }

pub reached-from_count : (t : Tiles) (n : ℕ) → 0 < count t n → reaches t t.requirements [] ≡ true
reached-from_count t n h =
    let m = counted-has t n h in
    reached-from_member t m.0 (listed-gridded t.width t.height n m.0 m.1) m.2

pub members_within_weight : MembersWithinWeight
members_within_weight t n h =
    let f = reaches-sound t t.requirements [] nothing-placed (reached-from_count t n h) in
    let s = found-counted t [] (0 + weight t) f in
    record { size = s.size; short = omega (arith, s.short); counted = s.counted }

-- nothing is reached exactly where there is no member
pub empty_decides : (t : Tiles) → (reaches t t.requirements [] ≡ false → IsEmpty t) × (IsEmpty t → reaches t t.requirements [] ≡ false)
empty_decides t = (
  (λ e n. none (count t n) (λ h. let k = reached-from_count t n h in absurd cc)),
  (λ empty. false_from (reaches t t.requirements []) (λ e. let s = found-counted t [] _ (reaches-sound t t.requirements [] nothing-placed e) in
      let z = empty s.size in omega (arith, s.counted))),
)
  where
    none : (n : ℕ) → (0 < n → ⊥) → n ≡ 0
    none zero h = refl
    none (suc n) h = absurd (h (omega arith))

-- a member is reached from a pattern exactly where one holds it
pub held_decides : (t : Tiles) (p : List Point) → IsGridded p → Decides (reaches t t.requirements p) (IsHeldByMember t p)
held_decides t p k = (
  (λ e. let g = reaches-sound t t.requirements p (placed p k) e in
      let fits = (and_true (fits_grid t.width t.height g.found) _ g.belongs).0 in
      record { size = length g.found; member = g.found; listed = placed-listed t.width t.height g.found g.placed fits; belongs = g.belongs; held = g.held }),
  (λ h. reached-from_held t h.member p (listed-gridded t.width t.height h.size h.member h.listed) h.belongs k h.held),
)

-- where the empty pattern holds an obstruction, nothing is reached
pub nothing_reached : (t : Tiles) → list_any (λ p. holds [] p) t.obstructions ≡ true → reaches t t.requirements [] ≡ false
nothing_reached t e = false_from (reaches t t.requirements []) (λ r.
    let f = reaches-sound t t.requirements [] nothing-placed r in
    let w = which_passes (λ p. holds [] p) t.obstructions e in
    let long = (occurs_decides letter_of same_cell f.found w.0).1 (Holds-trans f.found [] w.0 f.held ((occurs_decides letter_of same_cell [] w.0).0 w.2)) in
    let avoided = (and_true (list_all (λ p. not (holds f.found p)) t.obstructions) _ (and_true (fits_grid t.width t.height f.found) _ f.belongs).1).0 in
    not_both (holds f.found w.0) (each_passes (λ p. not (holds f.found p)) avoided w.1) long)

pub empty_answer : (t : Tiles) (r : Bool) → r ≡ reaches t t.requirements [] → IsTrue (not r) ↔ IsEmpty t
empty_answer t r e = (
  (λ h. (empty_decides t).0 (sym e ∙ none r h)),
  (λ h. some r (e ∙ (empty_decides t).1 h)),
)
  where
    none : (b : Bool) → IsTrue (not b) → b ≡ false
    none true k = cc
    none false k = refl

    some : (b : Bool) → b ≡ false → IsTrue (not b)
    some true k = absurd cc
    some false k = refl
