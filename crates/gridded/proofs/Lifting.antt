-- What is held after cells are moved: the same letters in the cells where they came from, and back.
use Rattle.std.proofs.Common.{◌≡◌, ℕ, true, List, [], ◌∷◌, refl, ap, subst}
use Rattle.std.specs.Prelude.{◌&&◌, nat_lt}
use Rattle.std.specs.List.{list_all}
use Rattle.std.proofs.lemmas.Bool.{and_parts, and_from}
use Rattle.lists.specs.Parts.IsPart.{none, kept, left_out}
use Rattle.lists.specs.Parts.{IsPart}
use Rattle.lists.proofs.Parts.{IsPart-map, from_IsPart-map}
use Rattle.patterns.specs.Occurs.{stand_alike, stands_as}
use Rattle.gridded.specs.declared.cell.Cell.{Cell}
use Rattle.gridded.specs.Grids.{Point, same_cell, may_follow, is_consistent, letter_of, Holds}
use Rattle.gridded.specs.Places.{fits_grid}
use Rattle.gridded.specs.Moved.{moved, move_cells}
use Rattle.gridded.proofs.Consistent.{follows_alike, consistent_part}
use Rattle.gridded.proofs.Holding.{fits, Holds-fits, fits_held, same_cell_tells, same_cell_from}

-- the letters of p in the cells of c
abbrev pub lifted : List Point → List Point → List Point
lifted [] p = []
lifted (x ∷ c) [] = []
lifted (x ∷ c) (a ∷ p) = record { letter = a.letter; cell = x.cell } ∷ lifted c p

stands_lifted : (f : Cell → Cell) (x a : Point) (u : Cell) (c p : List Point) → stands_as letter_of same_cell (moved f x) a (move_cells f c) p ≡ true → stands_as letter_of same_cell x (record { letter = a.letter; cell = u }) c (lifted c p) ≡ true
stands_lifted f x a u [] [] e = refl
stands_lifted f x a u [] (b ∷ p) e = absurd cc
stands_lifted f x a u (y ∷ c) [] e = absurd cc
stands_lifted f x a u (y ∷ c) (b ∷ p) e =
    let k = and_parts (stand_alike x.letter a.letter y.letter b.letter) (stands_as letter_of same_cell (moved f x) a (move_cells f c) p) e in
    and_from (stand_alike x.letter a.letter y.letter b.letter) (stands_as letter_of same_cell x (record { letter = a.letter; cell = u }) c (lifted c p)) k.0 (stands_lifted f x a u c p k.1)

pub fits-lifted : (f : Cell → Cell) (c p : List Point) → fits (move_cells f c) p ≡ true → fits c (lifted c p) ≡ true
fits-lifted f [] [] e = refl
fits-lifted f [] (b ∷ p) e = absurd cc
fits-lifted f (x ∷ c) [] e = absurd cc
fits-lifted f (x ∷ c) (a ∷ p) e =
    let k = and_parts (same_cell (moved f x) a) (stands_as letter_of same_cell (moved f x) a (move_cells f c) p && fits (move_cells f c) p) e in
    let l = and_parts (stands_as letter_of same_cell (moved f x) a (move_cells f c) p) (fits (move_cells f c) p) k.1 in
    and_from _ _ (same_cell_from x x refl) (and_from _ _ (stands_lifted f x a x.cell c p l.0) (fits-lifted f c p l.1))

pub moved-lifted : (f : Cell → Cell) (c p : List Point) → fits (move_cells f c) p ≡ true → move_cells f (lifted c p) ≡ p
moved-lifted f [] [] e = refl
moved-lifted f [] (b ∷ p) e = absurd cc
moved-lifted f (x ∷ c) [] e = absurd cc
moved-lifted f (x ∷ c) (a ∷ p) e =
    let k = and_parts (same_cell (moved f x) a) (stands_as letter_of same_cell (moved f x) a (move_cells f c) p && fits (move_cells f c) p) e in
    let l = and_parts (stands_as letter_of same_cell (moved f x) a (move_cells f c) p) (fits (move_cells f c) p) k.1 in
    let there = same_cell_tells (moved f x) a k.0 in
    let rest = moved-lifted f c p l.1 in
    λ i. record { letter = a.letter; cell = there i } ∷ rest i

-- ---- consistency
all_follow : (f : Cell → Cell) (x a : Point) (c p : List Point) → stands_as letter_of same_cell (moved f x) a (move_cells f c) p ≡ true → list_all (λ y. may_follow x y) c ≡ true → list_all (λ q. may_follow (record { letter = a.letter; cell = x.cell }) q) (lifted c p) ≡ true
all_follow f x a [] p e h = refl
all_follow f x a (y ∷ c) [] e h = absurd cc
all_follow f x a (y ∷ c) (b ∷ p) e h =
    let k = and_parts (stand_alike x.letter a.letter y.letter b.letter) (stands_as letter_of same_cell (moved f x) a (move_cells f c) p) e in
    let l = and_parts (may_follow x y) (list_all (λ z. may_follow x z) c) h in
    and_from _ _ (follows_alike x y a.letter b.letter k.0 l.0) (all_follow f x a c p k.1 l.1)

pub consistent-lifted : (f : Cell → Cell) (c p : List Point) → fits (move_cells f c) p ≡ true → is_consistent c ≡ true → is_consistent (lifted c p) ≡ true
consistent-lifted f [] p e h = refl
consistent-lifted f (x ∷ c) [] e h = absurd cc
consistent-lifted f (x ∷ c) (a ∷ p) e h =
    let k = and_parts (same_cell (moved f x) a) (stands_as letter_of same_cell (moved f x) a (move_cells f c) p && fits (move_cells f c) p) e in
    let l = and_parts (stands_as letter_of same_cell (moved f x) a (move_cells f c) p) (fits (move_cells f c) p) k.1 in
    let m = and_parts (list_all (λ y. may_follow x y) c) (is_consistent c) h in
    and_from _ _ (all_follow f x a c p l.0 m.0) (consistent-lifted f c p l.1 m.1)

-- ---- cells
pub lifted_fits : (w h : ℕ) (c p : List Point) → fits_grid w h c ≡ true → fits_grid w h (lifted c p) ≡ true
lifted_fits w h [] p e = refl
lifted_fits w h (x ∷ c) [] e = refl
lifted_fits w h (x ∷ c) (a ∷ p) e = let k = and_parts (nat_lt x.cell.x w && nat_lt x.cell.y h) (fits_grid w h c) e in and_from _ _ k.0 (lifted_fits w h c p k.1)

pub part_fits : (w h : ℕ) {c g : List Point} → IsPart c g → fits_grid w h g ≡ true → fits_grid w h c ≡ true
part_fits w h none e = e
part_fits w h (kept {part} {whole} x k) e = let m = and_parts (nat_lt x.cell.x w && nat_lt x.cell.y h) (fits_grid w h whole) e in and_from _ _ m.0 (part_fits w h k m.1)
part_fits w h (left_out {whole = whole} x k) e = part_fits w h k (and_parts (nat_lt x.cell.x w && nat_lt x.cell.y h) (fits_grid w h whole) e).1

-- ---- what is moved as a whole
stands_moved : (f : Cell → Cell) (x a : Point) (c p : List Point) → stands_as letter_of same_cell x a c p ≡ true → stands_as letter_of same_cell (moved f x) (moved f a) (move_cells f c) (move_cells f p) ≡ true
stands_moved f x a [] [] e = refl
stands_moved f x a [] (b ∷ p) e = absurd cc
stands_moved f x a (y ∷ c) [] e = absurd cc
stands_moved f x a (y ∷ c) (b ∷ p) e =
    let k = and_parts (stand_alike x.letter a.letter y.letter b.letter) (stands_as letter_of same_cell x a c p) e in
    and_from _ _ k.0 (stands_moved f x a c p k.1)

same_cell_moved : (f : Cell → Cell) (x a : Point) → same_cell x a ≡ true → same_cell (moved f x) (moved f a) ≡ true
same_cell_moved f x a e = same_cell_from (moved f x) (moved f a) (ap f (same_cell_tells x a e))

pub fits_moved : (f : Cell → Cell) (c p : List Point) → fits c p ≡ true → fits (move_cells f c) (move_cells f p) ≡ true
fits_moved f [] [] e = refl
fits_moved f [] (b ∷ p) e = absurd cc
fits_moved f (x ∷ c) [] e = absurd cc
fits_moved f (x ∷ c) (a ∷ p) e =
    let k = and_parts (same_cell x a) (stands_as letter_of same_cell x a c p && fits c p) e in
    let l = and_parts (stands_as letter_of same_cell x a c p) (fits c p) k.1 in
    and_from _ _ (same_cell_moved f x a k.0) (and_from _ _ (stands_moved f x a c p l.0) (fits_moved f c p l.1))

pub Holds-moved : (f : Cell → Cell) (h q : List Point) → Holds h q → Holds (move_cells f h) (move_cells f q)
Holds-moved f h q held = Holds-fits (IsPart-map (moved f) held.chosen) (fits_moved f held.points q (fits_held held))

-- ---- from what is held after a move to what was held before
-- a pattern that is held, and becomes p
pub record IsLifted (f : Cell → Cell) (h p pattern : List Point) : Type 0 where
  pub moves : move_cells f pattern ≡ p
  pub held : Holds h pattern
  pub consistent : is_consistent pattern ≡ true
  pub inside : (w n : ℕ) → fits_grid w n h ≡ true → fits_grid w n pattern ≡ true

pub lifted_held : (f : Cell → Cell) (h p : List Point) → is_consistent h ≡ true → Holds (move_cells f h) p → (pattern : List Point) × IsLifted f h p pattern
lifted_held f h p c held =
    let part = from_IsPart-map (moved f) h held.chosen in
    let fit : fits (move_cells f part.0) p ≡ true = subst (λ (points : List Point). fits points p ≡ true) part.2 (fits_held held) in (
      lifted part.0 p,
      record {
        moves = moved-lifted f part.0 p fit;
        held = Holds-fits part.1 (fits-lifted f part.0 p fit);
        consistent = consistent-lifted f part.0 p fit (consistent_part part.1 c);
        inside = λ w n i. lifted_fits w n part.0 p (part_fits w n part.1 i);
      },
    )
