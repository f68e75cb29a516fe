-- What moving cells keeps: letters, lengths, and with consistent cells all of a gridded permutation.
use Rattle.std.proofs.Common.{◌≡◌, ◌<◌, ℕ, Bool, true, false, List, [], ◌∷◌, length, refl, sym, ap, ◌∙◌, subst}
use Rattle.std.specs.Prelude.{map, All, IsTrue}
use Rattle.std.specs.List.{AllByRecursion}
use Rattle.std.proofs.lemmas.List.{length-map}
use Rattle.std.proofs.lemmas.List.Elements.{All-map}
use Rattle.lists.specs.Members.IsIn.{here, later}
use Rattle.lists.specs.Members.{IsIn}
use Rattle.patterns.specs.Words.{has_no_repeats}
use Rattle.gridded.specs.declared.cell.Cell.{Cell}
use Rattle.gridded.specs.Grids.{Point, points, is_consistent, IsGridded}
use Rattle.gridded.specs.Orders.{letters_of, cells_of}
use Rattle.gridded.specs.Laws.{IsCellOf, IsGriddedOf}
use Rattle.gridded.specs.Moved.{relocated, moved, move_cells}

pub letters_relocated : (place : Point → Cell) (g : List Point) → letters_of (map (relocated place) g) ≡ letters_of g
letters_relocated place [] = refl
letters_relocated place (p ∷ g) = ap (λ ls. p.letter ∷ ls) (letters_relocated place g)

pub letters_moved : (f : Cell → Cell) (g : List Point) → letters_of (move_cells f g) ≡ letters_of g
letters_moved f g = letters_relocated (λ p. f p.cell) g

pub length-moved : (f : Cell → Cell) (g : List Point) → length (move_cells f g) ≡ length g
length-moved f g = length-map g (moved f)

-- the same letters over other cells
pub points-moved : (f : Cell → Cell) (g : List Point) → points (letters_of g) (map f (cells_of g)) ≡ move_cells f g
points-moved f [] = refl
points-moved f (p ∷ g) = ap (λ rest. moved f p ∷ rest) (points-moved f g)

pub so_is_true : (b : Bool) → b ≡ true → IsTrue b
so_is_true true e = refl
so_is_true false e = e

pub IsGridded-moved : (f : Cell → Cell) (g : List Point) → IsGridded g → is_consistent (move_cells f g) ≡ true → IsGridded (move_cells f g)
IsGridded-moved f g h e =
    let n = length-moved f g in
    record {
      short = rw n h.short;
      below = subst (λ k. All (λ (p : Point). p.letter < k) (move_cells f g)) (sym n) (All-map (λ (p : Point). p.letter < length g) (moved f) g h.below);
      distinct = rw (letters_moved f g) h.distinct;
      consistent = so_is_true _ e;
    }

-- each cell of each point lies in the grid
pub cells_inside : (w h : ℕ) (g : List Point) → ((p : Point) → IsIn p g → IsCellOf w h p.cell) → AllByRecursion (λ c. IsCellOf w h c) (cells_of g)
cells_inside w h [] f = tt
cells_inside w h (p ∷ g) f = (f p here, cells_inside w h g (λ q m. f q (later p m)))

pub IsGriddedOf-moved : (f : Cell → Cell) (g : List Point) (w h n new_w new_h : ℕ) → IsGriddedOf w h n g → is_consistent (move_cells f g) ≡ true → AllByRecursion (λ c. IsCellOf new_w new_h c) (cells_of (move_cells f g)) → IsGriddedOf new_w new_h n (move_cells f g)
IsGriddedOf-moved f g w h n new_w new_h k e inside = record {
  as_long = length-moved f g ∙ k.as_long;
  below = subst (λ ls. AllByRecursion (λ l. l < n) ls) (sym (letters_moved f g)) k.below;
  distinct = ap has_no_repeats (letters_moved f g) ∙ k.distinct;
  consistent = e;
  in_grid = inside;
}

-- the cell of a point lies in the grid where each cell does
pub cell_inside : (w h : ℕ) (g : List Point) → AllByRecursion (λ c. IsCellOf w h c) (cells_of g) → (q : Point) → IsIn q g → IsCellOf w h q.cell
cell_inside w h [] k q i = elim i [ ]
cell_inside w h (x ∷ g) k _ here = k.0
cell_inside w h (x ∷ g) k q (later _ i) = cell_inside w h g k.1 q i

-- the points of a gridded permutation lie in its grid
pub cell_in : (w h n : ℕ) {g : List Point} {p : Point} → IsGriddedOf w h n g → IsIn p g → IsCellOf w h p.cell
cell_in w h n {g} {p} k m = cell_inside w h g k.in_grid p m

-- points that are put into cells of the grid lie in it
pub relocated_inside : (w h : ℕ) (F : Point → Cell) (g : List Point) → ((q : Point) → IsIn q g → IsCellOf w h (F q)) → AllByRecursion (λ c. IsCellOf w h c) (cells_of (map (relocated F) g))
relocated_inside w h F [] k = tt
relocated_inside w h F (x ∷ g) k = (k x here, relocated_inside w h F g (λ q i. k q (later x i)))
