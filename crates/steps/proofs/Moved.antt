-- Moving cells by a map that keeps their order in both directions keeps everything about patterns.
use Rattle.std.proofs.Common.{◌≡◌, ℕ, Bool, true, List, [], ◌∷◌, ◌++◌, refl, sym, ap, ◌∙◌, arith}
use Rattle.std.specs.Prelude.{◌&&◌, ◌==◌, not, map, nat_lt, nat_le}
use Rattle.std.specs.List.{list_all}
use Rattle.std.proofs.lemmas.Bool.Decides.{nat_tests}
use Rattle.std.proofs.lemmas.List.{map_push}
use Rattle.lists.specs.Members.IsIn.{here, later}
use Rattle.lists.specs.Members.{IsIn}
use Rattle.patterns.specs.Occurs.{stands_as, stand_alike}
use Rattle.patterns.specs.Search.{is_found}
use Rattle.patterns.proofs.Searches.{found_from_start}
use Rattle.gridded.specs.declared.cell.Cell.{Cell}
use Rattle.gridded.specs.Grids.{Point, same_cell, letter_of, may_follow, is_consistent, is_gridded, holds}
use Rattle.gridded.specs.Orders.{letters_of}
use Rattle.gridded.specs.Moved.{move_cells}
use Rattle.gridded.proofs.Moved.{letters_moved}

pub eq_by_lt : (a b : ℕ) → (a == b) ≡ (not (nat_lt a b) && not (nat_lt b a))
eq_by_lt a b = grind (arith, nat_tests)

le_by_lt : (a b : ℕ) → nat_le a b ≡ not (nat_lt b a)
le_by_lt a b = grind (arith, nat_tests)

-- cells that pass a test stand to each other as before, in both directions
pub record KeepsOrder (f : Cell → Cell) (ok : Cell → Bool) : Type 0 where
  pub columns : (c d : Cell) → ok c ≡ true → ok d ≡ true → nat_lt (f c).x (f d).x ≡ nat_lt c.x d.x
  pub rows : (c d : Cell) → ok c ≡ true → ok d ≡ true → nat_lt (f c).y (f d).y ≡ nat_lt c.y d.y

module _ (f : Cell → Cell) (ok : Cell → Bool) (keeps : KeepsOrder f ok) where
  abbrev moved : Point → Point
  moved p = record { letter = p.letter; cell = f p.cell }

  -- every point lies in such a cell
  abbrev pub AllOk : List Point → Type 0
  AllOk g = (p : Point) → IsIn p g → ok p.cell ≡ true

  same_cell-moved : (p q : Point) → ok p.cell ≡ true → ok q.cell ≡ true → same_cell (moved p) (moved q) ≡ same_cell p q
  same_cell-moved p q h k =
      let c = p.cell in
      let d = q.cell in
      rw (eq_by_lt (f c).x (f d).x, eq_by_lt (f c).y (f d).y, keeps.columns c d h k, keeps.columns d c k h, keeps.rows c d h k, keeps.rows d c k h, ← eq_by_lt c.x d.x, ← eq_by_lt c.y d.y)

  may_follow-moved : (p q : Point) → ok p.cell ≡ true → ok q.cell ≡ true → may_follow (moved p) (moved q) ≡ may_follow p q
  may_follow-moved p q h k =
      let c = p.cell in
      let d = q.cell in
      rw (le_by_lt (f c).x (f d).x, keeps.columns d c k h, keeps.rows c d h k, keeps.rows d c k h, ← le_by_lt c.x d.x)

  all_follow-moved : (p : Point) (g : List Point) → ok p.cell ≡ true → AllOk g → list_all (λ q. may_follow (moved p) q) (map moved g) ≡ list_all (λ q. may_follow p q) g
  all_follow-moved p [] h k = refl
  all_follow-moved p (q ∷ g) h k = rw (may_follow-moved p q h (k q here), all_follow-moved p g h (λ r m. k r (later q m)))

  consistent-moved : (g : List Point) → AllOk g → is_consistent (map moved g) ≡ is_consistent g
  consistent-moved [] k = refl
  consistent-moved (p ∷ g) k = rw (all_follow-moved p g (k p here) (λ r m. k r (later p m)), consistent-moved g (λ r m. k r (later p m)))

  pub gridded-moved : (g : List Point) → AllOk g → is_gridded (move_cells f g) ≡ is_gridded g
  gridded-moved g k = rw (letters_moved f g, consistent-moved g k)

  stands_as-moved : (x a : Point) (xs ys : List Point) → stands_as letter_of same_cell (moved x) (moved a) (map moved xs) (map moved ys) ≡ stands_as letter_of same_cell x a xs ys
  stands_as-moved x a [] [] = refl
  stands_as-moved x a [] (b ∷ ys) = refl
  stands_as-moved x a (y ∷ xs) [] = refl
  stands_as-moved x a (y ∷ xs) (b ∷ ys) = ap (λ t. stand_alike x.letter a.letter y.letter b.letter && t) (stands_as-moved x a xs ys)

  is_found-moved : (xs ys w p : List Point) → AllOk w → AllOk p → is_found letter_of same_cell (map moved xs) (map moved ys) (map moved w) (map moved p) ≡ is_found letter_of same_cell xs ys w p
  is_found-moved xs ys w [] h k = refl
  is_found-moved xs ys [] (b ∷ p) h k = refl
  is_found-moved xs ys (x ∷ w) (b ∷ p) h k =
      let first = is_found-moved (xs ++ x ∷ []) (ys ++ b ∷ []) w p (λ r m. h r (later x m)) (λ r m. k r (later b m)) in
      let one : is_found letter_of same_cell (map moved xs ++ moved x ∷ []) (map moved ys ++ moved b ∷ []) (map moved w) (map moved p) ≡ is_found letter_of same_cell (xs ++ x ∷ []) (ys ++ b ∷ []) w p =
      rw (← map_push moved xs x, ← map_push moved ys b) first in
      rw (same_cell-moved x b (h x here) (k b here), stands_as-moved x b xs ys, one, is_found-moved xs ys w (b ∷ p) (λ r m. h r (later x m)) k)

  pub holds-moved : (g p : List Point) → AllOk g → AllOk p → holds (move_cells f g) (move_cells f p) ≡ holds g p
  holds-moved g p h k =
      sym (found_from_start letter_of same_cell (map moved g) (map moved p)) ∙ is_found-moved [] [] g p h k ∙ found_from_start letter_of same_cell g p
