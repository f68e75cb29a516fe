-- What the collapse keeps: it moves no line past another.
use Rattle.std.proofs.Common.{◌≡◌, ℕ, ◌+◌, ◌<◌, ◌≤◌, Bool, true, false, List, [], ◌∷◌, length, get_or, set, take, refl, sym, ap, ◌∙◌, arith}
use Rattle.std.specs.Prelude.{◌&&◌, not, nat_lt, nat_le}
use Rattle.std.specs.List.{list_all}
use Rattle.std.proofs.lemmas.Bool.Decides.{nat_tests}
use Rattle.std.proofs.lemmas.List.{length-map, take_more, take_more_set, map-append}
use Rattle.std.proofs.lemmas.Bool.{and_parts, and_from}
use Rattle.gridded.specs.declared.cell.Cell.{Cell}
use Rattle.gridded.specs.Grids.{Point, letter_of, may_follow, is_consistent, IsGridded, FitTogether}
use Rattle.gridded.specs.Orders.{letters_of, cells_of}
use Rattle.coord_maps.specs.LineMaps.{Cut, old_line}
use Rattle.coord_maps.specs.GridMaps.{old_cell, old_cells, collapse}
use Rattle.gridded.specs.Moved.{moved, move_cells}
use Rattle.gridded.proofs.Moved.{points-moved, IsGridded-moved}
use Rattle.gridded.proofs.Holding.{is_true}
use Rattle.coord_maps.specs.declared.grid_map.GridMap.{GridMap}

old_line_rises : (m : Cut) (a b : ℕ) → a ≤ b → old_line m a ≤ old_line m b
old_line_rises m a b h = grind (arith, nat_tests)

-- a line map keeps the order of lines, but may join some
record KeepsOrder (f : Cell → Cell) : Type 0 where
  columns : (c d : Cell) → nat_le c.x d.x ≡ true → nat_le (f c).x (f d).x ≡ true
  rows : (c d : Cell) → nat_lt (f c).y (f d).y ≡ true → nat_lt c.y d.y ≡ true

old_cell_keeps : (m : GridMap) → KeepsOrder (old_cell m)
old_cell_keeps m = record {
  columns = λ c d e. let h = old_line_rises m.columns c.x d.x in grind (arith, nat_tests);
  rows = λ c d e. let h = old_line_rises m.rows d.y c.y in grind (arith, nat_tests);
}

module _ (f : Cell → Cell) (k : KeepsOrder f) where
  never : (u v w : Bool) → (w ≡ true → v ≡ true) → not (u && v) ≡ true → not (u && w) ≡ true
  never false v w i e = refl
  never true v false i e = refl
  never true v true i e = absurd (let t : v ≡ true = i refl in let n : not v ≡ true = e in let c : not true ≡ true = rw t at n in cc)

  follows_moved : (p q : Point) → may_follow p q ≡ true → may_follow (moved f p) (moved f q) ≡ true
  follows_moved p q e =
      let a = and_parts (nat_le p.cell.x q.cell.x) (not (nat_lt p.letter q.letter && nat_lt q.cell.y p.cell.y) && not (nat_lt q.letter p.letter && nat_lt p.cell.y q.cell.y)) e in
      let b = and_parts (not (nat_lt p.letter q.letter && nat_lt q.cell.y p.cell.y)) (not (nat_lt q.letter p.letter && nat_lt p.cell.y q.cell.y)) a.1 in
      and_from _ _ (k.columns p.cell q.cell a.0) (and_from _ _
      (never (nat_lt p.letter q.letter) (nat_lt q.cell.y p.cell.y) (nat_lt (f q.cell).y (f p.cell).y) (k.rows q.cell p.cell) b.0)
      (never (nat_lt q.letter p.letter) (nat_lt p.cell.y q.cell.y) (nat_lt (f p.cell).y (f q.cell).y) (k.rows p.cell q.cell) b.1))

  all_follow_moved : (p : Point) (g : List Point) → list_all (λ q. may_follow p q) g ≡ true → list_all (λ q. may_follow (moved f p) q) (move_cells f g) ≡ true
  all_follow_moved p [] e = refl
  all_follow_moved p (q ∷ g) e = let a = and_parts (may_follow p q) (list_all (λ r. may_follow p r) g) e in and_from _ _ (follows_moved p q a.0) (all_follow_moved p g a.1)

  consistent_moved : (g : List Point) → is_consistent g ≡ true → is_consistent (move_cells f g) ≡ true
  consistent_moved [] e = refl
  consistent_moved (p ∷ g) e = let a = and_parts (list_all (λ q. may_follow p q) g) (is_consistent g) e in and_from _ _ (all_follow_moved p g a.0) (consistent_moved g a.1)

pub consistent_collapse : (m : GridMap) (g : List Point) → is_consistent g ≡ true → is_consistent (collapse m g) ≡ true
consistent_collapse m g e = consistent_moved (old_cell m) (old_cell_keeps m) g e

pub collapsed_together : (m : GridMap) (g : List Point) → IsGridded g → FitTogether (letters_of g) (old_cells m (cells_of g))
collapsed_together m g h = record {
  as_many = length-map g letter_of ∙ sym (length-map (cells_of g) (old_cell m) ∙ length-map g (λ (p : Point). p.cell));
  gridded = rw (points-moved (old_cell m) g) (IsGridded-moved (old_cell m) g h (consistent_collapse m g (is_true _ h.consistent)));
}

-- one more cell
pub old_cells-more : (m : GridMap) (old cells : List Cell) (i : ℕ) (v d : Cell) → i < length old → i < length cells → take i old ≡ old_cells m (take i cells) → v ≡ old_cell m (get_or cells i d) → take (i + 1) (set old i v) ≡ old_cells m (take (i + 1) cells)
old_cells-more m old cells i v d h k e f =
    take_more_set old i v h ∙ rw (e, f) (sym (ap (old_cells m) (take_more cells i d k) ∙ map-append (old_cell m) (take i cells) (get_or cells i d ∷ [])))
