-- Preimages without a point in some barred cells.
use Rattle.std.proofs.Common.{◌≡◌, ℕ, Bool, true, false, List, [], ◌∷◌, ◌++◌, refl, ap, ◌∙◌}
use Rattle.std.specs.Prelude.{◌||◌, not}
use Rattle.std.specs.List.{filter}
use Rattle.std.proofs.Math.Bool.{or-true}
use Rattle.gridded.specs.declared.cell.Cell.{Cell}
use Rattle.gridded.specs.CellSets.{is_among as has_cell}
use Rattle.gridded.specs.Grids.{Point}
use Rattle.gridded.specs.Places.{touches}
use Rattle.coord_maps.specs.declared.grid_map.GridMap.{GridMap}
use Rattle.coord_maps.specs.Preimages.{put, in_cell}
use Rattle.coord_maps.proofs.Ascents.{in_cell_continues}
use Rattle.lists.specs.Members.{IsIn}
use Rattle.lists.proofs.Filters.{filter_all, filter-none}

-- whether no point lies in a barred cell
abbrev pub stays_out : List Cell → List Point → Bool
stays_out barred h = not (touches (has_cell barred) h)

-- one more point that lies in no such cell
pub clear-push : (test : Cell → Bool) (s : List Point) (q : Point) → touches test s ≡ false → test q.cell ≡ false → touches test (s ++ q ∷ []) ≡ false
clear-push test [] q e f = rw f refl
clear-push test (p ∷ s) q e f = go (test p.cell) e (λ r. clear-push test s q r f)
  where
    go : (b : Bool) → (b || touches test s) ≡ false → (touches test s ≡ false → touches test (s ++ q ∷ []) ≡ false) → (b || touches test (s ++ q ∷ [])) ≡ false
    go true k ih = absurd cc
    go false k ih = ih k

-- a point on the way lies in such a cell
touches_at : (test : Cell → Bool) (s : List Point) (q : Point) (r : List Point) → test q.cell ≡ true → touches test (s ++ q ∷ r) ≡ true
touches_at test [] q r e = rw e refl
touches_at test (p ∷ s) q r e = rw (touches_at test s q r e) (or-true (test p.cell))

-- where the next point is in a barred cell, nothing is left
pub none_in_cell : (m : GridMap) (barred : List Cell) (s : List Point) (p : Point) (g : List Point) (x y : ℕ) → has_cell barred (record { x = x; y = y }) ≡ true → filter (stays_out barred) (in_cell m s p g x y) ≡ []
none_in_cell m barred s p g x y e = filter-none (stays_out barred) (in_cell m s p g x y) (λ h k. falls h k)
  where
    falls : (h : List Point) → IsIn h (in_cell m s p g x y) → stays_out barred h ≡ false
    falls h k =
        let c = in_cell_continues m s p g h x y k in
        ap (λ z. not (touches (has_cell barred) z)) c.1 ∙ ap not (touches_at (has_cell barred) s (put p x y) c.0 e)

-- no cell is barred
pub all_stay_out : (hs : List (List Point)) → filter (stays_out []) hs ≡ hs
all_stay_out hs = filter_all (stays_out []) hs (λ h k. ap not (untouched h))
  where
    untouched : (h : List Point) → touches (has_cell []) h ≡ false
    untouched [] = refl
    untouched (p ∷ h) = untouched h
