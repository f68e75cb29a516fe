-- Active cells, and the cells of members.
use Rattle.std.proofs.Common.{◌≡◌, ℕ, Bool, true, false, List, refl, sym, subst, ◌∙◌}
use Rattle.std.specs.Prelude.{not}
use Rattle.std.proofs.lemmas.Bool.{not-true, not_from_false}
use Rattle.lists.specs.Members.{IsIn}
use Rattle.lists.proofs.Members.{IsIn-filter, from_IsIn-filter}
use Rattle.lists.proofs.Tests.{which_passes, some_passes}
use Rattle.gridded.specs.declared.cell.Cell.{Cell}
use Rattle.gridded.specs.Grids.{Point}
use Rattle.gridded.specs.Laws.{IsCellOf}
use Rattle.gridded.specs.OrderLaws.{gridded_eq_decides}
use Rattle.gridded.specs.Small.{point_at}
use Rattle.gridded.proofs.GriddedLists.{IsIn-cells_in}
use Rattle.gridded.proofs.Holding.{holds_decides}
use Rattle.gridded.proofs.Moved.{cell_in}
use Rattle.gridded.proofs.Pairs.{holds_its_point}
use Rattle.tiling_core.specs.Tiles.{Tiles}
use Rattle.tiling_core.specs.Carried.{MemberOf}
use Rattle.tiling_core.specs.Patterns.{forbids, active_cells}

-- a cell of the grid whose point is no obstruction is active
pub active_from : (t : Tiles) (c : Cell) → IsCellOf t.width t.height c → (IsIn (point_at c) t.obstructions → ⊥) → IsIn c (active_cells t)
active_from t c k h = IsIn-filter (λ d. not (forbids t (point_at d))) (IsIn-cells_in t.width t.height c k) (not_from_false (forbids t (point_at c)) (none (forbids t (point_at c)) refl))
  where
    none : (b : Bool) → forbids t (point_at c) ≡ b → forbids t (point_at c) ≡ false
    none true e = let o = which_passes _ t.obstructions e in absurd (h (subst (λ (p : List Point). IsIn p t.obstructions) (sym ((gridded_eq_decides (point_at c) o.0).0 o.2)) o.1))
    none false e = e

-- the point of an active cell is no obstruction
pub active_is : (t : Tiles) (c : Cell) → IsIn c (active_cells t) → IsIn (point_at c) t.obstructions → ⊥
active_is t c m i =
    let e = not-true (forbids t (point_at c)) (from_IsIn-filter (λ d. not (forbids t (point_at d))) _ m).1 in
    clash (sym e ∙ some_passes _ i ((gridded_eq_decides (point_at c) (point_at c)).1 refl))
  where
    clash : false ≡ true → ⊥
    clash h = cc

-- the points of a member lie in active cells
pub member_active : (t : Tiles) (n : ℕ) (g : List Point) → MemberOf t n g → (p : Point) → IsIn p g → IsIn p.cell (active_cells t)
member_active t n g k p m =
    active_from t p.cell (cell_in t.width t.height n k.gridded m) (λ i. k.member.no_obstruction (point_at p.cell) i ((holds_decides g (point_at p.cell)).0 (holds_its_point g p p.cell m refl)))
