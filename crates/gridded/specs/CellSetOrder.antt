-- Sets of cells are equal where their cells are the same.
use Rattle.std.specs.Prelude.{◌≡◌, Bool, Decides, List}
use Rattle.std.specs.Cmp.{IsEquivalence}
use Rattle.std.specs.Cmp.Lexicographic.{pointwise, pointwise_decides, lists_equiv}
use Rattle.gridded.specs.declared.cell.Cell.{Cell}
use Rattle.gridded.specs.Orders.{cell_eq}
use Rattle.gridded.specs.OrderLaws.{cell_eq_decides, cell_equiv}

abbrev pub set_eq : List Cell → List Cell → Bool
set_eq = pointwise cell_eq

pub set_equiv : IsEquivalence set_eq
set_equiv = lists_equiv cell_equiv

pub set_eq_decides : (s t : List Cell) → Decides (set_eq s t) (s ≡ t)
set_eq_decides s t = pointwise_decides cell_eq_decides s t
