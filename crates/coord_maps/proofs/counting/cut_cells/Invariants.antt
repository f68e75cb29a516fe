use Rattle.std.proofs.Common.{◌≡◌, ◌≤◌, take}
use Rattle.std.specs.Prelude.{nat_eq, count_by}
use Rattle.coord_maps.proofs.counting.cut_cells.Given as goal

abbrev pub invariant-loop-cell : goal.invariant-loop-cell
invariant-loop-cell l = record {
  few_columns : l.columns ≤ l.cell-index;
  few_rows : l.rows ≤ l.cell-index;
  columns : l.columns ≡ count_by (λ c. nat_eq c.x l.map.columns.at) (take l.cell-index l.cells);
  rows : l.rows ≡ count_by (λ c. nat_eq c.y l.map.rows.at) (take l.cell-index l.cells);
}
