use Rattle.std.proofs.Common.{◌≡◌, ◌++◌, ◌≤◌, length}
use Rattle.std.specs.Prelude.{option_map}
use Rattle.spec_lines.specs.Items.{read_all}
use Rattle.spec_lines.specs.Readings.{cell_at}
use Rattle.line_readers.proofs.pattern.read_cells.Given as goal

abbrev pub invariant-loop-item : goal.invariant-loop-item
invariant-loop-item l = record {
  told : option_map (λ xs. l.cells ++ xs) (read_all cell_at l.items) ≡ read_all cell_at l.initial.items;
  few : length l.cells ≤ 10;
}

abbrev pub decreases-loop-item : goal.decreases-loop-item
decreases-loop-item l = length l.items
