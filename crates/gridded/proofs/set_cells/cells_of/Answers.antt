use Rattle.std.proofs.Common.{◌≡◌, ℕ, ◌∙◌, subst, arith}
use Rattle.std.specs.List.{flat_map, range_with_len}
use Rattle.gridded.specs.CellSets.{column_of}
use Rattle.gridded.proofs.SetCells.{set-step, columns-whole}
use Rattle.gridded.proofs.set_cells.cells_of.Goals as goal

pub loop-x-preserved : goal.loop-x-preserved
loop-x-preserved c = set-step c.args.set c.loop-x.x c.loop-x.found.items c.add_column.new.found.items c.loop-x.invariant c.in_ok-add_column.ensures

pub returns : goal.returns
returns c =
    let done : c.loop-x.x ≡ 8 = omega arith in
    subst (λ (n : ℕ). c.loop-x.found.items ≡ flat_map (λ x. column_of c.args.set x 8) (range_with_len 0 n)) done c.loop-x.invariant ∙ columns-whole c.args.set c.requires
