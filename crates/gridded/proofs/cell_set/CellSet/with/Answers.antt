use Rattle.std.proofs.Common.{refl}
use Rattle.gridded.proofs.CellSets.{larger_fits, larger_value, larger_cells, set_of_bits}
use Rattle.gridded.proofs.cell_set.CellSet.with.Goals as goal

pub invariant_of-result : goal.invariant_of-result
invariant_of-result c = larger_fits c.self.inside.bits c.bit_of.result c.self.invariant

pub returns : goal.returns
returns c = record {
  value = larger_value c.self.inside.bits c.args.self c.args.cell c.bit_of.result (c.requires.left, c.requires.low) c.self.view_is c.bit_of.ensures;
  cells = larger_cells c.self.inside.bits c.args.self c.args.cell c.bit_of.result (c.requires.left, c.requires.low) c.self.view_is c.bit_of.ensures;
  set = set_of_bits _ _ refl;
}
