use Rattle.std.proofs.Common.{length, ap, ◌∙◌}
use Rattle.gridded.proofs.CellSets.{count_of_bits, set_of_bits}
use Rattle.gridded.proofs.cell_set.CellSet.count.Goals as goal

pub returns : goal.returns
returns c = record {
  value = count_of_bits c.self.inside.bits c.self.invariant ∙ ap (λ set. length set) c.self.view_is;
  set = set_of_bits c.self.inside.bits c.args.self c.self.view_is;
}
