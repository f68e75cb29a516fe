use Rattle.coord_maps.proofs.Insides.{preimages_fit, each_preimages_fit}
use Rattle.coord_maps.proofs.stretching.stretch.Goals as goal

pub in_grid-requires-clause-obstructions_in : goal.in_grid-requires-clause-obstructions_in
in_grid-requires-clause-obstructions_in c = rw (c.new_lines.ensures, c.new_lines-2.ensures, c.in_ok-obstructions.ensures) (preimages_fit c.args.map.now c.obstructions.result.now)

pub in_grid-requires-clause-requirements_in : goal.in_grid-requires-clause-requirements_in
in_grid-requires-clause-requirements_in c = rw (c.new_lines.ensures, c.new_lines-2.ensures, c.in_ok-requirements.ensures) (each_preimages_fit c.args.map.now c.requirements.result.now)
