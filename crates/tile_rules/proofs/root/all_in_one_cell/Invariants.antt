use Rattle.std.proofs.Common.{◌≡◌, take}
use Rattle.std.specs.Prelude.{map}
use Rattle.tiling_core.specs.Roots.{in_one_cell}
use Rattle.tile_rules.proofs.root.all_in_one_cell.Given as goal

abbrev pub invariant-loop-word : goal.invariant-loop-word
invariant-loop-word l = l.patterns.items ≡ map in_one_cell (take l.word-index l.basis)
