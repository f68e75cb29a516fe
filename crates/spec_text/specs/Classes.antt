-- The lines of a class.
use Rattle.std.specs.Prelude.{◌++◌}
use Rattle.tiling_core.specs.Tiles.{Tiles}
use Rattle.spec_lines.specs.Lines.{Text}
use Rattle.spec_lines.specs.Numbers.{sides_line, patterns_line, lists_line}

abbrev pub grid_line : Tiles → Text
grid_line t = sides_line t.width t.height

abbrev pub class_text : Tiles → Text
class_text t = grid_line t ++ patterns_line t.obstructions ++ lists_line t.requirements
