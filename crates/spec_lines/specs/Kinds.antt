-- The text of kinds of rules.
use Rattle.std.specs.Prelude.{List, [], ◌∷◌, ◌++◌, map, codes, decimal}
use Rattle.gridded.specs.declared.cell.Cell.{Cell}
use Rattle.rule_kinds.specs.Pointeds.{PointedPattern}
use Rattle.rule_kinds.specs.declared.kind.Direction.{Direction}
use Rattle.rule_kinds.specs.declared.kind.Direction.TheVariants.{North, South, East, West}
use Rattle.rule_kinds.specs.declared.kind.Kind.{Kind}
use Rattle.rule_kinds.specs.declared.kind.Kind.TheVariants as kind
use Rattle.spec_lines.specs.Lines.{Text, line}
use Rattle.spec_lines.specs.Patterns.{cells_text, pattern_text}

abbrev pub direction_text : Direction → Text
direction_text North = codes "N"
direction_text South = codes "S"
direction_text East = codes "E"
direction_text West = codes "W"

-- the cells joined by dots: a set without cells is an empty item
abbrev pub set_text : List Cell → Text
set_text cells = cells_text cells

abbrev pub pointed_text : PointedPattern → Text
pointed_text q = pattern_text q.pattern ++ codes "^" ++ decimal q.index

abbrev pub kind_word : Kind → Text
kind_word kind.Unit = codes "unit"
kind_word kind.Point = codes "point"
kind_word kind.Void = codes "void"
kind_word (kind.Insert r) = codes "insert"
kind_word (kind.Place qs d) = codes "place"
kind_word (kind.RowCut y set) = codes "rowcut"
kind_word (kind.ColumnCut x set) = codes "colcut"
kind_word (kind.Factor sets) = codes "factor"
kind_word (kind.Infer patterns) = codes "infer"

-- what follows the word
abbrev pub kind_items : Kind → List Text
kind_items kind.Unit = []
kind_items kind.Point = []
kind_items kind.Void = []
kind_items (kind.Insert r) = pattern_text r ∷ []
kind_items (kind.Place qs d) = direction_text d ∷ map pointed_text qs
kind_items (kind.RowCut y set) = decimal y ∷ set_text set ∷ []
kind_items (kind.ColumnCut x set) = decimal x ∷ set_text set ∷ []
kind_items (kind.Factor sets) = map set_text sets
kind_items (kind.Infer patterns) = map pattern_text patterns

abbrev pub rule_line : Kind → Text
rule_line k = line (codes "rule") (kind_word k ∷ kind_items k)
