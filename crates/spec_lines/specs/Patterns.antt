-- The text of words, cells, patterns and lists of patterns.
use Rattle.std.specs.Prelude.{ℕ, List, [], ◌∷◌, ◌++◌, map, flat_map, codes, decimal}
use Rattle.gridded.specs.declared.cell.Cell.{Cell}
use Rattle.gridded.specs.Grids.{Point}
use Rattle.gridded.specs.Orders.{letters_of, cells_of}
use Rattle.spec_lines.specs.Lines.{Text, separated}

abbrev pub word_text : List ℕ → Text
word_text letters = flat_map decimal letters

abbrev pub cell_text : Cell → Text
cell_text c = decimal c.x ++ decimal c.y

abbrev pub cells_text : List Cell → Text
cells_text cells = separated 46 (map cell_text cells)

abbrev pub pattern_text : List Point → Text
pattern_text [] = codes "e"
pattern_text (p ∷ g) = word_text (letters_of (p ∷ g)) ++ codes ":" ++ cells_text (cells_of (p ∷ g))

abbrev pub list_text : List (List Point) → Text
list_text [] = codes "x"
list_text (g ∷ patterns) = separated 124 (map pattern_text (g ∷ patterns))
