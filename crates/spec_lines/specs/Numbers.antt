-- The lines that have numbers alone, and those of a class.
use Rattle.std.specs.Prelude.{ℕ, List, [], ◌∷◌, map, codes, decimal}
use Rattle.gridded.specs.Grids.{Point}
use Rattle.spec_lines.specs.Lines.{Text, line, or_dash}
use Rattle.spec_lines.specs.Patterns.{pattern_text, list_text}

abbrev pub first_line : Text
first_line = line (codes "tilescope") (codes "1" ∷ [])

abbrev pub number_line : ℕ → Text
number_line entries = line (codes "entries") (decimal entries ∷ [])

abbrev pub entry_line : ℕ → ℕ → Text
entry_line number rank = line (codes "entry") (decimal number ∷ codes "rank" ∷ decimal rank ∷ [])

abbrev pub sides_line : ℕ → ℕ → Text
sides_line width height = line (codes "grid") (decimal width ∷ decimal height ∷ [])

abbrev pub patterns_line : List (List Point) → Text
patterns_line patterns = line (codes "obs") (or_dash (map pattern_text patterns))

abbrev pub lists_line : List (List (List Point)) → Text
lists_line lists = line (codes "req") (or_dash (map list_text lists))

abbrev pub end_line : Text
end_line = line (codes "end") []
