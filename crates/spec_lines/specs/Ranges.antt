-- The ranges of the quantities of lines.
use Rattle.std.specs.Prelude.{ℕ, suc, Bool, true, ◌&&◌, ◌^◌, nat_lt, nat_le, List, [], ◌∷◌, length, if◌then◌else◌}
use Rattle.std.specs.List.{list_all}
use Rattle.gridded.specs.declared.cell.Cell.{Cell}
use Rattle.gridded.specs.Grids.{Point}
use Rattle.gridded.specs.Orders.{cells_of}
use Rattle.css_terms.specs.declared.term.Term.{Term}
use Rattle.css_terms.specs.declared.term.Term.TheVariants.{Exact, Big}
use Rattle.rule_kinds.specs.declared.kind.Kind.{Kind}
use Rattle.rule_kinds.specs.declared.kind.Kind.TheVariants as kind
use Rattle.spec_lines.specs.Forms.{Line}
use Rattle.spec_lines.specs.Forms.Line.{Basis, Count, Entry, Grid, Obstructions, Requirements, Rule, Child, Terms}

abbrev pub is_from_1_to : ℕ → ℕ → Bool
is_from_1_to most n = nat_le 1 n && nat_le n most

abbrev pub is_short : List Point → Bool
is_short g = nat_le (length g) 9

-- at most nine letters, in the grid of so many columns and rows
abbrev pub is_inside : ℕ → ℕ → List Point → Bool
is_inside width height g = is_short g && list_all (λ c. nat_lt c.x width && nat_lt c.y height) (cells_of g)

abbrev pub is_small : List Cell → Bool
is_small cells = list_all (λ c. nat_le c.x 7 && nat_le c.y 7) cells

abbrev pub is_small_pattern : List Point → Bool
is_small_pattern g = is_short g && is_small (cells_of g)

abbrev pub is_kind_in_range : Kind → Bool
is_kind_in_range (kind.Insert r) = is_small_pattern r
is_kind_in_range (kind.Place qs d) = is_from_1_to 64 (length qs) && list_all (λ q. is_small_pattern q.pattern) qs
is_kind_in_range (kind.RowCut y set) = nat_le y 7 && is_small set
is_kind_in_range (kind.ColumnCut x set) = nat_le x 7 && is_small set
is_kind_in_range (kind.Factor sets) = is_from_1_to 64 (length sets) && list_all is_small sets
is_kind_in_range (kind.Infer patterns) = list_all is_small_pattern patterns
is_kind_in_range _ = true

abbrev pub is_term_in_range : Term → Bool
is_term_in_range (Exact n) = nat_lt n (2 ^ 128)
is_term_in_range Big = true

-- what the ranges of later lines rest on: the number of entries, and the sides of the entry's grid
pub record Seen : Type 0 where
  pub entries : ℕ
  pub width : ℕ
  pub height : ℕ

abbrev pub nothing_seen : Seen
nothing_seen = record { entries = 0; width = 0; height = 0 }

abbrev pub seen_with : Seen → Line → Seen
seen_with s (Count entries) = record s { entries = entries }
seen_with s (Grid width height) = record s { width = width; height = height }
seen_with s _ = s

abbrev pub is_in_range : Seen → Line → Bool
is_in_range s (Basis words) = is_from_1_to 32 (length words) && list_all (λ w. nat_le (length w) 9) words
is_in_range s (Count entries) = is_from_1_to 100000 entries
is_in_range s (Entry number rank) = nat_lt rank (2 ^ 32)
is_in_range s (Grid width height) = nat_le width 8 && nat_le height 8
is_in_range s (Obstructions patterns) = list_all (λ g. is_inside s.width s.height g) patterns
is_in_range s (Requirements lists) = list_all (λ patterns. list_all (λ g. is_inside s.width s.height g) patterns) lists
is_in_range s (Rule k) = is_kind_in_range k
is_in_range s (Child child trace) = nat_lt child s.entries
is_in_range s (Terms terms) = is_from_1_to 201 (length terms) && list_all is_term_in_range terms
is_in_range s _ = true

-- every line is in range
abbrev pub are_in_range : Seen → List Line → Bool
are_in_range s [] = true
are_in_range s (l ∷ lines) = is_in_range s l && are_in_range (seen_with s l) lines

-- how many lines stand before the first with a quantity out of range; all where there is none
abbrev pub in_range_before : Seen → List Line → ℕ
in_range_before s [] = 0
in_range_before s (l ∷ lines) = if is_in_range s l then suc (in_range_before (seen_with s l) lines) else 0
