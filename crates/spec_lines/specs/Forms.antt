-- The lines of a text as values, and which values have a line. Numbers are as large as a line can have them, patterns have up to
-- ten letters and cells the digits 0 to 9: a value may be out of range.
use Rattle.std.specs.Prelude.{ℕ, Bool, true, false, not, ◌&&◌, ◌^◌, nat_lt, nat_le, List, [], ◌∷◌, length}
use Rattle.std.specs.List.{list_all}
use Rattle.std.specs.declared.cmp.Ordering.{Ordering}
use Rattle.std.specs.Ordering.{is_lt}
use Rattle.std.specs.Cmp.Lexicographic.{slice_cmp}
use Rattle.patterns.specs.Words.{has_no_repeats}
use Rattle.perm_core.specs.Orders.{perm_cmp}
use Rattle.gridded.specs.declared.cell.Cell.{Cell}
use Rattle.gridded.specs.Grids.{Point, is_consistent}
use Rattle.gridded.specs.Orders.{cell_cmp, gridded_cmp, letters_of, cells_of}
use Rattle.steps.specs.declared.step.Step.{Step}
use Rattle.steps.specs.declared.step.Step.TheVariants as step
use Rattle.css_terms.specs.declared.term.Term.{Term}
use Rattle.css_terms.specs.declared.term.Term.TheVariants.{Exact, Big}
use Rattle.rule_kinds.specs.Pointeds.{PointedPattern}
use Rattle.rule_kinds.specs.declared.kind.Kind.{Kind}
use Rattle.rule_kinds.specs.declared.kind.Kind.TheVariants as kind
use Rattle.spec_lines.specs.Lines.{Text}
use Rattle.spec_lines.specs.Numbers.{first_line, number_line, entry_line, sides_line, patterns_line, lists_line, end_line}
use Rattle.spec_lines.specs.Traces.{basis_line, root_line, child_line}
use Rattle.spec_lines.specs.Kinds.{rule_line}
use Rattle.spec_lines.specs.Terms.{terms_line}

pub data Line : Type 0 where
  First : Line
  Basis : List (List ℕ) → Line
  Root : List Step → Line
  Count : ℕ → Line
  Entry : ℕ → ℕ → Line
  Grid : ℕ → ℕ → Line
  Obstructions : List (List Point) → Line
  Requirements : List (List (List Point)) → Line
  Rule : Kind → Line
  Child : ℕ → List Step → Line
  Terms : List Term → Line
  End : Line

-- the text of a line, its line feed included
abbrev pub line_text : Line → Text
line_text First = first_line
line_text (Basis words) = basis_line words
line_text (Root trace) = root_line trace
line_text (Count entries) = number_line entries
line_text (Entry number rank) = entry_line number rank
line_text (Grid width height) = sides_line width height
line_text (Obstructions patterns) = patterns_line patterns
line_text (Requirements lists) = lists_line lists
line_text (Rule k) = rule_line k
line_text (Child child trace) = child_line child trace
line_text (Terms terms) = terms_line terms
line_text End = end_line

-- ====== which values have a line ======
-- each item is smaller than the next
abbrev pub ascending : {X : Type 0} → (X → X → Ordering) → List X → Bool
ascending cmp [] = true
ascending cmp (x ∷ []) = true
ascending cmp (x ∷ y ∷ xs) = is_lt (cmp x y) && ascending cmp (y ∷ xs)

abbrev pub has_items : {X : Type 0} → List X → Bool
has_items [] = false
has_items (x ∷ xs) = true

-- 1 to 39 digits write it
abbrev pub is_number : ℕ → Bool
is_number n = nat_lt n (10 ^ 39)

abbrev pub is_digit : ℕ → Bool
is_digit n = nat_le n 9

-- 1 to 10 letters, which are those from 0 on, each once
abbrev pub is_word : List ℕ → Bool
is_word w = has_items w && nat_le (length w) 10 && list_all (λ x. nat_lt x (length w)) w && has_no_repeats w

abbrev pub is_cell : Cell → Bool
is_cell c = is_digit c.x && is_digit c.y

-- a word with a cell for each letter, which fit together, or the empty pattern
abbrev pub is_pattern : List Point → Bool
is_pattern [] = true
is_pattern (p ∷ g) = is_word (letters_of (p ∷ g)) && list_all is_cell (cells_of (p ∷ g)) && is_consistent (p ∷ g)

abbrev pub is_patterns : List (List Point) → Bool
is_patterns patterns = list_all is_pattern patterns && ascending gridded_cmp patterns

abbrev pub is_step : Step → Bool
is_step (step.Clean c) = is_cell c
is_step (step.Column x) = is_digit x
is_step (step.Row y) = is_digit y
is_step _ = true

abbrev pub is_set : List Cell → Bool
is_set cells = has_items cells && list_all is_cell cells && ascending cell_cmp cells

abbrev pub is_pointed : PointedPattern → Bool
is_pointed q = is_pattern q.pattern && nat_lt q.index (length q.pattern)

abbrev pub is_kind : Kind → Bool
is_kind (kind.Insert r) = is_pattern r
is_kind (kind.Place qs d) = list_all is_pointed qs
is_kind (kind.RowCut y set) = is_number y && is_set set
is_kind (kind.ColumnCut x set) = is_number x && is_set set
is_kind (kind.Factor sets) = has_items sets && list_all is_set sets
is_kind (kind.Infer patterns) = has_items patterns && is_patterns patterns
is_kind _ = true

-- numbers, but the last may be Big
abbrev pub are_terms : List Term → Bool
are_terms [] = true
are_terms (Exact n ∷ terms) = is_number n && are_terms terms
are_terms (Big ∷ terms) = not (has_items terms)

abbrev pub is_line : Line → Bool
is_line First = true
is_line (Basis words) = has_items words && list_all is_word words && ascending perm_cmp words
is_line (Root trace) = list_all is_step trace
is_line (Count entries) = is_number entries
is_line (Entry number rank) = is_number number && is_number rank
is_line (Grid width height) = is_number width && is_number height
is_line (Obstructions patterns) = is_patterns patterns
is_line (Requirements lists) = list_all is_patterns lists && ascending (slice_cmp gridded_cmp) lists
is_line (Rule k) = is_kind k
is_line (Child child trace) = is_number child && list_all is_step trace
is_line (Terms terms) = has_items terms && are_terms terms
is_line End = true
