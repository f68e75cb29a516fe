-- Items in order, told by their texts: by length, then byte by byte. A list of patterns is told by its members' texts.
use Rattle.std.specs.Prelude.{IsTrue, ◌≡◌, ◌↔◌, ℕ, cond, List, [], length, map, codes, Some}
use Rattle.std.specs.declared.cmp.Ordering.{Ordering}
use Rattle.std.specs.Ordering.{nat_cmp, on, then_cmp}
use Rattle.std.specs.Cmp.Lexicographic.{slice_cmp}
use Rattle.std.specs.List.Sorted.{IsStrictlySortedBy}
use Rattle.perm_core.specs.Orders.{perm_cmp}
use Rattle.gridded.specs.declared.cell.Cell.{Cell}
use Rattle.gridded.specs.Grids.{Point}
use Rattle.gridded.specs.Orders.{cell_cmp, gridded_cmp}
use Rattle.spec_lines.specs.Lines.{Text}
use Rattle.spec_lines.specs.Forms.{ascending}
use Rattle.spec_lines.specs.Items.{same, items, read_all}
use Rattle.spec_lines.specs.Readings.{word_at, cell_at, pattern_at, list_at}

abbrev pub text_cmp : Text → Text → Ordering
text_cmp = then_cmp (on (λ t. length t) nat_cmp) (slice_cmp nat_cmp)

-- the members' texts of a list
abbrev pub members_of : Text → List Text
members_of t = cond (same t (codes "x")) [] (items 124 t)

abbrev pub WordsAscendByText : Type 0
WordsAscendByText = (ts : List Text) (words : List (List ℕ)) → read_all word_at ts ≡ Some words → ascending perm_cmp words ≡ ascending text_cmp ts

abbrev pub CellsAscendByText : Type 0
CellsAscendByText = (ts : List Text) (cells : List Cell) → read_all cell_at ts ≡ Some cells → ascending cell_cmp cells ≡ ascending text_cmp ts

abbrev pub PatternsAscendByText : Type 0
PatternsAscendByText = (ts : List Text) (patterns : List (List Point)) → read_all pattern_at ts ≡ Some patterns → ascending gridded_cmp patterns ≡ ascending text_cmp ts

abbrev pub ListsAscendByMembers : Type 0
ListsAscendByMembers = (ts : List Text) (lists : List (List (List Point))) → read_all list_at ts ≡ Some lists → ascending (slice_cmp gridded_cmp) lists ≡ ascending (slice_cmp text_cmp) (map members_of ts)

-- ====== each item is smaller than the next exactly where it is smaller than all later ones ======
abbrev pub WordsAreSorted : Type 0
WordsAreSorted = (words : List (List ℕ)) → IsTrue (ascending perm_cmp words) ↔ IsStrictlySortedBy perm_cmp words

abbrev pub CellsAreSorted : Type 0
CellsAreSorted = (cells : List Cell) → IsTrue (ascending cell_cmp cells) ↔ IsStrictlySortedBy cell_cmp cells

abbrev pub PatternsAreSorted : Type 0
PatternsAreSorted = (patterns : List (List Point)) → IsTrue (ascending gridded_cmp patterns) ↔ IsStrictlySortedBy gridded_cmp patterns

abbrev pub ListsAreSorted : Type 0
ListsAreSorted = (lists : List (List (List Point))) → IsTrue (ascending (slice_cmp gridded_cmp) lists) ↔ IsStrictlySortedBy (slice_cmp gridded_cmp) lists
