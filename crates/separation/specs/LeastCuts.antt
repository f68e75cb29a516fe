-- What the least cuts are, and their lists line by line.
use Rattle.std.specs.Prelude.{◌≡◌, ℕ, Bool, true, not, ◌&&◌, List, [], ◌∷◌, ◌++◌, map, filter, nat_le, All, if◌then◌else◌}
use Rattle.std.specs.List.{list_all, list_any}
use Rattle.gridded.specs.declared.axis.Axis.{Axis}
use Rattle.gridded.specs.declared.cell.Cell.{Cell}
use Rattle.gridded.specs.CellSets.{is_among as has_cell}
use Rattle.gridded.specs.CellSetOrder.{set_eq}
use Rattle.tiling_core.specs.Tiles.{Tiles}
use Rattle.rule_kinds.specs.declared.kind.Kind.{Kind}
use Rattle.rule_kinds.specs.Kinds.{cut_kind}
use Rattle.rule_kinds.specs.Lines.{active_on}
use Rattle.rule_kinds.specs.Children.{halved}
use Rattle.rule_kinds.specs.Conditions.{can_cut, comes_first, applies, preimage_sum, most_preimages}
use Rattle.rule_kinds.specs.Choices.{is_bound, closure, each_once, least_cuts}
use Rattle.lists.specs.Members.{IsIn}

-- the kind cuts a line of which a cell is active; its set is the closure of that cell; the condition holds, so that
-- the points of the set come first; and the set lies in every set with that cell whose points do
pub record IsLeastCut (a : Axis) (t : Tiles) (k : Kind) : Type 0 where
  pub line : ℕ
  pub cell : Cell
  pub set : List Cell
  pub is : k ≡ cut_kind a line set
  pub active : IsIn cell (active_on a line t)
  pub closed : set ≡ closure (is_bound a t) (active_on a line t) cell
  pub condition : can_cut a t line set ≡ true
  pub first : comes_first a t line set ≡ true
  pub begins : has_cell set cell ≡ true
  pub least : (other : List Cell) → has_cell other cell ≡ true → comes_first a t line other ≡ true → list_all (has_cell other) set ≡ true

abbrev pub AreLeastCuts : Axis → Tiles → List Kind → Type 0
AreLeastCuts a t kinds = All (λ k. IsLeastCut a t k) kinds

-- whether a set of cells of a line leaves one out
abbrev pub leaves_out : List Cell → List Cell → Bool
leaves_out whole set = not (set_eq set whole)

-- of some sets those that leave out a cell of the line, each where it stands first
abbrev pub proper_once : List Cell → List (List Cell) → List (List Cell)
proper_once whole sets = filter (leaves_out whole) (each_once set_eq sets)

-- the sets, and one more where it leaves out a cell of the line and isn't there yet
abbrev pub with_proper : List Cell → List (List Cell) → List Cell → List (List Cell)
with_proper whole sets set = sets ++ (if (leaves_out whole set && not (list_any (λ other. set_eq other set) sets)) then set ∷ [] else [])

-- the same of the closure of a cell, where the cell is on the line
abbrev pub with_closure : (Cell → Cell → Bool) → List Cell → List (List Cell) → Cell → List (List Cell)
with_closure link whole sets cell = if has_cell whole cell then with_proper whole sets (closure link whole cell) else sets

-- the sets, where a tiling's patterns have few enough preimages by the cut of a line
abbrev pub where_they_fit : Axis → Tiles → ℕ → List (List Cell) → List (List Cell)
where_they_fit a t i sets = if nat_le (preimage_sum (halved a t i) t) most_preimages then sets else []

-- the cuts of one line that are tried
abbrev pub cuts_of_line : Axis → Tiles → ℕ → List Kind
cuts_of_line a t i = filter (applies t) (map (cut_kind a i) (least_cuts a t i))
