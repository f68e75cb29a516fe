-- What the closures are, by their property.
use Rattle.std.specs.Prelude.{Bool, List, IsTrue}
use Rattle.std.specs.List.{list_all, list_any}
use Rattle.gridded.specs.declared.cell.Cell.{Cell}
use Rattle.tiling_core.specs.Tiles.{Tiles}
use Rattle.gridded.specs.CellSets.{is_among as has_cell}
use Rattle.rule_kinds.specs.Conditions.{is_factoring}

-- with each cell the set has those of the cells that are linked to it
abbrev pub IsClosed : (Cell → Cell → Bool) → List Cell → List Cell → Type 0
IsClosed link cells set = (c d : Cell) → IsTrue (has_cell set c) → IsTrue (has_cell cells d) → IsTrue (link c d) → IsTrue (has_cell set d)

-- the least closed set of the cells that has c
pub record IsLeastClosed (link : Cell → Cell → Bool) (cells : List Cell) (c : Cell) (set : List Cell) : Type 0 where
  pub within : IsTrue (list_all (has_cell cells) set)
  pub begins : IsTrue (has_cell set c)
  pub closed : IsClosed link cells set
  pub least : (other : List Cell) → IsTrue (has_cell other c) → IsClosed link cells other → IsTrue (list_all (has_cell other) set)

-- a factoring each of whose sets lies in one set of every other factoring
pub record IsFinest (t : Tiles) (sets : List (List Cell)) : Type 0 where
  pub factoring : IsTrue (is_factoring t sets)
  pub finest : (others : List (List Cell)) → IsTrue (is_factoring t others) → IsTrue (list_all (λ set. list_any (λ other. list_all (has_cell other) set) others) sets)
