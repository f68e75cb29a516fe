-- The law of an insertion.
use Rattle.std.specs.Prelude.{List}
use Rattle.gridded.specs.Grids.{Point}
use Rattle.tiling_core.specs.Tiles.{Tiles}
use Rattle.rule_kinds.specs.declared.kind.Kind.TheVariants as kind
use Rattle.rule_kinds.specs.Carried.{IsCarriedOneToOne}

-- the members without a pattern, and those with it, are those of the two children
abbrev pub InsertionsCarryMembers : Type 0
InsertionsCarryMembers = (t : Tiles) (pattern : List Point) → IsCarriedOneToOne t (kind.Insert pattern)
