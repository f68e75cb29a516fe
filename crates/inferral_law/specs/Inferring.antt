-- The laws of tilings without members, and of patterns that no member holds.
use Rattle.std.specs.Prelude.{◌≡◌, true, List}
use Rattle.gridded.specs.Grids.{Point}
use Rattle.tiling_core.specs.Tiles.{Tiles}
use Rattle.rule_kinds.specs.declared.kind.Kind.TheVariants as kind
use Rattle.rule_kinds.specs.Conditions.{applies}
use Rattle.rule_kinds.specs.Carried.{IsCarriedOneToOne}

-- where patterns are inferable, the members are those of the tiling without them
abbrev pub InferralsCarryMembers : Type 0
InferralsCarryMembers = (t : Tiles) (patterns : List (List Point)) → applies t (kind.Infer patterns) ≡ true → IsCarriedOneToOne t (kind.Infer patterns)

-- where there is no member of a length up to the weight, there is none to carry
abbrev pub VoidsCarryMembers : Type 0
VoidsCarryMembers = (t : Tiles) → applies t kind.Void ≡ true → IsCarriedOneToOne t kind.Void
