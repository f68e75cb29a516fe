-- The members of a tiling.
use Rattle.std.specs.Prelude.{◌<◌, List, Decides}
use Rattle.gridded.specs.Grids.{Point, holds, Holds}
use Rattle.tiling_core.specs.Tiles.{Tiles, is_member}
use Rattle.lists.specs.Members.{IsIn}

-- g holds one of the patterns
pub record HoldsOneOf (g : List Point) (patterns : List (List Point)) : Type 0 where
  pub pattern : List Point
  pub listed : IsIn pattern patterns
  pub held : Holds g pattern

-- g lies in the grid, holds no obstruction, and holds a pattern of each requirement list
pub record Member (g : List Point) (t : Tiles) : Type 0 where
  pub in_grid : (p : Point) → IsIn p g → (p.cell.x < t.width) × (p.cell.y < t.height)
  pub no_obstruction : (p : List Point) → IsIn p t.obstructions → ¬ (Holds g p)
  pub each_list : (patterns : List (List Point)) → IsIn patterns t.requirements → HoldsOneOf g patterns

-- the test of gridded containment decides the relation, for lists of points of every length
abbrev pub HoldingIsDecided : Type 0
HoldingIsDecided = (g p : List Point) → Decides (holds g p) (Holds g p)

-- the test of membership, which counts the members, decides the relation
abbrev pub MembershipIsDecided : Type 0
MembershipIsDecided = (t : Tiles) (g : List Point) → Decides (is_member t g) (Member g t)
