-- Members of a tiling and of its raw children, one to one.
use Rattle.std.specs.Prelude.{◌≡◌, ℕ, Bool, true, false, List}
use Rattle.gridded.specs.Grids.{Point}
use Rattle.tiling_core.specs.Tiles.{Tiles, IsTiling}
use Rattle.tiling_core.specs.Carried.{CarriesTo}
use Rattle.rule_kinds.specs.declared.kind.Kind.{Kind}
use Rattle.rule_kinds.specs.declared.kind.Kind.TheVariants as kind
use Rattle.rule_kinds.specs.Kinds.{IsKept}
use Rattle.rule_kinds.specs.Children.{raw_children}
use Rattle.rule_kinds.specs.Conditions.{applies}
use Rattle.rule_kinds.specs.Carry.{carry, back}

-- the image of a member: the number of a child, and a member of that child
abbrev pub numbered_image : Kind → List Point → ℕ × List Point
numbered_image k g = let i = carry k g in (i.child, i.member)

abbrev pub from_image : Tiles → Kind → ℕ × List Point → List Point
from_image t k i = back t k (record { child = i.0; member = i.1 })

-- the image of each member is a member of the numbered raw child, as long as it, from which the way back leads to
-- it; the way back from each member of each raw child leads to a member, as long as it, whose image it is
abbrev pub IsCarriedOneToOne : Tiles → Kind → Type 0
IsCarriedOneToOne t k = CarriesTo t (raw_children t k) (numbered_image k) (from_image t k)

-- whether each member has one image: there is no map for the unit and the point tiling, and one to lists for a product
abbrev pub has_one_image : Kind → Bool
has_one_image kind.Unit = false
has_one_image kind.Point = false
has_one_image (kind.Factor sets) = false
has_one_image _ = true

-- by each kind that applies and has one image of each member, the members are carried
abbrev pub MembersAreCarried : Type 0
MembersAreCarried = (t : Tiles) → IsTiling t → (k : Kind) → IsKept k → applies t k ≡ true → has_one_image k ≡ true → IsCarriedOneToOne t k
