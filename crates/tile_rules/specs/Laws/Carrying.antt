-- The members are carried to those of the raw children, one to one, by each kind that applies.
use Rattle.std.specs.Prelude.{◌≡◌, true, List, All}
use Rattle.gridded.specs.declared.axis.Axis.TheVariants as axis
use Rattle.tiling_core.specs.Tiles.{Tiles, IsTiling}
use Rattle.insertion_law.specs.Inserting.{InsertionsCarryMembers}
use Rattle.inferral_law.specs.Inferring.{InferralsCarryMembers, VoidsCarryMembers}
use Rattle.placement_law.specs.Placing.{PlacementsCarryMembers}
use Rattle.cut_law.specs.CutLaw.{CutsCarry}
use Rattle.rule_kinds.specs.Conditions as D
use Rattle.rule_kinds.specs.Conditions.{applies}
use Rattle.rule_kinds.specs.Pointeds.{PointedPattern}
use Rattle.rule_kinds.specs.Kinds.{IsPointed}
use Rattle.rule_kinds.specs.declared.kind.Direction.{Direction}
use Rattle.rule_kinds.specs.declared.kind.Kind.TheVariants as kind
use Rattle.rule_kinds.specs.Carried.{MembersAreCarried, IsCarriedOneToOne}

-- what the laws of the strategies say
pub record LawsOfKinds : Type 0 where
  pub inserting : InsertionsCarryMembers
  pub inferring : InferralsCarryMembers
  pub voiding : VoidsCarryMembers
  pub placing : PlacementsCarryMembers
  pub cutting : CutsCarry

placed : PlacementsCarryMembers → (t : Tiles) → IsTiling t → (qs : List PointedPattern) (d : Direction) → All (λ q. IsPointed q) qs → applies t (kind.Place qs d) ≡ true → IsCarriedOneToOne t (kind.Place qs d)
unfolding D.applies
placed placing t i qs d h a = placing t i qs h d a

pub members_are_carried : LawsOfKinds → MembersAreCarried
members_are_carried laws t i kind.Unit h a o = absurd cc
members_are_carried laws t i kind.Point h a o = absurd cc
members_are_carried laws t i kind.Void h a o = laws.voiding t a
members_are_carried laws t i (kind.Insert r) h a o = laws.inserting t r
members_are_carried laws t i (kind.Place qs d) h a o = placed laws.placing t i qs d h a
members_are_carried laws t i (kind.RowCut y set) h a o = laws.cutting axis.Row t i y set a
members_are_carried laws t i (kind.ColumnCut x set) h a o = laws.cutting axis.Column t i x set a
members_are_carried laws t i (kind.Factor sets) h a o = absurd cc
members_are_carried laws t i (kind.Infer patterns) h a o = laws.inferring t patterns a
