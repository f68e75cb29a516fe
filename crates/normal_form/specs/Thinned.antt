-- A tiling of which some obstructions are left out.
use Rattle.std.specs.Prelude.{◌≡◌, Bool, true, false}
use Rattle.tiling_core.specs.Tiles.{Tiles}
use Rattle.tiling_core.specs.Patterns.{minimal}
use Rattle.steps.specs.declared.Step.TheVariants.{Min}
use Rattle.steps.specs.Steps.{step_applies}

-- u is t without some obstructions that hold others which stay
pub record IsThinned (t u : Tiles) (left_out : Bool) : Type 0 where
  pub width : u.width ≡ t.width
  pub height : u.height ≡ t.height
  pub requirements : u.requirements ≡ t.requirements
  pub least : minimal u.obstructions ≡ minimal t.obstructions
  pub some : left_out ≡ true → step_applies Min t ≡ true
  pub none : left_out ≡ false → u ≡ t
