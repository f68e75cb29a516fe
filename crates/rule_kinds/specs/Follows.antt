-- Rules whose children are the reduced raw children.
use Rattle.std.specs.Prelude.{◌≡◌, true, List, length, map, zip, Some, All}
use Rattle.tiling_core.specs.Tiles.{Tiles, IsTiling}
use Rattle.steps.specs.declared.step.Step.{Step}
use Rattle.steps.specs.Traces.{replay}
use Rattle.rule_kinds.specs.Rules.{TilingRule}
use Rattle.rule_kinds.specs.Kinds.{IsKept}
use Rattle.rule_kinds.specs.Children.{raw_children}
use Rattle.rule_kinds.specs.Conditions.{applies}

-- what the types of the parts keep, and the raw children are tilings that can be kept
pub record IsMadeOfTilings (r : TilingRule) : Type 0 where
  pub parent : IsTiling r.parent
  pub kind : IsKept r.kind
  pub raw : All (λ t. IsTiling t) (raw_children r.parent r.kind)

-- the kind applies, and each child is the replay of its trace on its raw child
pub record Follows (r : TilingRule) : Type 0 where
  pub made : IsMadeOfTilings r
  pub condition : applies r.parent r.kind ≡ true
  pub as_many : length r.traces ≡ length (raw_children r.parent r.kind)
  pub replayed : map (λ (p : Tiles × List Step). replay p.0 p.1) (zip (raw_children r.parent r.kind) r.traces) ≡ map (λ t. Some t) r.children
