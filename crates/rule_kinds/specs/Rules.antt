-- Rules on tilings.
use Rattle.std.specs.Prelude.{List, All}
use Rattle.tiling_core.specs.Tiles.{Tiles, IsKept}
use Rattle.steps.specs.declared.step.Step.{Step}
use Rattle.rule_kinds.specs.declared.kind.Kind.{Kind}

-- a kind, the tiling that it makes, the tilings that it makes it from, and for each of these the steps that reduce
-- the raw child to it
pub record TilingRule : Type 0 where
  pub kind : Kind
  pub parent : Tiles
  pub children : List Tiles
  pub traces : List (List Step)

-- what the type keeps: lists whose numbers of items fit 32 bits
pub record HasKeptLists (r : TilingRule) : Type 0 where
  pub children : IsKept r.children
  pub traces : IsKept r.traces
  pub each_trace : All (λ trace. IsKept trace) r.traces
