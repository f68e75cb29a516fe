-- Rules made from the kinds of a class.
use Rattle.std.specs.Prelude.{◌≡◌, ◌≤◌, Bool, true, List, length, map, Some, All}
use Rattle.std.specs.List.{AllZip}
use Rattle.tiling_core.specs.Tiles.{Tiles, IsTiling, IsKept}
use Rattle.steps.specs.declared.step.Step.{Step}
use Rattle.steps.specs.Traces.{replay}
use Rattle.normal_form.specs.Thinned.{IsThinned}
use Rattle.normal_form.specs.TraceLaws.{trace}
use Rattle.rule_kinds.specs.declared.kind.Kind.{Kind}
use Rattle.rule_kinds.specs.Rules.{TilingRule}
use Rattle.rule_kinds.specs.Children.{raw_children}
use Rattle.rule_kinds.specs.Conditions.{applies}
use Rattle.rule_kinds.specs.Follows.{Follows}

-- the kind applies, and gives few children
pub record IsTried (t : Tiles) (k : Kind) : Type 0 where
  pub applies : applies t k ≡ true
  pub few : length (raw_children t k) ≤ 2048

-- the steps are the trace of the tiling, and lead to the child
pub record IsReduced (raw child : Tiles) (steps : List Step) : Type 0 where
  pub tiling : IsTiling raw
  pub traced : steps ≡ trace raw
  pub replayed : replay raw steps ≡ Some child
  pub kept : IsKept steps

-- the same of each of some tilings
pub record AreReduced (raw children : List Tiles) (traces : List (List Step)) : Type 0 where
  pub tilings : All (λ t. IsTiling t) raw
  pub traced : traces ≡ map trace raw
  pub replayed : map (λ t. replay t (trace t)) raw ≡ map (λ t. Some t) children
  pub kept : All (λ steps. IsKept steps) traces

-- the same of any tilings of which these are thinned ones
abbrev pub ReducesThinned : List (Tiles × Bool) → List Tiles → List (List Step) → Type 0
ReducesThinned thinned children traces =
    (raw : List Tiles) → All (λ t. IsTiling t) raw → AllZip (λ (t : Tiles) (u : Tiles × Bool). IsThinned t u.0 u.1) raw thinned → AreReduced raw children traces

-- the rule by a kind, whose traces are those of the raw children
pub record IsRuleBy (t : Tiles) (k : Kind) (r : TilingRule) : Type 0 where
  pub kind : r.kind ≡ k
  pub parent : r.parent ≡ t
  pub follows : Follows r
  pub traced : r.traces ≡ map trace (raw_children t r.kind)
  pub as_many : length r.children ≡ length (raw_children t r.kind)

-- the rules by some kinds, in order
pub record AreRulesBy (t : Tiles) (kinds : List Kind) (rules : List TilingRule) : Type 0 where
  pub in_turn : map (λ (r : TilingRule). r.kind) rules ≡ kinds
  pub each : All (λ (r : TilingRule). IsRuleBy t r.kind r) rules
