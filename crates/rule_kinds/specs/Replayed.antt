-- Tilings that are the replays of traces.
use Rattle.std.specs.Prelude.{◌≡◌, List, map, zip, Some}
use Rattle.tiling_core.specs.Tiles.{Tiles}
use Rattle.steps.specs.declared.step.Step.{Step}
use Rattle.steps.specs.Traces.{replay}

-- each child is the replay of its trace on its raw child
abbrev pub AreReplays : List Tiles → List (List Step) → List Tiles → Type 0
AreReplays raw traces children = map (λ (p : Tiles × List Step). replay p.0 p.1) (zip raw traces) ≡ map (λ t. Some t) children
