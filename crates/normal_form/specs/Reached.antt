-- What steps so far have led to.
use Rattle.std.specs.Prelude.{◌≡◌, List, ◌++◌, Some}
use Rattle.tiling_core.specs.Tiles.{Tiles}
use Rattle.steps.specs.declared.Step.{Step}
use Rattle.steps.specs.Traces.{replay, IsTrace}

-- u is reached from t by first steps: a trace of u put after them is a trace of t
pub record IsReached (t : Tiles) (steps : List Step) (u : Tiles) : Type 0 where
  pub traced : (rest : List Step) → IsTrace u rest → IsTrace t (steps ++ rest)
  pub replayed : replay t steps ≡ Some u
