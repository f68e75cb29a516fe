-- When a call is refused. Want of memory has no cause here.
use Rattle.std.specs.Prelude.{◌<◌, ◌≤◌, length}
use Rattle.tiling_core.specs.Tiles.{Tiles}
use Rattle.tiling_core.specs.Measures.{weight}
use Rattle.tiling_core.specs.Patterns.{active_cells}
use Rattle.emptiness.specs.declared.fault.EmptyFault.{EmptyFault}
use Rattle.emptiness.specs.declared.fault.EmptyFault.TheVariants as empty
use Rattle.emptiness.specs.declared.fault.InferFault.{InferFault}
use Rattle.emptiness.specs.declared.fault.InferFault.TheVariants as infer

abbrev pub IsEmptyRefused : Tiles → EmptyFault → Type 0
IsEmptyRefused t empty.Heavy = 6 < weight t
IsEmptyRefused t empty.Memory = Unit {0}

abbrev pub IsInferRefused : Tiles → InferFault → Type 0
IsInferRefused t infer.Heavy = 4 < weight t
IsInferRefused t infer.Wide = (weight t ≤ 4) × (16 < length (active_cells t))
IsInferRefused t infer.Memory = Unit {0}
