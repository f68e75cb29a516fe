use Rattle.tiling_core.specs.Tiles.{Tiles}
use Rattle.normal_form.specs.Known.{IsKnown}
use Rattle.normal_form.specs.Measure.{size}
use Rattle.normal_form.specs.Reached.{IsReached}
use Rattle.normal_form.proofs.form.reduce.Given as goal

abbrev pub invariant-loop-step : goal.invariant-loop-step
invariant-loop-step l = record { reached : (t : Tiles) → IsReached t l.fn.steps.items l.fn.tiling → IsReached t l.trace.items l.current; known : IsKnown l.known l.current }

abbrev pub decreases-loop-step : goal.decreases-loop-step
decreases-loop-step l = size l.current
