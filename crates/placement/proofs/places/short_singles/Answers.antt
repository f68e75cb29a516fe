use Rattle.std.proofs.Common.{arith}
use Rattle.placement.specs.Placing.{short_single}
use Rattle.std.proofs.lemmas.Grind.{common_steps}
use Rattle.placement.proofs.Tried.{enough}
use Rattle.placement.proofs.places.short_singles.Goals as goal

pub returns-then-len-eq-MOST_LISTS : goal.returns-then-len-eq-MOST_LISTS
returns-then-len-eq-MOST_LISTS c = enough short_single c.args.tiling.now.requirements c.loop-patterns.patterns-index 16 c.loop-patterns.found.items c.loop-patterns.invariant.found (grind (arith, common_steps, c.len.ensures, c.if-len-eq-MOST_LISTS.true))
