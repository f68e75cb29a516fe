use Rattle.std.proofs.Common.{◌≤◌, take}
use Rattle.tilescope.specs.Samples.{AreSearchLines}
use Rattle.tilescope.proofs.sample.search_all.Given as goal

abbrev pub invariant-loop-basis : goal.invariant-loop-basis
invariant-loop-basis l = AreSearchLines (take l.basis-index l.bases) l.found l.text.items × (l.found ≤ l.basis-index)
