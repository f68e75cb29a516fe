use Rattle.std.proofs.Common.{◌≤◌, ◌+◌, ◌-◌, length}
use Rattle.std.specs.Io.KnownBytes.{Consumes}
use Rattle.outside.proofs.sources.read_all.Given as goal

abbrev pub invariant-loop-count : goal.invariant-loop-count
invariant-loop-count g l = record {
  within : length l.all.items ≤ l.limit;
  took : Consumes (g.S.Source.left l.initial.source) (g.S.Source.left l.source) l.all.items;
  later : g.S.Source.faults l.initial.source ≤ g.S.Source.faults l.source;
  calls : g.S.Source.calls l.source ≤ g.S.Source.calls l.initial.source + length l.all.items;
}

abbrev pub decreases-loop-count : goal.decreases-loop-count
decreases-loop-count g l = l.limit - length l.all.items
