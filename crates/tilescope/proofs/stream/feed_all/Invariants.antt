use Rattle.std.proofs.Common.{◌≡◌, ◌≤◌, ◌+◌, ◌-◌}
use Rattle.tilescope.specs.Streams.{HasFed}
use Rattle.tilescope.proofs.stream.feed_all.Given as goal

abbrev pub invariant-loop-count : goal.invariant-loop-count
invariant-loop-count g l = record {
  within : l.many ≤ l.limit;
  counted : l.checking.read.many ≡ l.many;
  fed : HasFed l.many (g.S.Source.left l.initial.source) (g.S.Source.left l.source) l.initial.checking l.checking;
  later : g.S.Source.faults l.initial.source ≤ g.S.Source.faults l.source;
  calls : g.S.Source.calls l.source ≤ g.S.Source.calls l.initial.source + l.many;
}

abbrev pub decreases-loop-count : goal.decreases-loop-count
decreases-loop-count g l = l.limit - l.many
