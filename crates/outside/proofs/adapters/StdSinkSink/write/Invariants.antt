use Rattle.std.proofs.Common.{◌≤◌}
use Rattle.std.specs.Io.KnownBytes.{Keeps}
use Rattle.outside.proofs.adapters.StdSinkSink.write.Given as goal

abbrev pub invariant-loop : goal.invariant-loop
invariant-loop g l = record {
  kept : Keeps (g.T.Write.contents l.initial.self-inside.inner) (g.T.Write.contents l.self-inside.inner);
  later : l.initial.self-inside.faults ≤ l.self-inside.faults;
}
