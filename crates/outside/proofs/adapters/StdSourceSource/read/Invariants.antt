use Rattle.std.proofs.Common.{◌≡◌, ◌≤◌}
use Rattle.std.specs.Io.KnownBytes.{Keeps}
use Rattle.outside.proofs.adapters.StdSourceSource.read.Given as goal

abbrev pub invariant-loop : goal.invariant-loop
invariant-loop g l = record {
  untouched : l.into ≡ l.initial.into;
  kept : Keeps (g.T.Read.remaining l.initial.self-inside.inner) (g.T.Read.remaining l.self-inside.inner);
  later : l.initial.self-inside.faults ≤ l.self-inside.faults;
}
