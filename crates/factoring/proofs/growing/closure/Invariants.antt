use Rattle.std.proofs.Common.{◌≡◌, ◌-◌}
use Rattle.tiling_core.specs.Patterns.{active_cells}
use Rattle.rule_kinds.specs.Choices.{closure, grown_times, is_linked}
use Rattle.factoring.proofs.growing.closure.Given as goal

abbrev pub invariant-loop : goal.invariant-loop
invariant-loop l = grown_times (l.rounds - l.counter) (is_linked l.tiling) (active_cells l.tiling) l.set ≡ closure (is_linked l.tiling) (active_cells l.tiling) l.fn.cell
