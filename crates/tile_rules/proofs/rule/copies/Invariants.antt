-- The traces copied so far.
use Rattle.std.proofs.Common.{◌≡◌, take}
use Rattle.tile_rules.proofs.rule.copies.Given as goal

abbrev pub invariant-loop-trace : goal.invariant-loop-trace
invariant-loop-trace l = l.copied.items ≡ take l.trace-index l.fn.traces
