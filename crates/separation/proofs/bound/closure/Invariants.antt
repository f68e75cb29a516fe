use Rattle.std.proofs.Common.{◌≡◌, [], ◌∷◌}
use Rattle.rule_kinds.specs.Choices.{is_bound, grown_times}
use Rattle.separation.specs.OnLines.{IsOfLine}
use Rattle.separation.proofs.bound.closure.Given as goal

abbrev pub invariant-loop-round : goal.invariant-loop-round
invariant-loop-round l = record {
  grown : l.set ≡ grown_times l._round (is_bound l.axis l.tiling) l.whole (l.fn.cell ∷ []);
  of_line : IsOfLine l.axis l.line l.set;
}
