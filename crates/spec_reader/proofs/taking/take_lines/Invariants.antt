use Rattle.std.proofs.Common.{◌≤◌, ◌+◌, length}
use Rattle.spec_lines.specs.Lines.{Text}
use Rattle.spec_reader.specs.Pieces.{IsOnItsWay, EndsWith}
use Rattle.spec_reader.proofs.taking.take_lines.Given as goal

abbrev pub invariant-loop-behind : goal.invariant-loop-behind
invariant-loop-behind l = record {
  way : (text : Text) → IsOnItsWay text l.initial.rest l.initial.reader → IsOnItsWay text l.rest l.reader;
  left : EndsWith l.initial.rest l.rest;
  few : l.reader.lines + length l.rest ≤ l.initial.reader.lines + length l.initial.rest;
}

abbrev pub decreases-loop-behind : goal.decreases-loop-behind
decreases-loop-behind l = length l.rest
