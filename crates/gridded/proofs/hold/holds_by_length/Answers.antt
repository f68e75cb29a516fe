use Rattle.std.proofs.Common.{◌∙◌}
use Rattle.gridded.proofs.Numbered.{by_numbers}
use Rattle.gridded.proofs.hold.holds_by_length.Goals as goal

pub returns : goal.returns
returns c =
    c.occurs_by_length.ensures
    ∙ by_numbers c.args.whole.now c.args.pattern.now c.letters-letters.result.now c.in_ok-own.own c.letters.result.now c.in_ok-others.others c.cells.result.now c.cells-2.result.now c.letters-letters.ensures.value c.cells.ensures.value c.in_ok-own.ensures c.letters.ensures.value c.cells-2.ensures.value c.in_ok-others.ensures
