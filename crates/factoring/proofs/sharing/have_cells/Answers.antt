use Rattle.std.proofs.Common.{◌∙◌}
use Rattle.factoring.specs.Shares.{agrees}
use Rattle.factoring.proofs.Numbers.{by_numbers}
use Rattle.factoring.proofs.Shared.{agreeing}
use Rattle.factoring.proofs.sharing.have_cells.Goals as goal

pub returns : goal.returns
returns c =
    c.agree.ensures ∙ by_numbers (agrees c.args.sets.now c.args.cells) ∙ agreeing c.args.sets.now c.args.cells c.count.ensures.set c.read_sets.ensures
