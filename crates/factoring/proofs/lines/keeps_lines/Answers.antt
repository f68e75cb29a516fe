use Rattle.std.proofs.Common.{◌∙◌}
use Rattle.factoring.specs.Shares.{is_kept_with}
use Rattle.factoring.proofs.Numbers.{numbers_twice}
use Rattle.factoring.proofs.lines.keeps_lines.Goals as goal

pub returns : goal.returns
returns c = c.are_kept.ensures ∙ numbers_twice (is_kept_with c.args.sets.now) c.args.cells c.count.ensures.set
