use Rattle.std.proofs.Common.{◌∙◌, sym, length, refl}
use Rattle.separation.proofs.OnLines.{proper_by_both, part_of_line}
use Rattle.separation.proofs.condition.is_proper_part.Goals as goal

pub returns : goal.returns
returns c =
    let value = c.is_some_of.ensures.value ∙ proper_by_both c.args.axis c.args.line c.args.set c.args.whole c.requires.of_line c.is_some_of.ensures.is_set c.shared-common.result (length c.args.set) c.shared-common.ensures refl in
    record { value = value; part = λ e. part_of_line c.args.axis c.args.line c.args.set c.args.whole c.requires.of_line c.is_some_of.ensures.is_set (sym value ∙ e) }
