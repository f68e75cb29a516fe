use Rattle.std.proofs.Common.{sym, ◌∙◌}
use Rattle.normal_form.proofs.RequiredFirst.{cleaning}
use Rattle.normal_form.proofs.first.cell_applies.Goals as goal

pub returns-then-not-has : goal.returns-then-not-has
returns-then-not-has c =
    rw c.in-Clean.is (cleaning c.args.tiling.now c.args.required c.in-Clean.cell c.requires c.if-cell-lt8.true c.if-cell-lt8-2.true (sym c.has.ensures.tested ∙ c.if-not-has.true))
