use Rattle.std.proofs.Common.{sym, ◌∙◌}
use Rattle.normal_form.proofs.RequiredCells.{another_number, no_point_listed, point_listed}
use Rattle.normal_form.proofs.required.with_list.Goals as goal

pub returns-then-patterns-ne1 : goal.returns-then-patterns-ne1
returns-then-patterns-ne1 c = another_number c.args.set c.args.patterns.now c.requires.is_set c.if-patterns-ne1.true

pub returns-then-len-ne1 : goal.returns-then-len-ne1
returns-then-len-ne1 c = no_point_listed c.args.set c.args.patterns.now c.index-patterns-0.result c.requires.is_set c.if-patterns-ne1.false c.index-patterns-0.is (λ e. c.if-len-ne1.true (c.len.ensures.value ∙ e))

pub returns : goal.returns
returns c =
    rw c.cells.ensures.value at c.with.ensures.value
    ∙ point_listed c.args.set c.args.patterns.now c.index-patterns-0.result _ c.if-patterns-ne1.false c.index-patterns-0.is c.len.ensures.gridded (sym c.len.ensures.value ∙ c.if-len-ne1.false)
