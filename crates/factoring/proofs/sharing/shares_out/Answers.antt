use Rattle.std.proofs.Common.{sym, ◌∙◌}
use Rattle.factoring.proofs.Shared.{sets_apart, some_nil, other_cells, other_number, all_shared}
use Rattle.factoring.proofs.sharing.shares_out.Goals as goal

pub returns-then-has_empty : goal.returns-then-has_empty
returns-then-has_empty c = some_nil c.args.sets.now c.args.cells (sym c.has_empty.ensures ∙ c.if-has_empty.true)

pub returns-then-not-have_cells : goal.returns-then-not-have_cells
returns-then-not-have_cells c = other_cells c.args.sets.now c.args.cells (sym c.has_empty.ensures ∙ c.if-has_empty.false) (sym c.have_cells.ensures ∙ c.if-not-have_cells.true)

pub returns-then-not-are_as_many : goal.returns-then-not-are_as_many
returns-then-not-are_as_many c =
    other_number c.args.sets.now c.args.cells (sym c.has_empty.ensures ∙ c.if-has_empty.false) (sym c.have_cells.ensures ∙ c.if-not-have_cells.false) (sym c.are_as_many.ensures ∙ c.if-not-are_as_many.true)

pub ascend-requires-clause-some : goal.ascend-requires-clause-some
ascend-requires-clause-some c = sym c.has_empty.ensures ∙ c.if-has_empty.false

pub ascend-requires-clause-apart : goal.ascend-requires-clause-apart
ascend-requires-clause-apart c =
    sets_apart c.args.sets.now c.args.cells c.count.ensures.set (sym c.have_cells.ensures ∙ c.if-not-have_cells.false) (sym c.are_as_many.ensures ∙ c.if-not-are_as_many.false)

pub returns : goal.returns
returns c =
    all_shared c.args.sets.now c.args.cells _ (sym c.has_empty.ensures ∙ c.if-has_empty.false) (sym c.have_cells.ensures ∙ c.if-not-have_cells.false) (sym c.are_as_many.ensures ∙ c.if-not-are_as_many.false) c.ascend.ensures
