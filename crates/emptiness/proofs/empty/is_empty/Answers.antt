use Rattle.std.proofs.Common.{◌∙◌, ap, sym, false}
use Rattle.std.specs.List.{list_any}
use Rattle.gridded.specs.Grids.{holds}
use Rattle.emptiness.specs.Glueing.{reaches}
use Rattle.emptiness.proofs.Counted.{empty_answer, nothing_reached}
use Rattle.emptiness.proofs.empty.is_empty.Goals as goal

pub returns-then-holds_one-clause-exact : goal.returns-then-holds_one-clause-exact
returns-then-holds_one-clause-exact c =
    let held = ap (λ g. list_any (λ p. holds g p) c.args.tiling.now.obstructions) (sym c.from_consistent-nothing.ensures)
    ∙ ap (λ os. list_any (λ p. holds c.from_consistent-nothing.result p) os) (sym c.obstructions.ensures.value) ∙ sym c.holds_one.ensures ∙ c.if-holds_one.true in
    empty_answer c.args.tiling.now false (sym (nothing_reached c.args.tiling.now held))

pub returns-clause-exact : goal.returns-clause-exact
returns-clause-exact c = empty_answer c.args.tiling.now c.reaches.result (c.reaches.ensures.value ∙ ap (λ g. reaches c.args.tiling.now c.args.tiling.now.requirements g) c.from_consistent-nothing.ensures)
