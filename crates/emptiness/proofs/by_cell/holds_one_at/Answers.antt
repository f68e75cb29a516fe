use Rattle.std.proofs.Common.{◌≡◌, sym, ap, subst, ◌∙◌}
use Rattle.std.specs.Prelude.{filter}
use Rattle.std.specs.List.{list_any}
use Rattle.std.proofs.lemmas.List.Elements.{All-get_or}
use Rattle.gridded.specs.Grids.{holds}
use Rattle.gridded.specs.OrderLaws.{cell_eq_decides}
use Rattle.emptiness.specs.ByCell.{has_point_in}
use Rattle.emptiness.specs.declared.by_cell.At.{At}
use Rattle.emptiness.proofs.by_cell.holds_one_at.Goals as goal

pub returns-then-eq : goal.returns-then-eq
returns-then-eq c =
    let here : c.at-item.result.cell ≡ c.args.cell = (cell_eq_decides c.at-item.result.cell c.args.cell).0 (sym c.eq.ensures ∙ c.if-eq.true) in
    let P : At → Type 0 = λ at. at.patterns ≡ filter (has_point_in at.cell) c.args.patterns.now in
    let listed = subst P (sym c.at-item.is) (All-get_or P c.args.index.now c.loop-at.at-index c.at-item.result c.loop-at-test.true c.requires.indexed) in
    c.holds_one.ensures ∙ ap (λ ps. list_any (λ p. holds c.args.g.now p) ps) (c.as_slice.ensures ∙ listed ∙ ap (λ d. filter (has_point_in d) c.args.patterns.now) here) ∙ c.requires.there
