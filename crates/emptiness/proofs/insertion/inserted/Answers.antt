use Rattle.std.proofs.Common.{◌∙◌}
use Rattle.emptiness.proofs.Inserted.{letters-low, letters-made, cells-made, points-inserted, FitTogether-inserted}
use Rattle.emptiness.proofs.insertion.inserted.Goals as goal

pub raised_letters-raised-requires-clause-low : goal.raised_letters-raised-requires-clause-low
raised_letters-raised-requires-clause-low c = letters-low c.args.g.now c.letters.result.now c.letters.ensures.gridded c.letters.ensures.value

pub from_consistent-requires : goal.from_consistent-requires
from_consistent-requires c =
    FitTogether-inserted c.args.place c.args.letter c.args.cell c.args.g.now _ _ c.letters.ensures.gridded c.requires.room c.requires.below c.requires.fits
    (letters-made c.args.place c.args.letter c.args.g.now c.letters-len.result.now c.letters.result.now c.raised_letters-raised.result c.with_letter-letters.result c.letters-len.ensures.value c.letters.ensures.value c.raised_letters-raised.ensures c.with_letter-letters.ensures)
    (cells-made c.args.place c.args.cell c.args.g.now c.letters-len.result.now c.cells.result.now c.with_cell-cells.result c.letters-len.ensures.value c.cells.ensures.value c.with_cell-cells.ensures)

pub returns : goal.returns
returns c =
    c.from_consistent.ensures
    ∙ points-inserted c.args.place c.args.letter c.args.cell c.args.g.now _ _
    (letters-made c.args.place c.args.letter c.args.g.now c.letters-len.result.now c.letters.result.now c.raised_letters-raised.result c.with_letter-letters.result c.letters-len.ensures.value c.letters.ensures.value c.raised_letters-raised.ensures c.with_letter-letters.ensures)
    (cells-made c.args.place c.args.cell c.args.g.now c.letters-len.result.now c.cells.result.now c.with_cell-cells.result c.letters-len.ensures.value c.cells.ensures.value c.with_cell-cells.ensures)
