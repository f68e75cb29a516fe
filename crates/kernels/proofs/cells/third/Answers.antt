use Rattle.std.proofs.Common.{[], ◌∷◌, ◌∙◌, get_or, sym, arith}
use Rattle.kernels.proofs.Searches.{found_in_cells_from-few}
use Rattle.kernels.proofs.cells.third.Goals as goal

pub returns : goal.returns
returns g c =
    sym (c.loop-c.invariant
    ∙ found_in_cells_from-few (get_or c.args.text.now c.args.a 0 ∷ get_or c.args.text.now c.args.b 0 ∷ []) (get_or c.args.pattern.now 0 0 ∷ get_or c.args.pattern.now 1 0 ∷ []) c.args.text.now c.args.text_cells.now c.args.pattern.now c.args.pattern_cells.now c.loop-c.c 2
    (omega (arith, c.loop-c-test.false, c.saturating_sub-c-end.ensures, c.told-pattern)) (omega (arith, c.told-pattern, c.requires.least, c.if-this-eq2.false)) c.requires.as_many (omega (arith, c.told-pattern, c.told-pattern_cells)))
