use Rattle.std.proofs.Common.{◌≡◌, ◌+◌, [], ◌∷◌, true, false, ◌∙◌, get_or, refl, sym, arith, length, ◌<◌}
use Rattle.std.specs.Prelude.{◌==◌}
use Rattle.kernels.specs.Search.{found_in_cells_from}
use Rattle.kernels.proofs.Searches.{found_in_cells_from-few, found_in_cells_from-step, answered_in_cells}
use Rattle.kernels.proofs.cells.occurs_cells.Goals as goal

pub returns-then-second : goal.returns-then-second
returns-then-second g c =
    let inside : c.loop-a.a < length c.args.text.now = omega (arith, c.loop-a-test.true, c.saturating_sub-a-end.ensures, c.told-pattern, c.requires.least) in
    let rest : found_in_cells_from (get_or c.args.text.now c.loop-a.a 0 ∷ []) (get_or c.args.pattern.now 0 0 ∷ []) (c.loop-a.a + 1) c.args.text.now c.args.text_cells.now 1 c.args.pattern.now c.args.pattern_cells.now ≡ true = sym c.second.ensures ∙ c.if-second.true in
    let same : (get_or c.args.text_cells.now c.loop-a.a 0 == get_or c.args.pattern_cells.now 0 0) ≡ true = sym c.same_cell.ensures ∙ c.if-same_cell.true in
    let found : found_in_cells_from [] [] 0 c.args.text.now c.args.text_cells.now 0 c.args.pattern.now c.args.pattern_cells.now ≡ true = c.loop-a.invariant ∙ found_in_cells_from-step [] [] c.args.text.now c.args.text_cells.now c.args.pattern.now c.args.pattern_cells.now c.loop-a.a 0 inside (omega (arith, inside, c.requires.as_many)) (omega (arith, c.told-pattern, c.requires.least)) (omega (arith, c.told-pattern_cells, c.requires.least)) ∙ rw (same, rest) refl in
    let a = answered_in_cells c.args.text.now c.args.text_cells.now c.args.pattern.now c.args.pattern_cells.now true (sym found) in
    record { test = a.test; relation = a.relation }

pub returns : goal.returns
returns g c =
    let none = (c.loop-a.invariant
    ∙ found_in_cells_from-few [] [] c.args.text.now c.args.text_cells.now c.args.pattern.now c.args.pattern_cells.now c.loop-a.a 0
    (omega (arith, c.loop-a-test.false, c.saturating_sub-a-end.ensures, c.told-pattern)) (omega (arith, c.told-pattern, c.requires.least)) c.requires.as_many (omega (arith, c.told-pattern, c.told-pattern_cells))) in
    let a = answered_in_cells c.args.text.now c.args.text_cells.now c.args.pattern.now c.args.pattern_cells.now false (sym none) in
    record { test = a.test; relation = a.relation }
