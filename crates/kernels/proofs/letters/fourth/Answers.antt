use Rattle.std.proofs.Common.{[], ◌∷◌, ◌∙◌, get_or, sym, arith}
use Rattle.kernels.proofs.Searches.{found_from-few}
use Rattle.kernels.proofs.letters.fourth.Goals as goal

pub returns : goal.returns
returns g c =
    sym (c.loop-d.invariant
    ∙ found_from-few (get_or c.args.text.now c.args.a 0 ∷ get_or c.args.text.now c.args.b 0 ∷ get_or c.args.text.now c.args.c 0 ∷ []) (get_or c.args.pattern.now 0 0 ∷ get_or c.args.pattern.now 1 0 ∷ get_or c.args.pattern.now 2 0 ∷ []) c.args.text.now c.args.pattern.now c.loop-d.d 3
    (omega (arith, c.loop-d-test.false, c.saturating_sub-d-end.ensures, c.told-pattern)) (omega (arith, c.told-pattern, c.requires.least, c.if-this-eq3.false)))
