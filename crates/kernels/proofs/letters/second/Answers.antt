use Rattle.std.proofs.Common.{[], ◌∷◌, ◌∙◌, get_or, sym, arith}
use Rattle.kernels.proofs.Searches.{found_from-few}
use Rattle.kernels.proofs.letters.second.Goals as goal

pub returns : goal.returns
returns g c =
    sym (c.loop-b.invariant
    ∙ found_from-few (get_or c.args.text.now c.args.a 0 ∷ []) (get_or c.args.pattern.now 0 0 ∷ []) c.args.text.now c.args.pattern.now c.loop-b.b 1
    (omega (arith, c.loop-b-test.false, c.saturating_sub-b-end.ensures, c.told-pattern)) (omega (arith, c.told-pattern, c.requires.least, c.if-this-eq1.false)))
