use Rattle.std.proofs.Common.{◌≡◌, ◌+◌, [], ◌∷◌, true, false, ◌∙◌, get_or, refl, sym, arith, length, ◌<◌}
use Rattle.kernels.specs.Search.{found_from}
use Rattle.kernels.proofs.Searches.{found_from-few, found_from-step, answered}
use Rattle.kernels.proofs.letters.occurs.Goals as goal

pub returns-then-second : goal.returns-then-second
returns-then-second g c =
    let inside : c.loop-a.a < length c.args.text.now = omega (arith, c.loop-a-test.true, c.saturating_sub-a-end.ensures, c.told-pattern, c.requires.least) in
    let rest : found_from (get_or c.args.text.now c.loop-a.a 0 ∷ []) (get_or c.args.pattern.now 0 0 ∷ []) (c.loop-a.a + 1) c.args.text.now 1 c.args.pattern.now ≡ true = sym c.second.ensures ∙ c.if-second.true in
    let found : found_from [] [] 0 c.args.text.now 0 c.args.pattern.now ≡ true = c.loop-a.invariant ∙ found_from-step [] [] c.args.text.now c.args.pattern.now c.loop-a.a 0 inside (omega (arith, c.told-pattern, c.requires.least)) ∙ rw (rest) refl in
    let a = answered (λ l. l) (λ _ _. true) c.args.text.now c.args.pattern.now true (sym found) in
    record { test = a.test; relation = a.relation }

pub returns : goal.returns
returns g c =
    let none = (c.loop-a.invariant
    ∙ found_from-few [] [] c.args.text.now c.args.pattern.now c.loop-a.a 0
    (omega (arith, c.loop-a-test.false, c.saturating_sub-a-end.ensures, c.told-pattern)) (omega (arith, c.told-pattern, c.requires.least))) in
    let a = answered (λ l. l) (λ _ _. true) c.args.text.now c.args.pattern.now false (sym none) in
    record { test = a.test; relation = a.relation }
