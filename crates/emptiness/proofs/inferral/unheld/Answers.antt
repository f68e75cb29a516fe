use Rattle.std.proofs.Common.{◌≤◌, ℕ, List, length, sym, ap, subst, ◌∙◌}
use Rattle.std.specs.Prelude.{nat_le}
use Rattle.std.specs.List.{filter, list_any}
use Rattle.std.proofs.lemmas.List.Elements.{All-get_or}
use Rattle.gridded.specs.Grids.{Point, holds}
use Rattle.emptiness.proofs.Untouched.{any-short}
use Rattle.emptiness.proofs.inferral.unheld.Goals as goal

pub is_unheld_after-requires-clause-shortened : goal.is_unheld_after-requires-clause-shortened
is_unheld_after-requires-clause-shortened c =
    let P : List Point → Type 0 = λ p. length p ≤ 2 in
    let small = subst P (sym c.pattern-item.is) (All-get_or P c.args.patterns.now c.loop-pattern.pattern-index c.pattern-item.result c.loop-pattern-test.true c.requires.small) in
    ap (λ os. list_any (λ o. holds c.pattern-item.result o) os) (c.deref.ensures.value ∙ c.in_ok-short.ensures ∙ ap (λ os. filter (λ o. nat_le (length o) 2) os) c.obstructions.ensures.value)
    ∙ any-short c.pattern-item.result c.args.tiling.now.obstructions small
