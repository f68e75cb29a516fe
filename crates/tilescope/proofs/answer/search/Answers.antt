use Rattle.std.proofs.Common.{List, ℕ, ap, ◌∙◌, subst}
use Rattle.normal_form.specs.TraceLaws.{trace}
use Rattle.tiling_core.specs.Roots.{root_of}
use Rattle.rule_kinds.specs.Choices.{Packs}
use Rattle.tile_rules.specs.Complete.{rulebook_of}
use Rattle.tile_rules.specs.Meaning.{tile_meaning}
use Rattle.css_domain.specs.Reasons.{Alone}
use Rattle.css_crew.specs.Crews.{IsFilled}
use Rattle.tilescope.specs.Searches.{IsReducedRoot}
use Rattle.tilescope.proofs.Solving.{solved_for}
use Rattle.tilescope.proofs.answer.search.Goals as goal

pub say-requires-clause-solved : goal.say-requires-clause-solved
say-requires-clause-solved c =
    let reduced = subst (λ (basis : List (List ℕ)). IsReducedRoot basis c.in_ok-root.field-0.root) c.as_slice.ensures c.in_ok-root.ensures.root in
    let filled = subst (λ (packs : Packs). IsFilled tile_meaning c.in_ok-root.field-0.root c.args.request.now.budget (rulebook_of packs) c.in_ok-solved.solved.ledger) c.of.ensures c.in_ok-solved.ensures.filled in
    let alone = subst (λ (packs : Packs). Alone tile_meaning c.in_ok-root.field-0.root c.args.request.now.budget (rulebook_of packs) c.in_ok-solved.solved.ledger) c.of.ensures c.in_ok-solved.ensures.alone in
    solved_for c.args.request.now c.in_ok-root.field-0.root reduced c.in_ok-solved.solved.ledger _ _ c.in_ok-solved.ensures.ledger filled (λ _. alone) c.in_ok-solved.ensures.reason c.in_ok-solved.ensures.spec c.in_ok-solved.ensures.filed

pub say-requires-clause-trace : goal.say-requires-clause-trace
say-requires-clause-trace c = c.as_slice-2.ensures.value ∙ c.in_ok-root.ensures.trace ∙ ap (λ (basis : List (List ℕ)). trace (root_of basis)) c.as_slice.ensures
