use Rattle.std.proofs.Common.{subst}
use Rattle.rule_kinds.specs.Choices.{Packs}
use Rattle.tile_rules.specs.Complete.{rulebook_of}
use Rattle.tile_rules.specs.Meaning.{tile_meaning}
use Rattle.css_domain.specs.Reasons.{Alone}
use Rattle.css_crew.specs.Crews.{IsFilled}
use Rattle.tilescope.specs.Samples.{sample_request}
use Rattle.tilescope.proofs.Solving.{solved_for}
use Rattle.tilescope.proofs.sample.solve_basis.Goals as goal

pub returns : goal.returns
returns c =
    let filled = subst (λ (packs : Packs). IsFilled tile_meaning c.in_ok-root.field-0.root 30 (rulebook_of packs) c.in_ok-solved.solved.ledger) c.of.ensures c.in_ok-solved.ensures.filled in
    let alone = subst (λ (packs : Packs). Alone tile_meaning c.in_ok-root.field-0.root 30 (rulebook_of packs) c.in_ok-solved.solved.ledger) c.of.ensures c.in_ok-solved.ensures.alone in
    solved_for (sample_request c.args.basis.now) c.in_ok-root.field-0.root c.in_ok-root.ensures.root c.in_ok-solved.solved.ledger _ _ c.in_ok-solved.ensures.ledger filled (λ _. alone) c.in_ok-solved.ensures.reason c.in_ok-solved.ensures.spec c.in_ok-solved.ensures.filed
