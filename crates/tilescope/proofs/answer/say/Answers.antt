use Rattle.std.proofs.Common.{ap, ◌∙◌, subst}
use Rattle.std.specs.Prelude.{Option, IfSome}
use Rattle.css_crew.specs.Ways.{GoesWith, reason_as}
use Rattle.css_domain.specs.FiledSpecs.{IsFiledSpec}
use Rattle.css_domain.specs.Ledgers.{Counts}
use Rattle.tile_rules.specs.Meaning.{tile_meaning}
use Rattle.spec_text.specs.Texts.{spec_text}
use Rattle.tilescope.specs.Searches.{TileEntries, none_line}
use Rattle.tilescope.proofs.Solving.{none_answer, found_answer}
use Rattle.tilescope.proofs.answer.say.Goals as goal

pub returns-in_default : goal.returns-in_default
returns-in_default c =
    let unsettled = subst (λ (spec : Option TileEntries). GoesWith tile_meaning c.args.solved.ledger spec) c.in_default.is c.requires.solved.goes in
    none_answer c.filed_specs_stand.ensures c.exhausted_is_beyond_the_pack.ensures.normal c.exhausted_is_beyond_the_pack.ensures.none c.exhausted_is_beyond_the_pack.ensures.found c.args.request.now c.requires.letter
    c.args.solved.ledger (reason_as c.args.solved.reason) c.args.solved.spec c.requires.solved c.in_ok-text.text.items unsettled
    (c.in_ok-text.ensures ∙ ap (λ (n : Counts). none_line (reason_as c.args.solved.reason) n) c.counts.ensures.answer)
    _ _ _ c.of.ensures

pub returns : goal.returns
returns c =
    let picked = subst (λ (spec : Option TileEntries). GoesWith tile_meaning c.args.solved.ledger spec) c.in-Some.is c.requires.solved.goes in
    let filed = subst (λ (spec : Option TileEntries). IfSome spec (λ entries. IsFiledSpec tile_meaning c.args.solved.ledger entries)) c.in-Some.is c.requires.solved.filed in
    let terms = c.as_slice.ensures.value ∙ c.in_ok-terms.ensures.terms in
    found_answer c.filed_specs_stand.ensures c.exhausted_is_beyond_the_pack.ensures.normal c.exhausted_is_beyond_the_pack.ensures.none c.exhausted_is_beyond_the_pack.ensures.found c.args.request.now c.requires.letter
    c.args.solved.ledger (reason_as c.args.solved.reason) c.args.solved.spec c.requires.solved c.specs_are_spelled.ensures.kept c.requires.basis c.requires.short c.in-Some.spec c.args.steps.now c.in_ok-text-2.text.items picked filed c.requires.trace
    (c.in_ok-text-2.ensures ∙ (λ i. spec_text (c.as_slice-basis.ensures i) c.args.steps.now c.in-Some.spec (terms i)))
    _ _ _ c.of-2.ensures
