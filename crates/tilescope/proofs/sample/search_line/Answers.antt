use Rattle.std.proofs.Common.{◌++◌, ◌∷◌, length, ap, ◌∙◌, subst}
use Rattle.std.specs.Prelude.{Option, IfSome, map, codes, decimal}
use Rattle.css_crew.specs.Ways.{GoesWith, reason_as}
use Rattle.css_domain.specs.FiledSpecs.{IsFiledSpec}
use Rattle.css_domain.specs.Ledgers.{Counts}
use Rattle.tile_rules.specs.Meaning.{tile_meaning}
use Rattle.spec_lines.specs.Lines.{line}
use Rattle.spec_lines.specs.Terms.{term_text}
use Rattle.tilescope.specs.Searches.{TileEntries, none_line}
use Rattle.tilescope.specs.Samples.{basis_text}
use Rattle.tilescope.proofs.Searching.{search_lost, search_found}
use Rattle.tilescope.proofs.sample.search_line.Goals as goal

pub returns-in_default : goal.returns-in_default
returns-in_default c =
    let unsettled = subst (λ (spec : Option TileEntries). GoesWith tile_meaning c.args.solved.ledger spec) c.in_default.is c.requires.solved.goes in
    search_lost c.filed_specs_stand.ensures c.exhausted_is_beyond_the_pack.ensures.normal c.exhausted_is_beyond_the_pack.ensures.none c.exhausted_is_beyond_the_pack.ensures.found c.args.basis.now
    c.args.solved.ledger (reason_as c.args.solved.reason) c.args.solved.spec c.requires.solved c.in_ok-text.text.items unsettled
    (c.in_ok-text.ensures ∙ ap (λ (n : Counts). basis_text c.args.basis.now ++ codes " " ++ none_line (reason_as c.args.solved.reason) n) c.counts.ensures.answer)

pub returns : goal.returns
returns c =
    let picked = subst (λ (spec : Option TileEntries). GoesWith tile_meaning c.args.solved.ledger spec) c.in-Some.is c.requires.solved.goes in
    let filed = subst (λ (spec : Option TileEntries). IfSome spec (λ entries. IsFiledSpec tile_meaning c.args.solved.ledger entries)) c.in-Some.is c.requires.solved.filed in
    search_found c.filed_specs_stand.ensures c.exhausted_is_beyond_the_pack.ensures.normal c.exhausted_is_beyond_the_pack.ensures.none c.exhausted_is_beyond_the_pack.ensures.found c.args.basis.now
    c.args.solved.ledger (reason_as c.args.solved.reason) c.args.solved.spec c.requires.solved c.in-Some.spec c.in_ok-terms.terms.items c.in_ok-text-2.text.items picked filed c.in_ok-terms.ensures.terms
    (c.in_ok-text-2.ensures ∙ (λ i. line (basis_text c.args.basis.now) (codes "found" ∷ decimal (length (c.entries.ensures.entries i)) ∷ map term_text (c.as_slice.ensures.value i))))
