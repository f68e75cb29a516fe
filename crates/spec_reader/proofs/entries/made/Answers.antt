use Rattle.std.proofs.Common.{◌≡◌, rules, sym, ap, subst, ◌∙◌}
use Rattle.tiling_core.specs.Tiles.{Tiles, tiling_of}
use Rattle.spec_lines.specs.Files.{FileEntry}
use Rattle.spec_reader.specs.Drafts.{IsMakeable}
use Rattle.spec_reader.proofs.Parts.{parts_stay}
use Rattle.spec_reader.proofs.entries.made.Goals as goal

pub returns : goal.returns
returns c =
    let p = c.parts.inside in
    let made : c.in_ok-class.class ≡ tiling_of p.width p.height p.obstructions.items p.requirements.items = search rules in
    let class = made ∙ parts_stay p.width p.height p.obstructions.items p.requirements.items (subst (λ e. IsMakeable e) (sym c.parts.view_is) c.requires) in
    ap (λ (t : Tiles). record { class = t; rank = p.rank; kind = p.kind; children = p.children; traces = p.traces }) class ∙ c.parts.view_is
