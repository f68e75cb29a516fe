use Rattle.std.proofs.Common.{◌≡◌, ◌++◌, ◌∙◌, subst}
use Rattle.std.specs.Prelude.{IfOk}
use Rattle.coord_maps.specs.Stretches.{preimages_of, each_preimages_of}
use Rattle.separation.proofs.Stretched.{obstructions_in, requirements_in, is_cut}
use Rattle.separation.proofs.children.cut_in_two.Goals as goal

pub in_grid-requires-clause-obstructions_in : goal.in_grid-requires-clause-obstructions_in
in_grid-requires-clause-obstructions_in c =
    obstructions_in c.args.axis c.args.tiling.now c.args.line c.args.set c.wider-wide.result c.in_ok-obstructions.obstructions.items c.add_all_preimages.new.found.items c.in_ok-lists.lists.items c.wider-wide.ensures c.in_ok-obstructions.ensures
    (c.in_ok-add_all_preimages.ensures ∙ (λ j. c.in_ok-obstructions.obstructions.items ++ preimages_of (c.halved-map.ensures.value j) (c.obstructions.ensures.value j)))
    (c.in_ok-lists.ensures ∙ (λ j. each_preimages_of (c.halved-map.ensures.value j) (c.requirements.ensures.value j)))

pub in_grid-requires-clause-requirements_in : goal.in_grid-requires-clause-requirements_in
in_grid-requires-clause-requirements_in c =
    requirements_in c.args.axis c.args.tiling.now c.args.line c.args.set c.wider-wide.result c.in_ok-obstructions.obstructions.items c.add_all_preimages.new.found.items c.in_ok-lists.lists.items c.wider-wide.ensures c.in_ok-obstructions.ensures
    (c.in_ok-add_all_preimages.ensures ∙ (λ j. c.in_ok-obstructions.obstructions.items ++ preimages_of (c.halved-map.ensures.value j) (c.obstructions.ensures.value j)))
    (c.in_ok-lists.ensures ∙ (λ j. each_preimages_of (c.halved-map.ensures.value j) (c.requirements.ensures.value j)))

pub returns : goal.returns
returns c =
    subst (λ z. IfOk c.in_grid.result (λ child. child ≡ z))
    (is_cut c.args.axis c.args.tiling.now c.args.line c.args.set c.wider-wide.result c.in_ok-obstructions.obstructions.items c.add_all_preimages.new.found.items c.in_ok-lists.lists.items c.wider-wide.ensures c.in_ok-obstructions.ensures
    (c.in_ok-add_all_preimages.ensures ∙ (λ j. c.in_ok-obstructions.obstructions.items ++ preimages_of (c.halved-map.ensures.value j) (c.obstructions.ensures.value j)))
    (c.in_ok-lists.ensures ∙ (λ j. each_preimages_of (c.halved-map.ensures.value j) (c.requirements.ensures.value j))))
    c.in_grid.ensures
