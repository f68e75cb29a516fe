use Rattle.std.proofs.Common.{◌++◌, ◌∙◌, ap}
use Rattle.std.specs.Prelude.{map}
use Rattle.rule_kinds.specs.Kinds.{cut_kind}
use Rattle.separation.specs.LeastCuts.{where_they_fit}
use Rattle.separation.proofs.Listing.{line_found}
use Rattle.separation.proofs.least.add_cuts.Goals as goal

pub returns : goal.returns
returns c =
    c.in_ok-add_fitting.ensures
    ∙ ap (λ sets. c.args.kinds.now.items ++ map (cut_kind c.args.axis c.args.line) (where_they_fit c.args.axis c.args.tiling.now c.args.line sets)) c.deref.ensures.value
    ∙ ap (λ kinds. c.args.kinds.now.items ++ kinds)
    (line_found c.args.axis c.args.tiling.now c.args.line c.active_on-whole.result c.in_ok-sets.sets.items c.closures_come_first.ensures c.requires.few c.requires.inside c.active_on-whole.ensures.value c.active_on-whole.ensures.of_line c.in_ok-sets.ensures)
