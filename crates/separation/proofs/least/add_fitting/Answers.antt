use Rattle.std.proofs.Common.{◌++◌, ◌∙◌, ap, sym, length}
use Rattle.std.proofs.lemmas.Bool.Decides.{Decides-eqb}
use Rattle.separation.proofs.Listing.{none_there, none_fit, all_fit}
use Rattle.separation.proofs.least.add_fitting.Goals as goal

pub returns-then-is_empty : goal.returns-then-is_empty
returns-then-is_empty c = none_there c.args.axis c.args.tiling.now c.args.line c.args.sets.now c.args.kinds.now.items ((Decides-eqb (length c.args.sets.now) 0).0 (sym c.is_empty.ensures ∙ c.if-is_empty.true))

pub returns-then-not-preimages_fit : goal.returns-then-not-preimages_fit
returns-then-not-preimages_fit c = none_fit c.args.axis c.args.tiling.now c.args.line c.args.sets.now c.args.kinds.now.items c.preimages_fit.result c.preimages_fit.ensures c.if-not-preimages_fit.true

pub returns : goal.returns
returns c = c.in_ok-add_kinds.ensures ∙ ap (λ kinds. c.args.kinds.now.items ++ kinds) (all_fit c.args.axis c.args.tiling.now c.args.line c.args.sets.now c.preimages_fit.result c.preimages_fit.ensures c.if-not-preimages_fit.false)
