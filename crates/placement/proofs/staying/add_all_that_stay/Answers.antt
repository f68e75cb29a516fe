use Rattle.std.proofs.Common.{◌∙◌, take}
use Rattle.coord_maps.specs.Preimages.{preimages}
use Rattle.coord_maps.specs.Stretches.{preimages_of}
use Rattle.placement.proofs.Leaving.{more_stay, more_leave, preimages_more}
use Rattle.placement.proofs.staying.add_all_that_stay.Goals as goal

pub loop-pattern-preserved : goal.loop-pattern-preserved
loop-pattern-preserved c =
    let index = c.loop-pattern.pattern-index in
    let patterns = c.args.patterns.now in
    let more = preimages_more c.args.map.now patterns index c.pattern-item.result c.loop-pattern-test.true c.pattern-item.is in (
      more_stay c.args.barred (preimages_of c.args.map.now (take index patterns)) (preimages c.args.map.now c.pattern-item.result) _ c.args.found.now.items c.loop-pattern.found.items c.add_preimages_that_stay.new.found.items more
          c.loop-pattern.invariant.0 c.in_ok-more.ensures.added,
      c.either-left_out.ensures
          ∙ more_leave c.args.barred (preimages_of c.args.map.now (take index patterns)) (preimages c.args.map.now c.pattern-item.result) _ c.loop-pattern.left_out c.in_ok-more.more more c.loop-pattern.invariant.1 c.in_ok-more.ensures.told,
    )
