use Rattle.std.proofs.Common.{◌∙◌}
use Rattle.coord_maps.specs.Preimages.{preimages}
use Rattle.rule_kinds.specs.Kinds.{point_of}
use Rattle.placement.specs.Placing.{is_sought}
use Rattle.placement.proofs.Lifted.{place_within, all_lifted}
use Rattle.placement.proofs.lifting.add_lifted.Goals as goal

pub add_if_sought-requires : goal.add_if_sought-requires
add_if_sought-requires c =
    let listed = c.deref-pattern-items.ensures.value ∙ rw c.pattern.ensures at c.in_ok-lifted.ensures.value in
    rw c.index-place.ensures.value (place_within c.args.map.now c.args.pointed.now c.deref-pattern-items.result.now c.loop-pattern.pattern-index c.pattern-item.result listed c.loop-pattern-test.true c.pattern-item.is c.index-place.ensures.place)

pub returns : goal.returns
returns c =
    let listed = c.deref-pattern-items.ensures.value ∙ rw c.pattern.ensures at c.in_ok-lifted.ensures.value in
    all_lifted (λ g. is_sought c.args.sought c.args.middle (point_of g c.args.pointed.now.index).cell) c.deref-pattern-items.result.now (preimages c.args.map.now c.args.pointed.now.pattern) c.args.found.now.items c.loop-pattern.found.items c.loop-pattern.pattern-index listed c.loop-pattern-test.false c.loop-pattern.invariant
