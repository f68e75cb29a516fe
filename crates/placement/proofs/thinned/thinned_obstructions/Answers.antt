use Rattle.std.proofs.Common.{◌∙◌, List, ap, sym, subst, arith}
use Rattle.std.specs.Prelude.{length}
use Rattle.gridded.specs.Grids.{Point}
use Rattle.tiling_core.specs.Tiles.{AreGridded}
use Rattle.placement.proofs.LeftOut.{others_are, thinned_made}
use Rattle.placement.proofs.thinned.thinned_obstructions.Goals as goal

pub returns : goal.returns
returns c =
    let are = others_are c.args.map.now c.args.middle c.args.tiling.now c.args.pointed.now c.args.direction c.width.result c.height.result c.new-others.result.items c.add_alone.new.found.items c.add_farther.new.found.items
    c.new-others.ensures.items c.width.ensures.value c.height.ensures.value c.in_ok-add_alone.ensures c.in_ok-add_farther.ensures in
    thinned_made c.args.barred c.args.map.now c.args.middle c.args.tiling.now c.args.pointed.now c.args.direction c.obstructions.result.now c.deref-2.result.now c.new-found.result.items c.add_all_that_stay.new.found.items c.add_those_that_stay.new.found.items
    c.in_ok-first.first c.in_ok-second.second c.either.result c.obstructions.ensures.value (c.deref-2.ensures.value ∙ are) c.new-found.ensures.items c.in_ok-first.ensures.added c.in_ok-first.ensures.told c.in_ok-second.ensures.added c.in_ok-second.ensures.told c.either.ensures
    (subst (λ (ys : List (List Point)). AreGridded ys) (c.deref.ensures.value ∙ sym c.deref-2.ensures.value) c.read_patterns.ensures)
    (let long = ap (λ (ys : List (List Point)). length ys) c.deref-2.ensures.value in let e = c.len.ensures in let f = c.if-len-ge-TOO_MANY.false in omega (arith, long, e, f))
