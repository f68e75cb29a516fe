use Rattle.std.proofs.Common.{◌≡◌, ◌++◌, ℕ, map, length, ap, ◌∙◌, arith}
use Rattle.rule_kinds.specs.Lines.{numbers_below}
use Rattle.placement.specs.Placing.{kinds_in_all}
use Rattle.placement.proofs.Tried.{places_step}
use Rattle.placement.proofs.places.add_places.Goals as goal

pub loop-index-preserved : goal.loop-index-preserved
loop-index-preserved c =
    places_step c.args.tiling.now c.args.pattern c.loop-index.index c.of.result c.args.kinds.now.items c.loop-index.kinds.items c.add_both.new.kinds.items c.add_both-in-loop-index.new.kinds.items c.of.ensures c.loop-index.invariant c.in_ok-add_both.ensures c.in_ok-add_both-2.ensures

pub returns : goal.returns
returns c =
    let whole : c.loop-index.index ≡ length c.args.pattern = omega (arith, c.len-index-end.ensures.value) in
    c.loop-index.invariant ∙ ap (λ (n : ℕ). c.args.kinds.now.items ++ kinds_in_all c.args.tiling.now (map (λ index. record { pattern = c.args.pattern; index = index }) (numbers_below n))) whole
