use Rattle.std.proofs.Common.{◌++◌, List, sym, ap, ◌∙◌, arith}
use Rattle.gridded.specs.Grids.{Point}
use Rattle.coord_maps.specs.Preimages.{preimages}
use Rattle.placement.proofs.Leaving.{singles_stay, others_stay, told_by_lengths, none_leave}
use Rattle.placement.proofs.staying.add_preimages_that_stay.Goals as goal

pub returns-then-len-eq1-clause-added : goal.returns-then-len-eq1-clause-added
returns-then-len-eq1-clause-added c =
    c.in_ok-add_preimages.ensures.added
    ∙ ap (λ (more : List (List Point)). c.args.found.now.items ++ more) (sym (singles_stay c.args.map.now c.args.barred c.args.pattern.now (sym c.len.ensures.value ∙ c.if-len-eq1.true)))

pub returns-then-len-eq1-clause-told : goal.returns-then-len-eq1-clause-told
returns-then-len-eq1-clause-told c =
    none_leave c.args.barred (preimages c.args.map.now c.args.pattern.now) (singles_stay c.args.map.now c.args.barred c.args.pattern.now (sym c.len.ensures.value ∙ c.if-len-eq1.true))

pub returns-clause-added : goal.returns-clause-added
returns-clause-added c =
    c.in_ok-add_preimages_outside.ensures.added
    ∙ ap (λ (more : List (List Point)). c.args.found.now.items ++ more) (others_stay c.args.map.now c.args.barred c.args.pattern.now (λ e. c.if-len-eq1.false (c.len.ensures.value ∙ e)))

pub returns-clause-told : goal.returns-clause-told
returns-clause-told c =
    told_by_lengths c.args.barred (preimages c.args.map.now c.args.pattern.now) _ c.args.found.now.items c.add_preimages_outside.new.found.items c.len-2.result c.len-before.result c.preimage_count.result
    (others_stay c.args.map.now c.args.barred c.args.pattern.now (λ e. c.if-len-eq1.false (c.len.ensures.value ∙ e)))
    c.in_ok-add_preimages_outside.ensures.added (omega (arith, c.len-2.ensures, c.add_preimages_outside.new.found.ok)) (omega (arith, c.len-before.ensures, c.args.found.now.ok)) c.preimage_count.ensures
