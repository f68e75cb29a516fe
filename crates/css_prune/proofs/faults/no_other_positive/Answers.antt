use Rattle.std.proofs.Common.{◌≡◌, false, get_or, sym, arith}
use Rattle.std.specs.Prelude.{map, ◌≢◌}
use Rattle.std.proofs.lemmas.List.{length-map}
use Rattle.css_prune.proofs.FirstFaults.{one_but_slot, none_but_slot}
use Rattle.css_prune.proofs.faults.no_other_positive.Goals as goal
use Rattle.lists.proofs.Numbers.{up_to_next}

pub returns-then-is_other_positive : goal.returns-then-is_other_positive
returns-then-is_other_positive g c =
    let children = g.D.Domain.meaning.children c.args.rule.now in
    let many = length-map children g.D.Domain.meaning.positive in
    let y = c.is_other_positive.ensures.yes c.if-is_other_positive.true in
    sym (one_but_slot (map g.D.Domain.meaning.positive children) c.args.slot c.loop-other.other (omega (arith, many, c.loop-other-test.true, c.arity-other-end.ensures)) y.0 y.1)

pub loop-other-preserved : goal.loop-other-preserved
loop-other-preserved g c =
    up_to_next (λ s. s ≢ c.args.slot → get_or (map g.D.Domain.meaning.positive (g.D.Domain.meaning.children c.args.rule.now)) s false ≡ false) c.loop-other.other c.loop-other.invariant (c.is_other_positive.ensures.no c.if-is_other_positive.false)

pub returns : goal.returns
returns g c =
    let children = g.D.Domain.meaning.children c.args.rule.now in
    let many = length-map children g.D.Domain.meaning.positive in
    sym (none_but_slot (map g.D.Domain.meaning.positive children) c.args.slot (λ s l. c.loop-other.invariant s (omega (arith, l, many, c.loop-other-test.false, c.arity-other-end.ensures))))
