use Rattle.std.proofs.Common.{◌∙◌, ◌+◌, ap}
use Rattle.listings.specs.Draws.{drawn_bases}
use Rattle.listings.proofs.Drawing.{basis_more, bases_end}
use Rattle.listings.proofs.draw.draw_bases.Goals as goal

pub loop-left-preserved : goal.loop-left-preserved
loop-left-preserved c = record {
  bases = basis_more c.loop-left.left c.loop-left.x c.next_number.result c.loop-left-test.true c.next_number.ensures.value c.loop-left.bases.items _ _ c.in_ok-basis.field-0.basis c.in_ok-basis.field-0.last c.in_ok-push.ensures.items c.in_ok-basis.ensures.basis c.in_ok-basis.ensures.last c.loop-left.invariant.bases;
  small = c.in_ok-basis.ensures.small;
}

pub returns : goal.returns
returns c = bases_end c.loop-left.left c.loop-left.x c.loop-left-test.false c.loop-left.bases.items _ (c.loop-left.invariant.bases ∙ ap (λ n. drawn_bases 40 (n + 1)) c.from-x.ensures)
