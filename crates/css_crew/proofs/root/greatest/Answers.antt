-- The greatest so far and the next one.
use Rattle.std.proofs.Common.{◌≤◌, ⊎_elim, arith}
use Rattle.std.specs.Prelude.{slice_index}
use Rattle.lists.proofs.Numbers.{less_or_whole}
use Rattle.css_domain.specs.Records.{numbers}
use Rattle.css_crew.proofs.Numbering.{number_at}
use Rattle.css_crew.proofs.root.greatest.Goals as goal

pub loop-child-preserved : goal.loop-child-preserved
loop-child-preserved c = record {
  least = omega (arith, c.max-most-in-loop-child.ensures, c.loop-child.invariant.least);
  own = omega (arith, c.max-most-in-loop-child.ensures, c.loop-child.invariant.own);
  child = λ i h.
      ⊎_elim {C = slice_index (numbers c.args.item.now) i ≤ c.max-most-in-loop-child.result}
      (λ less. omega (arith, c.max-most-in-loop-child.ensures, c.loop-child.invariant.child i less))
      (λ same. omega (arith, c.max-most-in-loop-child.ensures, number_at c.args.item.now.children c.as_slice-child-items.result.now i c.loop-child.child-index c.as_slice-child-items.ensures same c.loop-child-test.true))
      (less_or_whole i c.loop-child.child-index (omega (arith, h)));
}
