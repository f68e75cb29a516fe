use Rattle.std.proofs.Common.{◌≡◌, take}
use Rattle.std.specs.Prelude.{map, zip}
use Rattle.css_terms.proofs.spec_terms.row_of.Given as goal

abbrev pub invariant-loop-slot : goal.invariant-loop-slot
invariant-loop-slot g l = l.children.items ≡ take l.slot (zip l.entry.children (map g.D.Domain.meaning.positive (g.D.Domain.meaning.children l.entry.rule)))
