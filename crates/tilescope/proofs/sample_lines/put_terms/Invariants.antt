use Rattle.std.proofs.Common.{◌≡◌, ◌++◌, take}
use Rattle.std.specs.Prelude.{map}
use Rattle.spec_lines.specs.Lines.{each_after}
use Rattle.spec_lines.specs.Terms.{term_text}
use Rattle.tilescope.proofs.sample_lines.put_terms.Given as goal

abbrev pub invariant-loop-term : goal.invariant-loop-term
invariant-loop-term l = l.out.items ≡ l.initial.out.items ++ each_after 32 (map term_text (take l.term-index l.terms))
