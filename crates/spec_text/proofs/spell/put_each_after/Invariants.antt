use Rattle.std.proofs.Common.{◌≡◌, ◌++◌, take}
use Rattle.std.specs.Prelude.{map}
use Rattle.spec_lines.specs.Lines.{each_after}
use Rattle.spec_text.proofs.spell.put_each_after.Given as goal

abbrev pub invariant-loop-item : goal.invariant-loop-item
invariant-loop-item g l = l.out.items ≡ l.initial.out.items ++ each_after l.byte (map g.T.Spell.text (take l.item-index l.items))
