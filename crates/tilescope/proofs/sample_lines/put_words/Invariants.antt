use Rattle.std.proofs.Common.{◌≡◌, ◌++◌, take}
use Rattle.std.specs.Prelude.{map}
use Rattle.spec_lines.specs.Lines.{each_after}
use Rattle.spec_lines.specs.Patterns.{word_text}
use Rattle.tilescope.proofs.sample_lines.put_words.Given as goal

abbrev pub invariant-loop-word : goal.invariant-loop-word
invariant-loop-word l = l.out.items ≡ l.initial.out.items ++ each_after 44 (map word_text (take l.word-index l.words))
