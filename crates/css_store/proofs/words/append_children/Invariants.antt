use Rattle.std.proofs.Common.{◌≡◌, ◌++◌, take}
use Rattle.css_domain.specs.Ledgers.{classes, record_of}
use Rattle.css_store.specs.RecordWords.{child_words}
use Rattle.css_store.proofs.words.append_children.Given as goal

abbrev pub invariant-loop-slot : goal.invariant-loop-slot
invariant-loop-slot g l = l.writer ≡ record l.initial.writer { list = l.initial.writer.list ++ take l.slot (child_words (record_of g.D.Domain.meaning (classes g.D.Domain.meaning l.ledger) l.rule)) }
