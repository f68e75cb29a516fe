use Rattle.std.proofs.Common.{◌≡◌, take}
use Rattle.css_domain.specs.Records.{words_of}
use Rattle.css_domain.specs.Ledgers.{records}
use Rattle.css_domain.specs.WholeRecords.{IsWhole}
use Rattle.css_store.proofs.words.append_records.Given as goal

abbrev pub invariant-loop-position : goal.invariant-loop-position
invariant-loop-position g l = (l.writer ≡ record l.initial.writer { list = words_of (take l.position (records g.D.Domain.meaning l.ledger)) }) × IsWhole l.writer.list
