use Rattle.std.proofs.Common.{rules, ◌<◌, take, length, refl}
use Rattle.std.proofs.lemmas.Option.{slice_get_read}
use Rattle.spec_text.specs.Entries.{entries_text}
use Rattle.spec_text.specs.EntryLaws.{entries_taken}
use Rattle.spec_text.proofs.ChildLines.{grown}
use Rattle.spec_text.proofs.entry.put_entries.Goals as goal

pub loop-number-preserved : goal.loop-number-preserved
loop-number-preserved c =
    let below : c.loop-number.number < length c.args.entries.now = search rules in
    let there = slice_get_read c.args.entries.now (length c.args.entries.now) c.loop-number.number c.index-entries-number.result refl below c.index-entries-number.is in
    let taken = entries_taken c.args.entries.now c.loop-number.number c.index-entries-number.result there in
    grown c.args.out.now.items c.loop-number.out.items c.put.new.out.items (entries_text (take c.loop-number.number c.args.entries.now)) _ _ c.in_ok-put.ensures c.loop-number.invariant taken
