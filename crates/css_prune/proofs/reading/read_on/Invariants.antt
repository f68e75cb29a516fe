use Rattle.std.proofs.Common.{◌≡◌, ◌+◌, ◌-◌, ◌≤◌, ◌++◌, List, length, take}
use Rattle.css_domain.specs.declared.record.Record.{Record}
use Rattle.css_domain.specs.WholeRecords.{IsWhole}
use Rattle.css_prune.specs.AmongWords.{AreKept}
use Rattle.css_prune.proofs.reading.read_on.Given as goal

-- the records so far are the first of the whole, and no word was read twice
abbrev pub invariant-loop-at : goal.invariant-loop-at
invariant-loop-at l =
    record {
      words : l.view.words ≡ l.initial.view.words;
      reads : l.view.reads + l.initial.at ≤ l.initial.view.reads + l.at;
      first : (w : IsWhole l.initial.view.words) → (more : List Record) × (l.records.items ++ more ≡ w.records);
      kept : AreKept l.records.items l.at;
      longer : take (length l.initial.records.items) l.records.items ≡ l.initial.records.items;
      further : l.initial.at ≤ l.at;
      within : l.at ≤ length l.initial.view.words;
    }

abbrev pub decreases-loop-at : goal.decreases-loop-at
decreases-loop-at l = length l.view.words - l.at
