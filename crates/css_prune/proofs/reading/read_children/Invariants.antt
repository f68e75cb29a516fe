use Rattle.std.proofs.Common.{◌≡◌, ◌+◌, take}
use Rattle.css_domain.specs.declared.record.Record.{Record}
use Rattle.css_prune.specs.AmongWords.{StandsAt}
use Rattle.css_prune.proofs.reading.read_children.Given as goal

-- the children so far, and one reading for each
abbrev pub invariant-loop-slot : goal.invariant-loop-slot
invariant-loop-slot l =
    record {
      words : l.view.words ≡ l.initial.view.words;
      reads : l.view.reads ≡ l.initial.view.reads + l.slot;
      children : (r : Record) → StandsAt l.initial.view.words l.at r → l.children.items ≡ take l.slot r.children;
    }
