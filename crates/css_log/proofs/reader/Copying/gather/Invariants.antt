use Rattle.std.proofs.Common.{◌≡◌, ◌≤◌, ◌-◌, ◌+◌, vec_len, vec_capacity}
use mathlib.Core.List.{IsPrefix}
use Rattle.css_domain.specs.WholeRecords.{IsWhole}
use Rattle.css_log.specs.States.{reading}
use Rattle.css_log.specs.Told.{seated}
use Rattle.css_log.proofs.reader.Copying.gather.Given as goal

abbrev pub invariant-loop-self : goal.invariant-loop-self
invariant-loop-self l =
    (l.self.seat.table_id ≡ l.initial.self.seat.table_id)
    × (l.self.seen ≡ l.initial.self.seen)
    × (l.self.stops ≡ l.initial.self.stops)
    × (l.self.seat.me ≡ seated (reading l.self.seat.table_id l.self.words.items l.self.seen l.self.stops))
    × (vec_len l.self.words ≤ l.self.seen)
    × (vec_len l.self.words ≡ l.self.seen → IsWhole l.self.words.items)
    × (l.self.seen + 2 ≤ l.self.seat.table_id.words)
    × (l.self.seen ≤ vec_capacity l.self.words)
    × IsPrefix l.initial.self.words.items l.self.words.items

abbrev pub decreases-loop-self : goal.decreases-loop-self
decreases-loop-self l = l.self.seen - vec_len l.self.words
