use Rattle.std.proofs.Common.{rules}
use Rattle.css_log.proofs.SplitsAndJoins.{notes_as}
use Rattle.css_log.proofs.writer.Writer.note.Goals as goal

pub split_seat-seat-requires : goal.split_seat-seat-requires
split_seat-seat-requires c = (search rules, search rules, notes_as _ _ _ (λ i. (c.self.invariant.0 i).0))
