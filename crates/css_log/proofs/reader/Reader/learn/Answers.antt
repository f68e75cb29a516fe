use Rattle.std.proofs.Common.{rules}
use Rattle.css_log.proofs.SplitsAndJoins.{learns_as}
use Rattle.css_log.proofs.reader.Reader.learn.Goals as goal

pub join_seat-requires : goal.join_seat-requires
join_seat-requires c = (search rules, search rules, search rules, search rules, learns_as _ _ _ _ _ _ (λ i. (c.self.invariant.0 i).0) (λ i. (c.note.invariant.0 i).0))
