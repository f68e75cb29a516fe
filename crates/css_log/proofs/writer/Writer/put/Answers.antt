use Rattle.std.proofs.Common.{rules, ◌≡◌, ◌+◌, ◌<◌, length, arith}
use Rattle.css_log.specs.States.{list_of}
use Rattle.css_log.proofs.WriterSteps.{appends_as}
use Rattle.css_log.proofs.writer.Writer.put.Goals as goal

pub store-requires : goal.store-requires
store-requires c =
    let len : length (list_of c.self.inside.seat.me.0) ≡ c.self.inside.len = c.self.invariant.1 in
    let room : c.self.inside.len + 2 < c.log.inside.table.shared.table_id.words = search rules in
    (search rules, room, appends_as _ _ _ _ _ _ c.self.invariant.0 (omega arith) (search rules))
