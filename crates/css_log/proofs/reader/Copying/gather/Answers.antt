use Rattle.std.proofs.Common.{rules, arith, ◌≡◌, ◌+◌, ◌<◌, ◌≤◌, length, vec_len, ap}
use Rattle.atomic_table.specs.Seated.{TableId}
use Rattle.css_log.proofs.ReaderSteps.{pulls_as}
use Rattle.css_log.proofs.reader.Copying.gather.Goals as goal

pub load-word-requires : goal.load-word-requires
load-word-requires c =
    let i = c.loop-self.invariant in
    let len : length c.loop-self.self.words.items ≡ vec_len c.loop-self.self.words = search rules in
    let at : c.len-in-loop-self.result ≡ vec_len c.loop-self.self.words = c.len-in-loop-self.ensures in
    let same : c.len.result ≡ vec_len c.loop-self.self.words = c.len.ensures in
    let below : c.len.result < c.loop-self.self.seen = c.loop-self-test.true in
    let room : c.loop-self.self.seen + 2 ≤ c.loop-self.self.seat.table_id.words = i.6 in
    let table : c.loop-self.self.seat.table_id ≡ c.log.inside.table.shared.table_id = search rules in
    let words : c.loop-self.self.seat.table_id.words ≡ c.log.inside.table.shared.table_id.words = ap (λ (z : TableId). z.words) table in
    (table, omega arith, pulls_as _ _ _ _ _ i.3 (omega arith) (omega arith))
