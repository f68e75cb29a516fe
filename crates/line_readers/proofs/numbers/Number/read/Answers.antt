use Rattle.std.proofs.Common.{◌≡◌, ◌-◌, true, length, sym, refl, rules}
use Rattle.spec_lines.specs.Readings.{is_led}
use Rattle.line_readers.proofs.Values.{both_read}
use Rattle.line_readers.proofs.numbers.Number.read.Goals as goal

pub returns : goal.returns
returns c =
    let mid : c.saturating_sub.result ≡ length c.args.text.now - 20 = search rules in
    let led : is_led c.args.text.now ≡ true = search rules in
    let front = rw c.split_at.ensures.front at c.in_ok-front.ensures in
    let back = rw c.split_at.ensures.back at c.in_ok-back.ensures in
    sym (both_read c.args.text.now c.saturating_sub.result c.in_ok-front.front c.in_ok-back.back mid led (sym front) (sym back))
