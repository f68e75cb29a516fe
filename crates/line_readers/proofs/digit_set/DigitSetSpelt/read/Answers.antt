use Rattle.std.proofs.Common.{◌≡◌, true, sym, rules}
use Rattle.std.specs.Prelude.{Some}
use Rattle.gridded.specs.Orders.{cell_cmp}
use Rattle.spec_lines.specs.Forms.{ascending, is_set}
use Rattle.spec_lines.specs.Readings.{set_at}
use Rattle.line_readers.proofs.Conditions.{set_fits, kept_in}
use Rattle.line_readers.proofs.digit_set.DigitSetSpelt.read.Goals as goal

pub invariant_of-result : goal.invariant_of-result
invariant_of-result c =
    let cells : set_at c.args.text.now ≡ Some c.in-Some.cells = search rules in
    let up : ascending cell_cmp c.in-Some.cells ≡ true = search rules in
    set_fits c.args.text.now c.in-Some.cells cells up

pub returns : goal.returns
returns c =
    let cells : set_at c.args.text.now ≡ Some c.in-Some.cells = search rules in
    let up : ascending cell_cmp c.in-Some.cells ≡ true = search rules in
    sym (kept_in is_set (set_at c.args.text.now) c.in-Some.cells cells (set_fits c.args.text.now c.in-Some.cells cells up))
