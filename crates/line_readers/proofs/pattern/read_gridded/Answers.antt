use Rattle.std.proofs.Common.{◌≡◌, true, length, sym, ap, ◌∙◌, rules}
use Rattle.std.specs.Prelude.{Some}
use Rattle.gridded.specs.Grids.{points, is_consistent}
use Rattle.spec_lines.specs.Items.{items, read_all}
use Rattle.spec_lines.specs.Readings.{cell_at, word_at}
use Rattle.line_readers.proofs.Wide.{wide_by, read_by, cells_digits}
use Rattle.line_readers.proofs.pattern.read_gridded.Goals as goal

pub invariant_of-result : goal.invariant_of-result
invariant_of-result c =
    let cells : read_all cell_at (items 46 c.args.cells.now) ≡ Some c.in_ok-cells.cells = search rules in
    let as_many : length c.in_ok-word.word ≡ length c.in_ok-cells.cells = search rules in
    let fit : is_consistent (points c.in_ok-word.word c.in_ok-cells.cells) ≡ true = search rules in
    wide_by c.into_letters.result.items c.in_ok-word.word c.in_ok-cells.cells c.into_letters.ensures.value c.into_letters.ensures.word as_many (cells_digits (items 46 c.args.cells.now) c.in_ok-cells.cells cells) fit

pub returns : goal.returns
returns c =
    let word : word_at c.args.word.now ≡ Some c.in_ok-word.word = search rules in
    let cells : read_all cell_at (items 46 c.args.cells.now) ≡ Some c.in_ok-cells.cells = search rules in
    let as_many : length c.in_ok-word.word ≡ length c.in_ok-cells.cells = search rules in
    let fit : is_consistent (points c.in_ok-word.word c.in_ok-cells.cells) ≡ true = search rules in
    sym (read_by c.args.word.now c.args.cells.now c.into_letters.result.items c.in_ok-word.word c.in_ok-cells.cells c.into_letters.ensures.value word cells as_many c.into_letters.ensures.word fit)
