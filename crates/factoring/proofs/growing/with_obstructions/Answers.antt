use Rattle.std.proofs.Common.{List, ap, ◌∙◌}
use Rattle.std.specs.Prelude.{◌||◌}
use Rattle.std.specs.List.{list_any}
use Rattle.gridded.specs.Grids.{Point}
use Rattle.factoring.specs.Tied.{is_tied_alone}
use Rattle.normal_form.proofs.UsedLines.{grows, whole, none_yet}
use Rattle.factoring.proofs.growing.with_obstructions.Goals as goal

pub loop-g-init : goal.loop-g-init
loop-g-init c = λ test. none_yet (is_tied_alone c.args.set test) c.args.patterns.now (list_any test c.args.cells)

pub loop-g-preserved : goal.loop-g-preserved
loop-g-preserved c = λ test.
    grows (is_tied_alone c.args.set test) c.args.patterns.now c.loop-g.g-index c.g-item.result (list_any test c.args.cells) (list_any test c.loop-g.larger) (list_any test c.with_obstruction-larger.result) c.loop-g-test.true (c.loop-g.invariant test)
    (c.with_obstruction-larger.ensures test ∙ ap (λ (item : List Point). list_any test c.loop-g.larger || is_tied_alone c.args.set test item) c.g-item.is)

pub returns : goal.returns
returns c = λ test. whole (is_tied_alone c.args.set test) c.args.patterns.now c.loop-g.g-index (list_any test c.args.cells) (list_any test c.loop-g.larger) c.loop-g-test.false (c.loop-g.invariant test)
