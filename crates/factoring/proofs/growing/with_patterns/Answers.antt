use Rattle.std.proofs.Common.{List, ap, ◌∙◌}
use Rattle.std.specs.Prelude.{◌||◌}
use Rattle.std.specs.List.{list_any}
use Rattle.gridded.specs.Grids.{Point}
use Rattle.gridded.specs.Places.{touches}
use Rattle.normal_form.proofs.UsedLines.{grows, whole, none_yet}
use Rattle.factoring.proofs.growing.with_patterns.Goals as goal

pub loop-g-init : goal.loop-g-init
loop-g-init c = λ test. none_yet (touches test) c.args.patterns.now (list_any test c.args.cells)

pub loop-g-preserved : goal.loop-g-preserved
loop-g-preserved c = λ test.
    grows (touches test) c.args.patterns.now c.loop-g.g-index c.g-item.result (list_any test c.args.cells) (list_any test c.loop-g.larger) (list_any test c.with_pattern-larger.result) c.loop-g-test.true (c.loop-g.invariant test)
    (c.with_pattern-larger.ensures test ∙ ap (λ (item : List Point). list_any test c.loop-g.larger || touches test item) c.g-item.is)

pub returns : goal.returns
returns c = λ test. whole (touches test) c.args.patterns.now c.loop-g.g-index (list_any test c.args.cells) (list_any test c.loop-g.larger) c.loop-g-test.false (c.loop-g.invariant test)
