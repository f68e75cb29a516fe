use Rattle.std.proofs.Common.{List, ap, ◌∙◌}
use Rattle.std.specs.Prelude.{◌||◌}
use Rattle.std.specs.List.{list_any}
use Rattle.gridded.specs.Grids.{Point}
use Rattle.factoring.specs.Tied.{is_tied}
use Rattle.normal_form.proofs.UsedLines.{grows, whole, none_yet}
use Rattle.factoring.proofs.growing.with_lists.Goals as goal

pub loop-patterns-init : goal.loop-patterns-init
loop-patterns-init c = λ test. none_yet (is_tied c.args.set test) c.args.lists.now (list_any test c.args.cells)

pub loop-patterns-preserved : goal.loop-patterns-preserved
loop-patterns-preserved c = λ test.
    grows (is_tied c.args.set test) c.args.lists.now c.loop-patterns.patterns-index c.patterns-item.result (list_any test c.args.cells) (list_any test c.loop-patterns.larger) (list_any test c.with_list-larger.result) c.loop-patterns-test.true (c.loop-patterns.invariant test)
    (c.with_list-larger.ensures test ∙ ap (λ (item : List (List Point)). list_any test c.loop-patterns.larger || is_tied c.args.set test item) (c.as_slice.ensures ∙ c.patterns-item.is))

pub returns : goal.returns
returns c = λ test. whole (is_tied c.args.set test) c.args.lists.now c.loop-patterns.patterns-index (list_any test c.args.cells) (list_any test c.loop-patterns.larger) c.loop-patterns-test.false (c.loop-patterns.invariant test)
