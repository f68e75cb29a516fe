use Rattle.std.proofs.Common.{List, ap, ◌∙◌}
use Rattle.gridded.specs.Grids.{Point}
use Rattle.tiling_core.specs.Patterns.{holds_another}
use Rattle.steps.proofs.Inactive.{all_behind, after_ascends, held_after}
use Rattle.steps.proofs.min_step.holds_behind.Goals as goal

pub holds_shorter-requires-clause-ascending : goal.holds_shorter-requires-clause-ascending
holds_shorter-requires-clause-ascending c =
    rw (all_behind c.args.first c.args.patterns.now) (after_ascends c.args.first c.args.patterns.now c.requires.ascending)

pub returns : goal.returns
returns c =
    c.holds_shorter.ensures
    ∙ ap (λ (ps : List (List Point)). holds_another ps c.args.g.now) (all_behind c.args.first c.args.patterns.now)
    ∙ held_after c.args.g.now c.args.first c.args.patterns.now c.requires.unheld
