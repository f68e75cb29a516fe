use Rattle.std.proofs.Common.{◌≡◌, List, subst, sym, ap, ◌∙◌}
use Rattle.rule_kinds.specs.Pointeds.{PointedPattern}
use Rattle.rule_kinds.specs.declared.kind.Kind.{Kind}
use Rattle.rule_kinds.specs.declared.kind.Kind.TheVariants as kind
use Rattle.rule_kinds.specs.Children.{raw_children}
use Rattle.work_packs.specs.RulesMade.{AreReduced}
use Rattle.work_packs.proofs.filed.reduced_children.Goals as goal

pub returns-in-Place : goal.returns-in-Place
returns-in-Place c =
    let is : kind.Place c.as_slice.result.now c.in-Place.direction ≡ c.args.kind.now = ap (λ (qs : List PointedPattern). kind.Place qs c.in-Place.direction) c.as_slice.ensures ∙ sym c.in-Place.is in
    subst (λ (k : Kind). AreReduced (raw_children c.args.tiling.now k) c.in_ok-children.children.items c.in_ok-children.traces.items) is
    (c.in_ok-children.ensures (raw_children c.args.tiling.now (kind.Place c.as_slice.result.now c.in-Place.direction)) c.in_ok-thinned.ensures.tilings c.in_ok-thinned.ensures.thinned)
