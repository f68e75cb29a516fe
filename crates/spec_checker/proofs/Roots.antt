-- Traces that don't lead to entry 0.
use Rattle.std.proofs.Common.{◌≡◌, ◌≤◌, ℕ, false, List, length, ap}
use Rattle.std.specs.Prelude.{◌↔◌, IsTrue, option_map}
use Rattle.lists.proofs.Places.{at_place}
use Rattle.tiling_core.specs.Tiles.{Tiles}
use Rattle.steps.specs.declared.step.Step.{Step}
use Rattle.steps.specs.Traces.{replay}
use Rattle.steps.specs.Refused.{IsFirstRefused}
use Rattle.css_domain.specs.Entries.{Entry}
use Rattle.rule_kinds.specs.Rules.{TilingRule}
use Rattle.tile_rules.proofs.Checked.{leads_nowhere}
use Rattle.spec_text.specs.Joined.{class_at}

pub no_root : (t : Tiles) (trace : List Step) (k : ℕ) (entries : List (Entry Tiles TilingRule)) → 1 ≤ length entries → IsFirstRefused t trace k → IsTrue false ↔ (replay t trace ≡ class_at entries 0)
no_root t trace k entries some r =
    let none = leads_nowhere t r.reached trace k r.within r.before r.refused in
    let first = at_place entries 0 some in
    let class = ap (option_map (λ (e : Entry Tiles TilingRule). e.class)) first.1 in (
      λ h. absurd cc,
      λ h. absurd cc,
    )
