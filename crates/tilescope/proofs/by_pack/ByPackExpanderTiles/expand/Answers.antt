use Rattle.std.proofs.Common.{rules, ◌≡◌, List, [], sym, ◌∙◌, subst}
use Rattle.std.specs.Prelude.{IfOk}
use Rattle.steps.specs.Traces.{IsTrace}
use Rattle.css_crew.specs.Ways.{IsExpansion}
use Rattle.rule_kinds.specs.Choices.{Packs}
use Rattle.rule_kinds.specs.Rules.{TilingRule}
use Rattle.tile_rules.specs.Complete.{rulebook_of}
use Rattle.tile_rules.specs.Meaning.{tile_meaning}
use Rattle.tiling_core.specs.Tiles.{Tiles}
use Rattle.tilescope.proofs.Expansions.{no_steps, none_filed, all_filed}
use Rattle.tilescope.proofs.by_pack.ByPackExpanderTiles.expand.Goals as goal

pub returns-then-not-is_empty : goal.returns-then-not-is_empty
returns-then-not-is_empty c =
    let none : c.of.result ≡ [] = c.of.ensures ∙ c.new.ensures.items in
    let some : c.in_ok-trace.trace.items ≡ [] → ⊥ = search rules in
    let traced = subst (λ (t : Tiles). IsTrace t c.in_ok-trace.trace.items) c.in_ok-copy.ensures c.in_ok-trace.ensures.traced in
    subst (λ (filed : List TilingRule). IsExpansion tile_meaning (rulebook_of c.args.self.now) c.args.class.now filed) (sym none)
    (none_filed (rulebook_of c.args.self.now) c.args.class.now (λ normal. some (no_steps c.args.class.now c.in_ok-trace.trace.items c.width.ensures.kept normal traced c.traces_are_determined.ensures.normal c.traces_are_determined.ensures.functional)))

pub returns : goal.returns
returns c =
    subst (λ (packs : Packs). IfOk c.expand.result (λ filed. IsExpansion tile_meaning (rulebook_of packs) c.args.class.now filed)) c.self.view_is
    (all_filed c.self.inside.packs c.args.class.now c.expand.result c.expand.ensures.complete c.expand.ensures.for_rulebook c.expand.ensures.words)
