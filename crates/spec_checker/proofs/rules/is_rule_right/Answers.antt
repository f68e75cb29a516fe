use Rattle.std.proofs.Common.{ap}
use Rattle.std.specs.Prelude.{map}
use Rattle.std.proofs.lemmas.Result.{IfOk-weaker}
use Rattle.lists.proofs.Places.{some_at}
use Rattle.tiling_core.specs.Tiles.{Tiles}
use Rattle.css_domain.specs.Entries.{Entry}
use Rattle.rule_kinds.specs.Rules.{TilingRule}
use Rattle.spec_checker.proofs.Telling.{tell_repeated, tell_uncalled, tell_right}
use Rattle.spec_checker.proofs.rules.is_rule_right.Goals as goal

pub returns-then-not-branch-clause-right : goal.returns-then-not-branch-clause-right
returns-then-not-branch-clause-right c =
    let at = some_at c.args.entries.now c.args.place c.index-entries-place.result c.requires.within c.index-entries-place.is in
    let own = ap (λ (e : Entry Tiles TilingRule). e.class) c.entry.view_is in
    tell_repeated c.args.entries.now c.args.place c.index-entries-place.result at c.entry.inside.class own (map (λ t. t.now) c.args.seen.now.keys) c.requires.seen c.in_ok-is_new.field-0 c.if-not-branch.true c.in_ok-is_new.ensures.new.1

pub returns-then-not-is_called-clause-right : goal.returns-then-not-is_called-clause-right
returns-then-not-is_called-clause-right c =
    let at = some_at c.args.entries.now c.args.place c.index-entries-place.result c.requires.within c.index-entries-place.is in
    let own = ap (λ (e : Entry Tiles TilingRule). e.class) c.entry.view_is in
    tell_uncalled c.args.entries.now c.args.place c.index-entries-place.result at c.entry.inside.class own (map (λ t. t.now) c.args.seen.now.keys) c.requires.seen c.args.named.now c.requires.named c.requires.within c.is_called.result c.if-not-is_called.true c.is_called.ensures.1

pub returns-clause-right : goal.returns-clause-right
returns-clause-right c =
    let at = some_at c.args.entries.now c.args.place c.index-entries-place.result c.requires.within c.index-entries-place.is in
    let own = ap (λ (e : Entry Tiles TilingRule). e.class) c.entry.view_is in
    IfOk-weaker c.follows.result _ _
    (λ right f. tell_right c.args.entries.now c.args.place c.index-entries-place.result at c.entry.inside.class own (map (λ t. t.now) c.args.seen.now.keys) c.requires.seen c.args.named.now c.requires.named c.requires.within c.in_ok-is_new.field-0 c.is_called.result right
    c.if-not-branch.false c.in_ok-is_new.ensures.new.0 c.if-not-is_called.false c.is_called.ensures.0 f)
    c.follows.ensures
