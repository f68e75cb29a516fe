use Rattle.std.proofs.Common.{List, ℕ, get_or, sym, ap, ◌∙◌, arith}
use Rattle.std.specs.Prelude.{Some}
use Rattle.tiling_core.specs.Tiles.{Tiles}
use Rattle.css_domain.specs.Entries.{Entry}
use Rattle.css_prune.specs.Faults.{AreRanksRight}
use Rattle.css_prune.proofs.FirstFaults.{before_more, number_at}
use Rattle.lists.proofs.Places.{some_at}
use Rattle.rule_kinds.specs.Rules.{TilingRule}
use Rattle.tile_rules.specs.Meaning.{tile_meaning}
use Rattle.spec_checker.proofs.ranks.first_wrong_rank.Goals as goal

pub returns-in-Some-clause-some : goal.returns-in-Some-clause-some
returns-in-Some-clause-some c =
    let slot = c.in-Some.slot in
    let entry = c.index-entries-place.result in
    let named = sym (c.as_slice.ensures ∙ ap (λ (e : Entry Tiles TilingRule). e.children) c.entry.view_is) in
    record {
      entry = entry;
      at = some_at c.args.entries.now c.loop-place.place entry c.loop-place-test.true c.index-entries-place.is;
      slot = slot;
      first = c.in-Some.ensures.some;
      names = number_at entry.children slot c.in-Some.ensures.some.within ∙ ap (λ (xs : List ℕ). Some (get_or xs slot 0)) named;
      before = c.loop-place.invariant;
    }

pub loop-place-preserved : goal.loop-place-preserved
loop-place-preserved c =
    before_more (AreRanksRight tile_meaning c.args.entries.now) c.args.entries.now c.loop-place.place c.index-entries-place.result
    (some_at c.args.entries.now c.loop-place.place c.index-entries-place.result c.loop-place-test.true c.index-entries-place.is)
    c.in_default.ensures.none c.loop-place.invariant

pub returns-clause-none : goal.returns-clause-none
returns-clause-none c = λ j x l at. c.loop-place.invariant j x (omega (arith, l, c.loop-place-test.false)) at
