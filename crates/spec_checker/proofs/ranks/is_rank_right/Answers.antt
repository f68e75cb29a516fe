use Rattle.std.proofs.Common.{◌≡◌, List, ℕ, get_or, sym, ap, ◌∙◌, arith}
use Rattle.std.specs.Prelude.{slice_get, slice_index, Some, IsTrue}
use Rattle.tiling_core.specs.Tiles.{Tiles}
use Rattle.css_domain.specs.Entries.{Entry, can_keep_length}
use Rattle.css_prune.proofs.FirstFaults.{same_some, less_true, true_less}
use Rattle.lists.proofs.Places.{some_at}
use Rattle.rule_kinds.specs.Rules.{TilingRule}
use Rattle.tile_rules.specs.Meaning.{tile_meaning}
use Rattle.spec_checker.proofs.Joined.{named_within}
use Rattle.spec_checker.proofs.ranks.is_rank_right.Goals as goal

pub bounds-entries-place : goal.bounds-entries-place
bounds-entries-place c =
    let place : slice_index c.args.entry.now.children c.args.slot ≡ get_or c.as_slice.result.now c.args.slot 0 = ap (λ (xs : List ℕ). get_or xs c.args.slot 0) (sym (c.as_slice.ensures ∙ ap (λ (e : Entry Tiles TilingRule). e.children) c.entry.view_is)) in
    let w = named_within c.args.entries.now c.args.entry.now c.requires.joined c.args.slot c.requires.within in
    omega (arith, w, place)

pub returns : goal.returns
returns c =
    let k = get_or c.as_slice.result.now c.args.slot 0 in
    let place : slice_index c.args.entry.now.children c.args.slot ≡ k = ap (λ (xs : List ℕ). get_or xs c.args.slot 0) (sym (c.as_slice.ensures ∙ ap (λ (e : Entry Tiles TilingRule). e.children) c.entry.view_is)) in
    let w = named_within c.args.entries.now c.args.entry.now c.requires.joined c.args.slot c.requires.within in
    let there : slice_get c.args.entries.now (slice_index c.args.entry.now.children c.args.slot) ≡ Some c.index-entries-place.result = ap (slice_get c.args.entries.now) place ∙ some_at c.args.entries.now k c.index-entries-place.result (omega (arith, w, place)) c.index-entries-place.is in
    let kept = ap (λ (e : Entry Tiles TilingRule). can_keep_length tile_meaning e.rule c.args.slot) c.entry.view_is in
    let keeps : IsTrue (can_keep_length tile_meaning c.args.entry.now.rule c.args.slot) = sym kept ∙ sym c.can_keep_length.ensures ∙ c.if-not-can_keep_length.false in
    let own = ap (λ (e : Entry Tiles TilingRule). e.rank) c.entry.view_is in
    let other = ap (λ (e : Entry Tiles TilingRule). e.rank) c.named.view_is in (
      λ t keep d at. let same = ap (λ (e : Entry Tiles TilingRule). e.rank) (same_some at there) in let less = true_less c.named.inside.rank c.entry.inside.rank t in omega (arith, same, own, other, less),
      λ f. let less = f keeps c.index-entries-place.result there in less_true c.named.inside.rank c.entry.inside.rank (omega (arith, less, own, other)),
    )
