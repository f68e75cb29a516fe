use Rattle.std.proofs.Common.{◌≡◌, List, ℕ, get_or, sym, ap, ◌∙◌, arith}
use Rattle.std.specs.Prelude.{slice_get, slice_index, Some}
use Rattle.css_domain.specs.Entries.{Entry}
use Rattle.css_prune.proofs.FirstFaults.{matched_by, from_matched}
use Rattle.css_prune.proofs.faults.is_matched.Goals as goal
use Rattle.lists.proofs.Places.{some_at}

pub returns : goal.returns
returns g c =
    let k = get_or c.as_slice.result.now c.args.slot 0 in
    let place : slice_index c.args.entry.now.children c.args.slot ≡ k = ap (λ (xs : List ℕ). get_or xs c.args.slot 0) (sym (c.as_slice.ensures ∙ ap (λ (e : Entry g.row.D-Class.Denot g.row.D-Rule.Denot). e.children) c.entry.view_is)) in
    let there = some_at c.args.entries.now k c.index-entries-place.result (omega (arith, c.if-place-entries.false)) c.index-entries-place.is in
    let at : slice_get (g.D.Domain.meaning.children c.args.entry.now.rule) c.args.slot ≡ Some c.child.result.now = ap (λ (e : Entry g.row.D-Class.Denot g.row.D-Rule.Denot). slice_get (g.D.Domain.meaning.children e.rule) c.args.slot) (sym c.entry.view_is) ∙ c.child.ensures in
    let class = ap (λ (e : Entry g.row.D-Class.Denot g.row.D-Rule.Denot). e.class) c.named.view_is in (
      λ t. matched_by g.D.Domain.meaning c.args.entries.now c.args.entry.now c.args.slot k c.index-entries-place.result c.child.result.now place there at (c.is_same.ensures.0 t ∙ class),
      λ m. c.is_same.ensures.1 (from_matched g.D.Domain.meaning c.args.entries.now c.args.entry.now c.args.slot k c.index-entries-place.result c.child.result.now place there at m ∙ sym class),
    )
