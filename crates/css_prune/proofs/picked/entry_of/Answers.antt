-- The class's pick, part by part.
use Rattle.std.proofs.Common.{◌≡◌, ◌<◌, ◌-◌, ℕ, Bool, List, length, get_or, sym, ap, subst, ◌∙◌, arith}
use Rattle.std.specs.Prelude.{map, slice_get, slice_index, Some}
use Rattle.css_domain.specs.declared.record.Record.{Record}
use Rattle.css_domain.specs.Ledgers.{records}
use Rattle.css_prune.specs.Pruning.{kept}
use Rattle.css_prune.proofs.Extracting.{numbers_within, numbers_placed, pick_of_entry}
use Rattle.css_prune.proofs.picked.entry_of.Goals as goal
use Rattle.lists.proofs.Places.{some_at}
use Rattle.lists.specs.Members.{IsIn}

pub places_of-requires-clause-within : goal.places_of-requires-clause-within
places_of-requires-clause-within g c =
    let k = get_or c.as_slice.result.now c.args.number 0 in
    let same : k ≡ slice_index c.args.pruned.now.pick c.args.number = ap (λ (xs : List ℕ). get_or xs c.args.number 0) c.as_slice.ensures in
    let item = c.index-items-pick.result in
    let there = some_at c.args.items.now k item (omega (arith, same, c.requires.ready.within, ap length c.requires.records)) c.index-items-pick.is in
    let at : slice_get (records g.D.Domain.meaning c.args.ledger.now) (slice_index c.args.pruned.now.pick c.args.number) ≡ Some item = ap (λ (xs : List Record). slice_get xs (slice_index c.args.pruned.now.pick c.args.number)) (sym c.requires.records) ∙ ap (slice_get c.args.items.now) (sym same) ∙ there in
    λ d i.
    let w = numbers_within g.D.Domain.meaning c.args.ledger.now (kept c.args.pruned.now.keep) c.args.made.now.order.items c.args.made.now.places.items c.args.pruned.now c.args.number c.requires.ready item at d (subst (λ (xs : List (ℕ × Bool)). IsIn d (map (λ (x : ℕ × Bool). x.0) xs)) c.as_slice-3.ensures i) in
    omega (arith, w, ap length c.as_slice-2.ensures.value)

pub places_of-requires-clause-placed : goal.places_of-requires-clause-placed
places_of-requires-clause-placed g c =
    let k = get_or c.as_slice.result.now c.args.number 0 in
    let same : k ≡ slice_index c.args.pruned.now.pick c.args.number = ap (λ (xs : List ℕ). get_or xs c.args.number 0) c.as_slice.ensures in
    let item = c.index-items-pick.result in
    let there = some_at c.args.items.now k item (omega (arith, same, c.requires.ready.within, ap length c.requires.records)) c.index-items-pick.is in
    let at : slice_get (records g.D.Domain.meaning c.args.ledger.now) (slice_index c.args.pruned.now.pick c.args.number) ≡ Some item = ap (λ (xs : List Record). slice_get xs (slice_index c.args.pruned.now.pick c.args.number)) (sym c.requires.records) ∙ ap (slice_get c.args.items.now) (sym same) ∙ there in
    λ d i.
    subst (λ (xs : List ℕ). 0 < slice_index xs d) (sym c.as_slice-2.ensures.value)
    (numbers_placed g.D.Domain.meaning c.args.ledger.now (kept c.args.pruned.now.keep) c.args.made.now.order.items c.args.made.now.places.items c.args.pruned.now c.args.number c.requires.ready item at d (subst (λ (xs : List (ℕ × Bool)). IsIn d (map (λ (x : ℕ × Bool). x.0) xs)) c.as_slice-3.ensures i))

pub returns : goal.returns
returns g c =
    let k = get_or c.as_slice.result.now c.args.number 0 in
    let same : k ≡ slice_index c.args.pruned.now.pick c.args.number = ap (λ (xs : List ℕ). get_or xs c.args.number 0) c.as_slice.ensures in
    let item = c.index-items-pick.result in
    let there = some_at c.args.items.now k item (omega (arith, same, c.requires.ready.within, ap length c.requires.records)) c.index-items-pick.is in
    let at : slice_get (records g.D.Domain.meaning c.args.ledger.now) (slice_index c.args.pruned.now.pick c.args.number) ≡ Some item = ap (λ (xs : List Record). slice_get xs (slice_index c.args.pruned.now.pick c.args.number)) (sym c.requires.records) ∙ ap (slice_get c.args.items.now) (sym same) ∙ there in
    pick_of_entry g.D.Domain.meaning c.args.ledger.now (kept c.args.pruned.now.keep) c.args.made.now.order.items c.args.made.now.places.items c.args.pruned.now c.args.number c.requires.ready item at _
    (c.class.ensures ∙ ap Some (sym c.in_ok-class.ensures))
    (ap (slice_get c.args.ledger.now.rules) (sym same) ∙ c.rule.ensures ∙ ap Some (sym c.in_ok-rule.ensures))
    (subst (λ (xs : List ℕ). c.of.result ≡ map (λ (x : ℕ × Bool). slice_index xs x.0 - 1) item.children) c.as_slice-2.ensures.value (subst (λ (ys : List (ℕ × Bool)). c.of.result ≡ map (λ (x : ℕ × Bool). slice_index c.as_slice-2.result.now x.0 - 1) ys) c.as_slice-3.ensures (c.of.ensures ∙ c.in_ok-children.ensures)))
    (ap (λ (xs : List ℕ). get_or xs c.args.number 0) c.as_slice-4.ensures)
