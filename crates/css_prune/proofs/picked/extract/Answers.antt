-- The picks in their order are a specification.
use Rattle.std.proofs.Common.{◌≡◌, true, List, length, sym, ap, subst, ◌∙◌, arith}
use Rattle.css_domain.specs.Entries.{Entry, Picked}
use Rattle.css_prune.proofs.Extracting.{guide_of, order_is, ready, picked_by, spec_by, few_by}
use Rattle.css_prune.proofs.picked.extract.Goals as goal

pub order_of-requires-clause-guide : goal.order_of-requires-clause-guide
order_of-requires-clause-guide g c =
    let laws = g.met.D.Domain g.world.𝓛 g.world.𝓜 g.world.𝓡 ((λ s x. x), (λ x. x), (λ x. x), λ x. x) in
    let own = λ (x : g.row.D-Class.Denot). laws.same x x ∙ g.met.D.Class.Eq.laws.refl x in
    let exact : (a b : g.row.D-Class.Denot) → g.D.Domain.meaning.same a b ≡ true → a ≡ b = λ a b h. laws.exact a b (sym (laws.same a b) ∙ h) in
    guide_of g.D.Domain.meaning own exact c.args.ledger.now c.counts.ensures.ledger c.args.pruned.now c.requires.pruned c.as_slice.result.now c.as_slice-2.result.now c.as_slice-3.result.now (c.as_slice.ensures.value ∙ c.in_ok-items.ensures) c.as_slice-2.ensures c.as_slice-3.ensures

pub entries_of-requires-clause-ready : goal.entries_of-requires-clause-ready
entries_of-requires-clause-ready g c =
    let laws = g.met.D.Domain g.world.𝓛 g.world.𝓜 g.world.𝓡 ((λ s x. x), (λ x. x), (λ x. x), λ x. x) in
    let own = λ (x : g.row.D-Class.Denot). laws.same x x ∙ g.met.D.Class.Eq.laws.refl x in
    let exact : (a b : g.row.D-Class.Denot) → g.D.Domain.meaning.same a b ≡ true → a ≡ b = λ a b h. laws.exact a b (sym (laws.same a b) ∙ h) in
    let is_order = c.in_ok-made.ensures.order ∙ order_is g.D.Domain.meaning own exact c.args.ledger.now c.counts.ensures.ledger c.args.pruned.now c.requires.pruned c.args.root c.as_slice.result.now c.as_slice-2.result.now c.as_slice-3.result.now (c.as_slice.ensures.value ∙ c.in_ok-items.ensures) c.as_slice-2.ensures c.as_slice-3.ensures in
    let many = c.in_ok-made.ensures.as_many ∙ ap length c.as_slice-2.ensures ∙ c.requires.pruned.as_many.keep in
    λ κs l. ready g.D.Domain.meaning own exact c.args.ledger.now c.counts.ensures.ledger c.args.pruned.now c.requires.pruned c.args.root c.requires.kept c.in_ok-made.made.order.items c.in_ok-made.made.places.items is_order c.in_ok-made.ensures.places many

pub spec_of-requires-clause-spec : goal.spec_of-requires-clause-spec
spec_of-requires-clause-spec g c =
    let laws = g.met.D.Domain g.world.𝓛 g.world.𝓜 g.world.𝓡 ((λ s x. x), (λ x. x), (λ x. x), λ x. x) in
    let own = λ (x : g.row.D-Class.Denot). laws.same x x ∙ g.met.D.Class.Eq.laws.refl x in
    let exact : (a b : g.row.D-Class.Denot) → g.D.Domain.meaning.same a b ≡ true → a ≡ b = λ a b h. laws.exact a b (sym (laws.same a b) ∙ h) in
    let is_order = c.in_ok-made.ensures.order ∙ order_is g.D.Domain.meaning own exact c.args.ledger.now c.counts.ensures.ledger c.args.pruned.now c.requires.pruned c.args.root c.as_slice.result.now c.as_slice-2.result.now c.as_slice-3.result.now (c.as_slice.ensures.value ∙ c.in_ok-items.ensures) c.as_slice-2.ensures c.as_slice-3.ensures in
    let many = c.in_ok-made.ensures.as_many ∙ ap length c.as_slice-2.ensures ∙ c.requires.pruned.as_many.keep in
    λ κs l. spec_by g.D.Domain.meaning own exact c.args.ledger.now c.counts.ensures.ledger c.args.pruned.now c.requires.pruned c.args.root c.requires.kept c.in_ok-made.made.order.items c.in_ok-made.made.places.items is_order c.in_ok-made.ensures.places many c.in_ok-entries.entries.items c.in_ok-entries.ensures

pub spec_of-requires-clause-few : goal.spec_of-requires-clause-few
spec_of-requires-clause-few g c =
    let laws = g.met.D.Domain g.world.𝓛 g.world.𝓜 g.world.𝓡 ((λ s x. x), (λ x. x), (λ x. x), λ x. x) in
    let own = λ (x : g.row.D-Class.Denot). laws.same x x ∙ g.met.D.Class.Eq.laws.refl x in
    let exact : (a b : g.row.D-Class.Denot) → g.D.Domain.meaning.same a b ≡ true → a ≡ b = λ a b h. laws.exact a b (sym (laws.same a b) ∙ h) in
    let is_order = c.in_ok-made.ensures.order ∙ order_is g.D.Domain.meaning own exact c.args.ledger.now c.counts.ensures.ledger c.args.pruned.now c.requires.pruned c.args.root c.as_slice.result.now c.as_slice-2.result.now c.as_slice-3.result.now (c.as_slice.ensures.value ∙ c.in_ok-items.ensures) c.as_slice-2.ensures c.as_slice-3.ensures in
    let many = c.in_ok-made.ensures.as_many ∙ ap length c.as_slice-2.ensures ∙ c.requires.pruned.as_many.keep in
    let few = few_by g.D.Domain.meaning own exact c.args.ledger.now c.counts.ensures.ledger c.args.pruned.now c.requires.pruned c.args.root c.requires.kept c.in_ok-made.made.order.items c.in_ok-made.made.places.items is_order c.in_ok-made.ensures.places many c.in_ok-entries.entries.items c.in_ok-entries.ensures in
    λ κs l. omega (arith, few, c.counts.ensures.sizes.few_classes, c.counts.ensures.ledger.within, c.counts.ensures.ledger.few_budget)

pub returns : goal.returns
returns g c =
    let laws = g.met.D.Domain g.world.𝓛 g.world.𝓜 g.world.𝓡 ((λ s x. x), (λ x. x), (λ x. x), λ x. x) in
    let own = λ (x : g.row.D-Class.Denot). laws.same x x ∙ g.met.D.Class.Eq.laws.refl x in
    let exact : (a b : g.row.D-Class.Denot) → g.D.Domain.meaning.same a b ≡ true → a ≡ b = λ a b h. laws.exact a b (sym (laws.same a b) ∙ h) in
    let is_order = c.in_ok-made.ensures.order ∙ order_is g.D.Domain.meaning own exact c.args.ledger.now c.counts.ensures.ledger c.args.pruned.now c.requires.pruned c.args.root c.as_slice.result.now c.as_slice-2.result.now c.as_slice-3.result.now (c.as_slice.ensures.value ∙ c.in_ok-items.ensures) c.as_slice-2.ensures c.as_slice-3.ensures in
    let many = c.in_ok-made.ensures.as_many ∙ ap length c.as_slice-2.ensures ∙ c.requires.pruned.as_many.keep in
    subst (λ (es : List (Entry g.row.D-Class.Denot g.row.D-Rule.Denot)). Picked g.D.Domain.meaning c.args.ledger.now c.args.root es) (sym c.spec_of.ensures)
    (picked_by g.D.Domain.meaning own exact c.args.ledger.now c.counts.ensures.ledger c.args.pruned.now c.requires.pruned c.args.root c.requires.kept c.in_ok-made.made.order.items c.in_ok-made.made.places.items is_order c.in_ok-made.ensures.places many c.in_ok-entries.entries.items c.in_ok-entries.ensures)
