-- Filing by filing, as far as the ledger stops.
use Rattle.std.proofs.Common.{◌≡◌, ℕ, List, inl, sym, ◌∙◌, ap, subst, length, take}
use Rattle.std.specs.Prelude.{Option, IfSome}
use Rattle.css_domain.specs.declared.record.Record.{Record}
use Rattle.css_domain.specs.Ledgers.{Books, Counts, records, new_books}
use Rattle.css_domain.specs.Reasons.{Alone, EndsFor, RootStands}
use Rattle.css_domain.specs.Standing.{Stands}
use Rattle.css_prune.specs.declared.pruned.Pruned.{Pruned}
use Rattle.css_crew.specs.Ways.{IsOnTheWay, Goes, reason_as}
use Rattle.css_crew.proofs.Onward.{begun, alone, onward, ends_not, stops_not_found, next_if_none, none_from, rules_begin}
use Rattle.css_crew.proofs.Unmoved.{root_stood}
use Rattle.css_crew.proofs.alone.search.Goals as goal

pub loop-pruner-init : goal.loop-pruner-init
loop-pruner-init g c =
    let e = c.in_ok-ledger.ensures ∙ ap (new_books c.args.root c.args.budget) c.rulebook.ensures in
    (subst (IsOnTheWay g.D.Domain.meaning c.args.root c.args.budget (g.E.Expander.rulebook_of c.args.expander.now)) (sym e) (begun g.D.Domain.meaning c.args.root c.args.budget (g.E.Expander.rulebook_of c.args.expander.now)), (λ w. absurd cc), c.in_ok-pruner.ensures ∙ sym (ap (λ (b : Books g.row.D-Class.Denot g.row.D-Rule.Denot). records g.D.Domain.meaning b) e))

pub returns-in-Some-clause-alone : goal.returns-in-Some-clause-alone
returns-in-Some-clause-alone g c =
    let stands = subst (λ (o : Option Pruned). IfSome o (λ _. RootStands g.D.Domain.meaning c.loop-pruner.ledger)) c.in-Some.is c.in_ok-pruned.ensures.stands in
    alone g.D.Domain.meaning c.args.root c.args.budget (g.E.Expander.rulebook_of c.args.expander.now) c.loop-pruner.ledger c.in_ok-pruned.ensures.ledger c.loop-pruner.invariant.0 (inl stands)

pub returns-in-Some-2-clause-alone : goal.returns-in-Some-2-clause-alone
returns-in-Some-2-clause-alone g c =
    let book = g.E.Expander.rulebook_of c.args.expander.now in
    let ends = subst (Goes g.D.Domain.meaning c.loop-pruner.ledger c.file_next.new.ledger) c.in-Some-2.is c.in_ok-reason.ensures.goes in
    subst (Alone g.D.Domain.meaning c.args.root c.args.budget book) (sym ends.0)
    (alone g.D.Domain.meaning c.args.root c.args.budget book c.loop-pruner.ledger c.in_ok-pruned.ensures.ledger c.loop-pruner.invariant.0 (stops_not_found g.D.Domain.meaning c.loop-pruner.ledger c.in-Some-2.reason ends.1))

pub returns-in-Some-2-clause-reason : goal.returns-in-Some-2-clause-reason
returns-in-Some-2-clause-reason g c =
    let ends = subst (Goes g.D.Domain.meaning c.loop-pruner.ledger c.file_next.new.ledger) c.in-Some-2.is c.in_ok-reason.ensures.goes in
    subst (λ (b : Books g.row.D-Class.Denot g.row.D-Rule.Denot). EndsFor g.D.Domain.meaning b (reason_as c.in-Some-2.reason)) (sym ends.0)
    (ends_not g.D.Domain.meaning c.loop-pruner.ledger c.in-Some-2.reason (c.in_ok-pruned.ensures.falls (none_from c.in_ok-pruned.field-0 c.in_default.not-Some)) ends.1)

pub loop-pruner-preserved : goal.loop-pruner-preserved
loop-pruner-preserved g c =
    let D = g.D.Domain.meaning in
    let book = g.E.Expander.rulebook_of c.args.expander.now in
    let laws = g.met.D.Domain g.world.𝓛 g.world.𝓜 g.world.𝓡 ((λ s x. x), (λ x. x), (λ x. x), λ x. x) in
    let falls = c.in_ok-pruned.ensures.falls (none_from c.in_ok-pruned.field-0 c.in_default.not-Some) in
    let way = onward D c.args.root c.args.budget book c.loop-pruner.ledger c.in_ok-pruned.ensures.ledger c.loop-pruner.invariant.0 falls c.file_next.new.ledger
    (next_if_none D c.loop-pruner.ledger c.file_next.new.ledger c.in_ok-reason.field-0 c.in_default-2.not-Some c.in_ok-reason.ensures.goes) in
    let many : c.counts-rules.result.rules ≡ length c.loop-pruner.ledger.rules = ap (λ (n : Counts). n.rules) c.counts-rules.ensures.answer in (
      way,
      λ w s.
          falls
          (subst (λ (rs : List Record). Stands rs 0) (ap (λ (n : ℕ). take n (records D c.file_next.new.ledger)) many ∙ c.in_ok-reason.ensures.records (none_from c.in_ok-reason.field-0 c.in_default-2.not-Some))
          (root_stood D (λ x. laws.same x x ∙ g.met.D.Class.Eq.laws.refl x) (λ a b h. laws.exact a b (sym (laws.same a b) ∙ h)) c.file_next.new.ledger c.all_wait-waits.ensures.ledger way.in_turn c.counts-rules.result.rules (c.all_wait-waits.ensures.waiting w) s)),
      c.in_ok-push_from.ensures,
    )

pub push_from-requires-clause-before : goal.push_from-requires-clause-before
push_from-requires-clause-before g c = λ κs lives.
    let D = g.D.Domain.meaning in
    let many : c.counts-rules.result.rules ≡ length c.loop-pruner.ledger.rules = ap (λ (n : Counts). n.rules) c.counts-rules.ensures.answer in
    c.loop-pruner.invariant.2 ∙ sym (ap (λ (n : ℕ). take n (records D c.file_next.new.ledger)) many ∙ c.in_ok-reason.ensures.records (none_from c.in_ok-reason.field-0 c.in_default-2.not-Some))

pub push_from-requires-clause-from : goal.push_from-requires-clause-from
push_from-requires-clause-from g c = λ κs lives.
    let D = g.D.Domain.meaning in
    let old = c.loop-pruner.ledger in
    let new = c.file_next.new.ledger in
    let many : c.counts-rules.result.rules ≡ length old.rules = ap (λ (n : Counts). n.rules) c.counts-rules.ensures.answer in
    rules_begin D old new many (c.in_ok-reason.ensures.records (none_from c.in_ok-reason.field-0 c.in_default-2.not-Some))
