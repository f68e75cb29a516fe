-- Filing by filing, as far as there is a reason to end.
use Rattle.std.proofs.Common.{◌≡◌, ℕ, sym, ◌∙◌, ap, subst, length, take}
use Rattle.css_domain.specs.Ledgers.{Books, Counts, records}
use Rattle.css_domain.specs.Reasons.{EndsFor}
use Rattle.css_crew.specs.Ways.{reason_as}
use Rattle.css_crew.specs.Crews.{GoesOn}
use Rattle.css_crew.proofs.Onward.{ends_not, none_from, rules_begin}
use Rattle.css_crew.proofs.Completes.{more_filled, more_if_none}
use Rattle.css_crew.proofs.finish.go_on.Goals as goal

pub returns-in-Some-2-clause-reason : goal.returns-in-Some-2-clause-reason
returns-in-Some-2-clause-reason g c =
    let ends = subst (GoesOn g.D.Domain.meaning c.loop-pruner.ledger c.file_fresh.new.ledger) c.in-Some-2.is c.in_ok-reason.ensures.goes in
    subst (λ (b : Books g.row.D-Class.Denot g.row.D-Rule.Denot). EndsFor g.D.Domain.meaning b (reason_as c.in-Some-2.reason)) (sym ends.0)
    (ends_not g.D.Domain.meaning c.loop-pruner.ledger c.in-Some-2.reason (c.in_ok-pruned.ensures.falls (none_from c.in_ok-pruned.field-0 c.in_default.not-Some)) ends.1)

pub loop-pruner-preserved : goal.loop-pruner-preserved
loop-pruner-preserved g c = (
  more_filled g.D.Domain.meaning c.args.ledger.root c.args.ledger.budget (g.E.Expander.rulebook_of c.args.expander.now) c.loop-pruner.ledger c.file_fresh.new.ledger c.in_ok-pruned.ensures.ledger c.loop-pruner.invariant.0
      (more_if_none g.D.Domain.meaning c.loop-pruner.ledger c.file_fresh.new.ledger c.in_ok-reason.field-0 c.in_default-2.not-Some c.in_ok-reason.ensures.goes),
  c.in_ok-push_from-2.ensures,
)

pub push_from-requires-in-loop-pruner-clause-before : goal.push_from-requires-in-loop-pruner-clause-before
push_from-requires-in-loop-pruner-clause-before g c = λ κs lives.
    let D = g.D.Domain.meaning in
    let many : c.counts-rules.result.rules ≡ length c.loop-pruner.ledger.rules = ap (λ (n : Counts). n.rules) c.counts-rules.ensures.answer in
    c.loop-pruner.invariant.1 ∙ sym (ap (λ (n : ℕ). take n (records D c.file_fresh.new.ledger)) many ∙ c.in_ok-reason.ensures.records (none_from c.in_ok-reason.field-0 c.in_default-2.not-Some))

pub push_from-requires-in-loop-pruner-clause-from : goal.push_from-requires-in-loop-pruner-clause-from
push_from-requires-in-loop-pruner-clause-from g c = λ κs lives.
    let D = g.D.Domain.meaning in
    let old = c.loop-pruner.ledger in
    let new = c.file_fresh.new.ledger in
    let many : c.counts-rules.result.rules ≡ length old.rules = ap (λ (n : Counts). n.rules) c.counts-rules.ensures.answer in
    rules_begin D old new many (c.in_ok-reason.ensures.records (none_from c.in_ok-reason.field-0 c.in_default-2.not-Some))
