-- Record by record.
use Rattle.std.proofs.Common.{◌≡◌, ◌++◌, ◌∷◌, [], List, length, ap, sym, ◌∙◌, arith, add-one}
use Rattle.std.proofs.lemmas.List.{length-map, take_all}
use Rattle.css_domain.specs.declared.record.Record.{Record}
use Rattle.css_domain.specs.Ledgers.{Counts, classes, record_of, records}
use Rattle.lists.proofs.Places.{take_next}
use Rattle.css_crew.proofs.alone.push_from.Goals as goal

pub loop-position-preserved : goal.loop-position-preserved
loop-position-preserved g c =
    let rs = records g.D.Domain.meaning c.args.ledger.now in
    let next = take_next rs c.loop-position.position c.in_ok-item.item c.in_ok-item.ensures in
    c.in_ok-push.ensures.pushed ∙ ap (λ (l : List Record). l ++ c.in_ok-item.item ∷ []) c.loop-position.invariant ∙ sym (rw add-one next)

pub returns : goal.returns
returns g c =
    let rs = records g.D.Domain.meaning c.args.ledger.now in
    let many : length rs ≡ length c.args.ledger.now.rules = length-map c.args.ledger.now.rules (record_of g.D.Domain.meaning (classes g.D.Domain.meaning c.args.ledger.now)) in
    let count : c.counts-end.result.rules ≡ length c.args.ledger.now.rules = ap (λ (n : Counts). n.rules) c.counts-end.ensures.answer in
    c.loop-position.invariant ∙ take_all c.loop-position.position rs (omega (arith, many, count, c.loop-position-test.false))
