use Rattle.std.proofs.Common.{◌≡◌, ◌<◌, ◌++◌, ℕ, List, length, sym, ap, ◌∙◌, arith}
use Rattle.css_domain.specs.Records.{record_words}
use Rattle.css_domain.specs.Ledgers.{Counts, classes, record_of, records}
use Rattle.css_log.specs.States.{WriterState}
use Rattle.lists.proofs.Places.{at_place}
use Rattle.css_store.proofs.InRow.{record_at, words_more, words_within, length-record_words}
use Rattle.css_store.proofs.words.append_records.Goals as goal

pub append_record-requires-clause-room : goal.append_record-requires-clause-room
append_record-requires-clause-room g c = λ κs lives r at.
    let laws = g.met.D.Domain g.world.𝓛 g.world.𝓜 g.world.𝓡 ((λ s x. x), (λ x. x), (λ x. x), λ x. x) in
    let D = g.D.Domain.meaning in
    let l = c.args.ledger.now in
    let rec = record_at D g.D.Class.PartialEq.eq g.met.D.Class.Eq.laws laws.same laws.exact l c.loop-position.position r at in
    let within = words_within (records D l) c.loop-position.position (record_of D (classes D l) r) rec in
    let long = length-record_words D g.D.Class.PartialEq.eq g.met.D.Class.Eq.laws laws.same laws.exact (classes D l) r in
    let few = c.counts-end.ensures.sizes.few_words in
    let filed = c.counts-end.ensures.ledger.within in
    let room = c.requires.room in
    let list = ap (λ (w : WriterState). length w.list) c.loop-position.invariant.0 in
    omega (arith, within, long, few, filed, room, list)

pub loop-position-preserved : goal.loop-position-preserved
loop-position-preserved g c =
    let laws = g.met.D.Domain g.world.𝓛 g.world.𝓜 g.world.𝓡 ((λ s x. x), (λ x. x), (λ x. x), λ x. x) in
    let D = g.D.Domain.meaning in
    let l = c.args.ledger.now in
    let count : c.counts-end.result.rules ≡ length l.rules = ap (λ (n : Counts). n.rules) c.counts-end.ensures.answer in
    let below : c.loop-position.position < c.counts-end.result.rules = c.loop-position-test.true in
    let r = at_place l.rules c.loop-position.position (omega (arith, count, below)) in
    let rec = record_at D g.D.Class.PartialEq.eq g.met.D.Class.Eq.laws laws.same laws.exact l c.loop-position.position r.0 r.1 in
    let more = words_more (records D l) c.loop-position.position (record_of D (classes D l) r.0) rec in (
      c.append_record.ensures.list r.0 r.1
          ∙ ap (λ (w : WriterState). record w { list = w.list ++ record_words (record_of D (classes D l) r.0) }) c.loop-position.invariant.0
          ∙ ap (λ (l : List ℕ). record c.args.writer.now { list = l }) (sym more),
      c.append_record.ensures.whole,
    )
