use Rattle.std.proofs.Common.{rules, ◌≡◌, true, ℕ, length, take, sym, ap, ◌∙◌, subst, arith}
use Rattle.std.specs.Prelude.{slice_get}
use Rattle.std.proofs.lemmas.List.{take_all}
use Rattle.css_domain.specs.Ledgers.{Counts, classes, with_filing}
use Rattle.css_domain.specs.WholeRecords.{IsWhole}
use Rattle.css_store.specs.Filings.{may_file, IsFiling}
use Rattle.css_store.proofs.MayFile.{out_here, filing_here, own_after}
use Rattle.css_store.proofs.desk.Desk.file.Goals as goal

pub file-requires-clause-out : goal.file-requires-clause-out
file-requires-clause-out g c = λ κs lives.
    let laws = g.met.D.Domain g.world.𝓛 g.world.𝓜 g.world.𝓡 ((λ s x. x), (λ x. x), (λ x. x), λ x. x) in
    let may : may_file g.D.Domain.meaning c.self.inside.ledger c.args.pack.number c.args.filing ≡ true = search rules in
    out_here g.D.Domain.meaning g.D.Class.PartialEq.eq laws.same laws.exact c.self.inside.ledger c.args.pack.number c.args.filing may

pub file-requires-clause-filing : goal.file-requires-clause-filing
file-requires-clause-filing g c = λ κs lives d at.
    let laws = g.met.D.Domain g.world.𝓛 g.world.𝓜 g.world.𝓡 ((λ s x. x), (λ x. x), (λ x. x), λ x. x) in
    let may : may_file g.D.Domain.meaning c.self.inside.ledger c.args.pack.number c.args.filing ≡ true = search rules in
    let filing = subst (λ (n : ℕ). IsFiling g.D.Domain.meaning n c.args.filing) (sym c.self.invariant.4) c.requires.filing in
    filing_here g.D.Domain.meaning g.D.Class.PartialEq.eq laws.same laws.exact c.self.inside.ledger c.args.pack.number c.args.filing may c.self.inside.ledger.rulebook filing d at

pub append_records-requires-clause-whole : goal.append_records-requires-clause-whole
append_records-requires-clause-whole g c = λ κs lives.
    let all : take c.self.inside.writer.front c.self.inside.writer.list ≡ c.self.inside.writer.list = take_all c.self.inside.writer.front c.self.inside.writer.list (omega (arith, c.self.invariant.2)) in
    subst IsWhole all c.front.ensures.whole

pub append_records-requires-clause-own : goal.append_records-requires-clause-own
append_records-requires-clause-own g c = λ κs lives k r past at.
    let laws = g.met.D.Domain g.world.𝓛 g.world.𝓜 g.world.𝓡 ((λ s x. x), (λ x. x), (λ x. x), λ x. x) in
    let may : may_file g.D.Domain.meaning c.self.inside.ledger c.args.pack.number c.args.filing ≡ true = search rules in
    let count : c.counts-first.result.rules ≡ length c.self.inside.ledger.rules = ap (λ (n : Counts). n.rules) c.counts-first.ensures.answer in
    let filed : c.file.new.self ≡ with_filing c.self.inside.ledger c.args.pack.number c.args.filing = search rules in
    let old : take (length (classes g.D.Domain.meaning c.self.inside.ledger)) (classes g.D.Domain.meaning c.file.new.self) ≡ classes g.D.Domain.meaning c.self.inside.ledger = search rules in
    ap (slice_get (classes g.D.Domain.meaning c.file.new.self)) c.number-number.ensures
    ∙ own_after g.D.Domain.meaning g.D.Class.PartialEq.eq laws.same laws.exact c.self.inside.ledger c.args.pack.number c.args.filing may c.file.new.self filed old k r (omega (arith, count, past)) at
