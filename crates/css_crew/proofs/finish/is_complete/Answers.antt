-- A filing with rules is complete, and an empty one where there are none.
use Rattle.std.proofs.Common.{ℕ, length, sym, subst, ap, ◌∙◌}
use Rattle.std.proofs.lemmas.Bool.{eqb-true}
use Rattle.lists.specs.Members.{IsIn}
use Rattle.lists.proofs.Members.{IsIn-map}
use Rattle.lists.proofs.Places.{IsIn-slice_get}
use Rattle.css_domain.specs.Ledgers.{done}
use Rattle.css_crew.proofs.Completes.{with_rules, without_rules}
use Rattle.css_crew.proofs.finish.is_complete.Goals as goal

pub returns-then-rules-ne0 : goal.returns-then-rules-ne0
returns-then-rules-ne0 g c = λ _. with_rules g.D.Domain.meaning c.args.ledger.now c.counts.ensures.ledger c.args.place c.filed-number.result c.filed-number.ensures c.if-rules-ne0.true

pub class-requires-clause-number : goal.class-requires-clause-number
class-requires-clause-number g c κs within =
    let i : IsIn c.filed-number.result.0 (done c.args.ledger.now) = IsIn-map (λ (p : ℕ × ℕ). p.0) (IsIn-slice_get c.args.ledger.now.journal c.args.place c.filed-number.result c.filed-number.ensures) in
    c.counts.ensures.sizes.done_are_classes c.filed-number.result.0 i

pub returns : goal.returns
returns g c = λ e.
    let whole = subst (λ (r : ℕ). g.D.Domain.meaning.complete r c.class.result.now c.in_ok-filing.filing) (sym c.requires.rulebook) c.in_ok-filing.ensures.whole in
    without_rules g.D.Domain.meaning c.args.ledger.now c.counts.ensures.ledger c.args.place c.filed-number.result c.class.result.now c.in_ok-filing.filing c.filed-number.ensures c.if-rules-ne0.false c.class.ensures whole (ap length (sym c.as_slice.ensures) ∙ eqb-true (length c.as_slice.result.now) 0 (sym c.is_empty.ensures ∙ e))
