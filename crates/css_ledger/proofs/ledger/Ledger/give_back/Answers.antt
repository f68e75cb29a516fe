-- The class is fresh again, where it was out.
use Rattle.std.proofs.Common.{◌≡◌, true, false, sym, ◌∙◌, refl, ap, subst, arith}
use Rattle.css_domain.specs.Ledgers.{Books, given_back}
use Rattle.css_ledger.specs.Stages.{is_out, stage_at, outs}
use Rattle.css_ledger.proofs.Claims.{kept_back, unchanged_back, back_unchanged}
use Rattle.css_ledger.proofs.Outs.{none_fresh_back, none_fresh_less}
use Rattle.css_ledger.specs.declared.stage.Stage.TheVariants.{Fresh}
use Rattle.css_ledger.proofs.ledger.Ledger.give_back.Goals as goal

pub returns-then-not-out_at-clause-given : goal.returns-then-not-out_at-clause-given
returns-then-not-out_at-clause-given g c =
    let o : is_out (stage_at c.self.inside.stages.items c.args.pack.number) ≡ false = rw (sym c.as_slice.ensures.value, sym c.spend-number.ensures) (sym c.out_at.ensures ∙ c.if-not-out_at.true) in
    let e = unchanged_back g.D.Domain.meaning _ _ _ _ _ c.self.invariant.0 refl c.args.pack.number o in
    let i = c.self.inside in
    subst (λ (b : Books g.row.D-Class.Denot g.row.D-Rule.Denot). b ≡ given_back b c.args.pack.number) c.self.view_is
    (λ m. record { root = i.root; budget = i.budget; rulebook = i.rulebook; rules = i.rules.items; journal = i.journal.items; out = sym e m })

pub index_mut-requires : goal.index_mut-requires
index_mut-requires g c =
    let o : is_out (stage_at c.self.inside.stages.items c.spend-number.result) ≡ true = rw (sym c.as_slice.ensures.value) (sym c.out_at.ensures ∙ c.if-not-out_at.false) in
    let k = kept_back g.D.Domain.meaning _ _ _ _ _ c.self.invariant.0 refl c.spend-number.result o in
    omega (arith, k.2, c.self.inside.stages.ok)

pub overflow_sub-self : goal.overflow_sub-self
overflow_sub-self g c =
    let o : is_out (stage_at c.self.inside.stages.items c.spend-number.result) ≡ true = rw (sym c.as_slice.ensures.value) (sym c.out_at.ensures ∙ c.if-not-out_at.false) in
    (kept_back g.D.Domain.meaning _ _ _ _ _ c.self.invariant.0 refl c.spend-number.result o).1

pub invariant_of-self : goal.invariant_of-self
invariant_of-self g c =
    let o : is_out (stage_at c.self.inside.stages.items c.spend-number.result) ≡ true = rw (sym c.as_slice.ensures.value) (sym c.out_at.ensures ∙ c.if-not-out_at.false) in
    let m = c.min-self-inside.ensures in (
      (kept_back g.D.Domain.meaning _ _ _ _ _ c.self.invariant.0 refl c.spend-number.result o).0,
      none_fresh_back c.min-self-inside.result c.spend-number.result c.self.inside.stages.items Fresh (omega (arith, m)) (none_fresh_less c.self.inside.low c.min-self-inside.result c.self.inside.stages.items (omega (arith, m)) c.self.invariant.1),
    )

pub returns-clause-given : goal.returns-clause-given
returns-clause-given g c =
    let o : is_out (stage_at c.self.inside.stages.items c.spend-number.result) ≡ true = rw (sym c.as_slice.ensures.value) (sym c.out_at.ensures ∙ c.if-not-out_at.false) in
    let e = (kept_back g.D.Domain.meaning _ _ _ _ _ c.self.invariant.0 refl c.spend-number.result o).3 in
    let i = c.self.inside in
    (λ m. record { root = i.root; budget = i.budget; rulebook = i.rulebook; rules = i.rules.items; journal = i.journal.items; out = e m })
    ∙ ap (given_back (record { root = i.root; budget = i.budget; rulebook = i.rulebook; rules = i.rules.items; journal = i.journal.items; out = outs i.stages.items })) c.spend-number.ensures
    ∙ ap (λ (b : Books g.row.D-Class.Denot g.row.D-Rule.Denot). given_back b c.args.pack.number) c.self.view_is

-- where the class isn't out the books stay
pub returns-clause-unchanged : goal.returns-clause-unchanged
returns-clause-unchanged g c h = returns-clause-given g c ∙ back_unchanged c.args.self.now c.args.pack.number h
