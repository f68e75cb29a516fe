-- What is claimed, case by case.
use Rattle.std.proofs.Common.{◌≡◌, ◌+◌, ℕ, cond, List, None, false, length, position, ◌∙◌, refl, ap, subst, sym, arith}
use Rattle.std.specs.Prelude.{◌==◌}
use Rattle.css_domain.specs.Ledgers.{Books, claimed, with_work, given_back, is_among}
use Rattle.css_domain.specs.Ledgers.Claimed.{Work, Idle, Spent, Finished}
use Rattle.css_ledger.specs.Stages.{outs, is_fresh}
use Rattle.css_ledger.proofs.Claims.{claim_none, claim_nothing, claim_no_work, claim_spent, claim_work, few_stages, first_at, kept_out, out_now, found_fresh, fresh_not_out, work_undone}
use Rattle.css_ledger.proofs.Outs.{none_fresh_out}
use Rattle.css_ledger.proofs.ledger.Ledger.claim.Goals as goal

pub least_fresh-requires-clause-few : goal.least_fresh-requires-clause-few
least_fresh-requires-clause-few g c = rw c.as_slice.ensures.value (omega (arith, few_stages g.D.Domain.meaning _ _ _ _ _ c.self.invariant.0 refl))

pub least_fresh-requires-clause-mark : goal.least_fresh-requires-clause-mark
least_fresh-requires-clause-mark g c = rw c.as_slice.ensures.value c.self.invariant.1

-- ---- where none is fresh
pub returns-in_default-clause-answer : goal.returns-in_default-clause-answer
returns-in_default-clause-answer g c =
    let none : None ≡ position is_fresh c.self.inside.stages.items = c.in_default.ensures ∙ ap (position is_fresh) c.as_slice.ensures.value in
    let n : c.len.result ≡ length c.self.inside.journal.items = omega (arith, c.len.ensures, c.self.inside.journal.ok) in
    c.without_fresh.ensures
    ∙ ap (λ k. cond (c.self.inside.out == 0) Finished (cond (c.self.inside.out + k == c.self.inside.budget) Spent Idle)) n
    ∙ claim_none g.D.Domain.meaning _ _ _ _ _ c.self.invariant.0 refl none
    ∙ ap (claimed g.D.Domain.meaning) c.self.view_is

pub returns-in_default-clause-after : goal.returns-in_default-clause-after
returns-in_default-clause-after g c =
    let none : None ≡ position is_fresh c.self.inside.stages.items = c.in_default.ensures ∙ ap (position is_fresh) c.as_slice.ensures.value in
    subst (λ (b : Books g.row.D-Class.Denot g.row.D-Rule.Denot). b ≡ with_work b (claimed g.D.Domain.meaning b)) c.self.view_is (claim_nothing g.D.Domain.meaning _ _ _ _ _ c.self.invariant.0 refl none)

pub returns-in_default-clause-undone : goal.returns-in_default-clause-undone
returns-in_default-clause-undone g c = λ n h.
    let none : None ≡ position is_fresh c.self.inside.stages.items = c.in_default.ensures ∙ ap (position is_fresh) c.as_slice.ensures.value in
    absurd (claim_no_work g.D.Domain.meaning _ _ _ _ _ c.self.invariant.0 refl none n (ap (claimed g.D.Domain.meaning) c.self.view_is ∙ h))

-- ---- where one is
pub returns-then-spent-clause-answer : goal.returns-then-spent-clause-answer
returns-then-spent-clause-answer g c =
    let some = c.in-Some.ensures ∙ ap (position is_fresh) c.as_slice.ensures.value in
    subst (λ l. Spent ≡ claimed g.D.Domain.meaning l) c.self.view_is (claim_spent g.D.Domain.meaning _ _ _ _ _ c.self.invariant.0 refl c.in-Some.number some (omega (arith, c.if-spent.true, c.len.ensures, c.self.inside.journal.ok)))

pub overflow_cast-self : goal.overflow_cast-self
overflow_cast-self g c =
    let some = c.in-Some.ensures ∙ ap (position is_fresh) c.as_slice.ensures.value in
    let f = found_fresh g.D.Domain.meaning _ _ _ _ _ c.self.invariant.0 refl c.in-Some.number some in
    omega (arith, f.0, few_stages g.D.Domain.meaning _ _ _ _ _ c.self.invariant.0 refl)

pub overflow_add-self-2 : goal.overflow_add-self-2
overflow_add-self-2 g c =
    let some = c.in-Some.ensures ∙ ap (position is_fresh) c.as_slice.ensures.value in
    let f = found_fresh g.D.Domain.meaning _ _ _ _ _ c.self.invariant.0 refl c.in-Some.number some in
    omega (arith, f.0, few_stages g.D.Domain.meaning _ _ _ _ _ c.self.invariant.0 refl)

pub overflow_cast-number : goal.overflow_cast-number
overflow_cast-number g c =
    let some = c.in-Some.ensures ∙ ap (position is_fresh) c.as_slice.ensures.value in
    let f = found_fresh g.D.Domain.meaning _ _ _ _ _ c.self.invariant.0 refl c.in-Some.number some in
    omega (arith, f.0, few_stages g.D.Domain.meaning _ _ _ _ _ c.self.invariant.0 refl)

pub invariant_of-self : goal.invariant_of-self
invariant_of-self g c =
    let some = c.in-Some.ensures ∙ ap (position is_fresh) c.as_slice.ensures.value in
    let f = found_fresh g.D.Domain.meaning _ _ _ _ _ c.self.invariant.0 refl c.in-Some.number some in (
      kept_out g.D.Domain.meaning _ _ _ _ _ c.self.invariant.0 refl c.in-Some.number f.0 f.1 (λ e. c.if-spent.false (omega (arith, e, c.len.ensures, c.self.inside.journal.ok))),
      none_fresh_out c.in-Some.number c.self.inside.stages.items (first_at g.D.Domain.meaning _ _ _ _ _ c.self.invariant.0 refl c.in-Some.number some) f.0,
    )

pub returns-clause-answer : goal.returns-clause-answer
returns-clause-answer g c =
    let some = c.in-Some.ensures ∙ ap (position is_fresh) c.as_slice.ensures.value in
    let w = claim_work g.D.Domain.meaning _ _ _ _ _ c.self.invariant.0 refl c.in-Some.number some (λ e. c.if-spent.false (omega (arith, e, c.len.ensures, c.self.inside.journal.ok))) in
    ap Work c.pack_of.ensures ∙ subst (λ l. Work c.in-Some.number ≡ claimed g.D.Domain.meaning l) c.self.view_is w

pub returns-clause-after : goal.returns-clause-after
returns-clause-after g c =
    let some = c.in-Some.ensures ∙ ap (position is_fresh) c.as_slice.ensures.value in
    let f = found_fresh g.D.Domain.meaning _ _ _ _ _ c.self.invariant.0 refl c.in-Some.number some in
    let e = out_now g.D.Domain.meaning _ _ _ _ _ c.self.invariant.0 refl c.in-Some.number f.0 f.1 in
    let w = claim_work g.D.Domain.meaning _ _ _ _ _ c.self.invariant.0 refl c.in-Some.number some (λ e. c.if-spent.false (omega (arith, e, c.len.ensures, c.self.inside.journal.ok))) in
    let i = c.self.inside in
    ap (λ (o : List ℕ). record { root = i.root; budget = i.budget; rulebook = i.rulebook; rules = i.rules.items; journal = i.journal.items; out = o }) e
    ∙ ap (with_work (record { root = i.root; budget = i.budget; rulebook = i.rulebook; rules = i.rules.items; journal = i.journal.items; out = outs i.stages.items })) w
    ∙ ap (λ l. with_work l (claimed g.D.Domain.meaning l)) c.self.view_is

pub returns-clause-undone : goal.returns-clause-undone
returns-clause-undone g c = λ n h.
    let some = c.in-Some.ensures ∙ ap (position is_fresh) c.as_slice.ensures.value in
    let w : Work c.in-Some.number ≡ claimed g.D.Domain.meaning c.args.self.now = ap Work (sym c.pack_of.ensures) ∙ returns-clause-answer g c in
    let same : c.in-Some.number ≡ n = (let e : Work c.in-Some.number ≡ Work n = w ∙ h in let f : c.in-Some.number ≡ n = cc in f) in
    let out : is_among c.in-Some.number c.args.self.now.out ≡ false = subst (λ (b : Books g.row.D-Class.Denot g.row.D-Rule.Denot). is_among c.in-Some.number b.out ≡ false) c.self.view_is (fresh_not_out g.D.Domain.meaning _ _ _ _ _ c.self.invariant.0 refl c.in-Some.number some) in
    ap (λ (b : Books g.row.D-Class.Denot g.row.D-Rule.Denot). given_back b n) (returns-clause-after g c)
    ∙ ap (λ k. given_back (with_work c.args.self.now k) n) h
    ∙ work_undone c.args.self.now n (subst (λ k. is_among k c.args.self.now.out ≡ false) same out)
