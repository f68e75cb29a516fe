-- None is out any more.
use Rattle.std.proofs.Common.{length, ◌∙◌, refl, ap, arith}
use Rattle.css_ledger.specs.Stages.{is_done, stage_at}
use Rattle.css_ledger.proofs.Claims.{kept_recalled}
use Rattle.css_ledger.proofs.ledger.Ledger.recall.Goals as goal
use Rattle.lists.proofs.Places.{written_back}

pub invariant_of-self : goal.invariant_of-self
invariant_of-self g c =
    let old = c.self.inside.stages in
    let many = c.recall_all.auto.stages ∙ ap length c.deref_mut.ensures.value in
    let back = written_back old.len c.recall_all.new.stages old.items old.ok.0 many in
    rw back
    (kept_recalled g.D.Domain.meaning _ _ _ _ _ c.self.invariant.0 refl c.recall_all.new.stages many c.recall_all.ensures.none (λ n. c.recall_all.ensures.done n ∙ ap (λ s. is_done (stage_at s n)) c.deref_mut.ensures.value), λ n h. absurd (omega (arith, h)))
