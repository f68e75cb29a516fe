use Rattle.std.proofs.Common.{length, refl, ap, arith}
use Rattle.css_domain.specs.Entries.{Entry}
use Rattle.css_prune.specs.Faults.{IsMatched}
use Rattle.css_prune.proofs.FirstFaults.{never, not_both}
use Rattle.css_prune.proofs.faults.are_matched.Goals as goal
use Rattle.lists.proofs.Numbers.{up_to_next}

pub returns-then-not-is_matched : goal.returns-then-not-is_matched
returns-then-not-is_matched g c =
    let many = ap (λ (e : Entry g.row.D-Class.Denot g.row.D-Rule.Denot). length (g.D.Domain.meaning.children e.rule)) c.entry.view_is in (
      never,
      λ f. not_both c.is_matched.result c.if-not-is_matched.true (c.is_matched.ensures.1 (f c.loop-slot.slot (omega (arith, c.loop-slot-test.true, c.arity-slot-end.ensures, many, c.requires)))),
    )

pub loop-slot-preserved : goal.loop-slot-preserved
loop-slot-preserved g c = up_to_next (IsMatched g.D.Domain.meaning c.args.entries.now c.args.entry.now) c.loop-slot.slot c.loop-slot.invariant (c.is_matched.ensures.0 c.if-not-is_matched.false)

pub returns : goal.returns
returns g c =
    let many = ap (λ (e : Entry g.row.D-Class.Denot g.row.D-Rule.Denot). length (g.D.Domain.meaning.children e.rule)) c.entry.view_is in (
      λ t s h. c.loop-slot.invariant s (omega (arith, h, c.loop-slot-test.false, c.arity-slot-end.ensures, many, c.requires)),
      λ f. refl,
    )
