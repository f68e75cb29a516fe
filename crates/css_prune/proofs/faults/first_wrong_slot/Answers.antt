use Rattle.std.proofs.Common.{length, ap, arith}
use Rattle.css_domain.specs.Entries.{Entry}
use Rattle.css_prune.specs.Faults.{IsRankRight}
use Rattle.css_prune.proofs.FirstFaults.{not_both}
use Rattle.css_prune.proofs.faults.first_wrong_slot.Goals as goal
use Rattle.lists.proofs.Numbers.{up_to_next}

pub is_rank_right-requires-clause-matched : goal.is_rank_right-requires-clause-matched
is_rank_right-requires-clause-matched g c =
    let many = ap (λ (e : Entry g.row.D-Class.Denot g.row.D-Rule.Denot). length (g.D.Domain.meaning.children e.rule)) c.entry.view_is in
    λ κs l. c.requires.matched c.loop-slot.slot (omega (arith, c.loop-slot-test.true, c.arity-slot-end.ensures, many, c.requires.as_many))

pub is_rank_right-requires-clause-within : goal.is_rank_right-requires-clause-within
is_rank_right-requires-clause-within g c =
    let many = ap (λ (e : Entry g.row.D-Class.Denot g.row.D-Rule.Denot). length (g.D.Domain.meaning.children e.rule)) c.entry.view_is in
    omega (arith, c.loop-slot-test.true, c.arity-slot-end.ensures, many, c.requires.as_many)

pub returns-then-not-is_rank_right-clause-some : goal.returns-then-not-is_rank_right-clause-some
returns-then-not-is_rank_right-clause-some g c =
    let many = ap (λ (e : Entry g.row.D-Class.Denot g.row.D-Rule.Denot). length (g.D.Domain.meaning.children e.rule)) c.entry.view_is in
    record {
      within = omega (arith, c.loop-slot-test.true, c.arity-slot-end.ensures, many, c.requires.as_many);
      wrong = λ r. not_both c.is_rank_right.result c.if-not-is_rank_right.true (c.is_rank_right.ensures.1 r);
      before = c.loop-slot.invariant;
    }

pub loop-slot-preserved : goal.loop-slot-preserved
loop-slot-preserved g c = up_to_next (IsRankRight g.D.Domain.meaning c.args.entries.now c.args.entry.now) c.loop-slot.slot c.loop-slot.invariant (c.is_rank_right.ensures.0 c.if-not-is_rank_right.false)

pub returns-clause-none : goal.returns-clause-none
returns-clause-none g c =
    let many = ap (λ (e : Entry g.row.D-Class.Denot g.row.D-Rule.Denot). length (g.D.Domain.meaning.children e.rule)) c.entry.view_is in
    λ s h. c.loop-slot.invariant s (omega (arith, h, c.loop-slot-test.false, c.arity-slot-end.ensures, many, c.requires.as_many))
