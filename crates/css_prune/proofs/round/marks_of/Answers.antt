-- The rounds as far as one adds none, or all that there can be.
use Rattle.std.proofs.Common.{◌≡◌, [], arith, subst, length, ap, sym, ◌∙◌}
use Rattle.std.specs.Vec.{vec_len}
use Rattle.std.proofs.lemmas.Bool.{eqb-true}
use Rattle.css_prune.specs.Pruning.{kept}
use Rattle.css_prune.proofs.Chains.{nil_if_short}
use Rattle.css_prune.specs.Marks.{AreAfter}
use Rattle.css_prune.proofs.Steps.{early_end, whole_end}
use Rattle.css_prune.proofs.round.marks_of.Goals as goal
use Rattle.lists.proofs.Places.{written_back}

pub returns-then-is_empty-clause-are : goal.returns-then-is_empty-clause-are
returns-then-is_empty-clause-are c =
    let ranks = written_back c.loop-done.ranks.len c.run_round.new.ranks c.loop-done.ranks.items c.loop-done.ranks.ok.0 (c.run_round.auto.ranks ∙ ap length c.deref_mut.ensures.value) in
    let picks = written_back c.loop-done.picks.len c.run_round.new.picks c.loop-done.picks.items c.loop-done.picks.ok.0 (c.run_round.auto.picks ∙ ap length c.deref_mut-in-loop-done.ensures.value) in
    let z : vec_len c.in_ok-fresh.fresh ≡ 0 = eqb-true (vec_len c.in_ok-fresh.fresh) 0 (sym c.is_empty.ensures ∙ c.if-is_empty.true) in
    let none : c.in_ok-fresh.fresh.items ≡ [] = nil_if_short c.in_ok-fresh.fresh.items (omega (arith, z, c.in_ok-fresh.fresh.ok)) in
    rw (ranks, picks)
    (early_end (kept c.args.keep.now) c.args.records.now c.loop-done.done c.loop-done.ranks.items c.loop-done.picks.items c.run_round.new.ranks c.run_round.new.picks (omega (arith, c.loop-done-test.true)) c.loop-done.invariant.marks c.in_ok-fresh.ensures.after (c.in_ok-fresh.ensures.none none ∙ c.deref_mut.ensures.value))

pub returns-clause-are : goal.returns-clause-are
returns-clause-are c =
    let e : c.loop-done.done ≡ length c.args.records.now = omega (arith, c.loop-done-test.false, c.loop-done.auto.done-end) in
    whole_end (kept c.args.keep.now) c.args.records.now c.loop-done.ranks.items c.loop-done.picks.items (subst (λ n. AreAfter (kept c.args.keep.now) c.args.records.now n c.loop-done.ranks.items c.loop-done.picks.items) e c.loop-done.invariant.marks)
