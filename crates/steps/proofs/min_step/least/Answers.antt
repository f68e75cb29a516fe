use Rattle.std.proofs.Common.{List, sym, subst, ◌∙◌, arith}
use Rattle.std.specs.Prelude.{nat_lt, true, ◌≡◌, length}
use Rattle.std.proofs.lemmas.Bool.Decides.{nat_tests}
use Rattle.lists.specs.Members.{IsIn}
use Rattle.gridded.specs.Grids.{Point}
use Rattle.steps.proofs.Inactive.{none_single_held, single_behind, kept_within, few_more}
use Rattle.steps.proofs.LeastSoFar.{staying_are_gridded, staying_ascend, at_is_in, so_far, goes, stays}
use Rattle.steps.proofs.min_step.least.Goals.{then-not-holds_kept+in_ok-push, else-not-holds_kept}
use Rattle.steps.proofs.min_step.least.Goals as goal

pub more_single-points-requires : goal.more_single-points-requires
more_single-points-requires c = rw c.deref.ensures.value (record { within = c.loop-g.invariant.within; single = c.loop-g.invariant.single })

pub holds_kept-requires-clause-gridded : goal.holds_kept-requires-clause-gridded
holds_kept-requires-clause-gridded c =
    rw (c.deref-in-loop-g.ensures.value, c.loop-g.invariant.stay) (staying_are_gridded c.args.patterns.now c.requires.gridded c.requires.ascending c.loop-g.g-index)

pub holds_kept-requires-clause-ascending : goal.holds_kept-requires-clause-ascending
holds_kept-requires-clause-ascending c =
    rw (c.deref-in-loop-g.ensures.value, c.loop-g.invariant.stay) (staying_ascend c.args.patterns.now c.requires.gridded c.requires.ascending c.loop-g.g-index)

pub holds_kept-requires-clause-within : goal.holds_kept-requires-clause-within
holds_kept-requires-clause-within c = rw (c.deref-in-loop-g.ensures.value, ← c.deref.ensures.value) c.more_single-points.ensures.within

pub holds_kept-requires-clause-leaving : goal.holds_kept-requires-clause-leaving
holds_kept-requires-clause-leaving c = λ e.
    let patterns = c.args.patterns.now in
    let g = c.g-item.result in
    let m = subst (λ (h : List Point). IsIn h patterns) (sym c.g-item.is) (at_is_in c.loop-g.g-index patterns g c.loop-g-test.true) in
    rw (c.deref-in-loop-g.ensures.value, c.loop-g.invariant.stay) (so_far patterns c.requires.gridded c.requires.ascending c.loop-g.g-index g c.loop-g-test.true (sym c.g-item.is) (c.requires.leaving g m e))

pub holds_kept-requires-clause-unheld : goal.holds_kept-requires-clause-unheld
holds_kept-requires-clause-unheld c = λ long inside.
    let patterns = c.args.patterns.now in
    let g = c.g-item.result in
    let m = subst (λ (h : List Point). IsIn h patterns) (sym c.g-item.is) (at_is_in c.loop-g.g-index patterns g c.loop-g-test.true) in
    let two : nat_lt 1 (length g) ≡ true = grind (arith, nat_tests) in
    rw c.deref-in-loop-g.ensures.value (none_single_held c.args.active patterns c.loop-g.kept.items c.more_single-points.result g c.requires.single
    (kept_within patterns c.loop-g.g-index c.loop-g.kept.items c.loop-g.invariant.stay) m (rw c.deref.ensures.value at c.more_single-points.ensures.single) two inside)

pub loop-g-preserved : goal.loop-g-preserved
loop-g-preserved c =
    let patterns = c.args.patterns.now in
    let g = c.g-item.result in
    let held = rw (c.deref-in-loop-g.ensures.value, c.loop-g.invariant.stay) at c.holds_kept.ensures in
    let within = rw c.deref.ensures.value at c.more_single-points.ensures.within in
    let single = rw c.deref.ensures.value at c.more_single-points.ensures.single in
    elim c.if-not-holds_kept.branch [
      | then-not-holds_kept+in_ok-push w ↦ record {
        stay = rw (w.kept-is, w.in_ok-push.ensures.items, c.loop-g.invariant.stay)
            (stays patterns c.requires.gridded c.requires.ascending c.loop-g.g-index g c.loop-g-test.true (sym c.g-item.is) (sym held ∙ w.if-not-holds_kept.true));
        within = rw (w.kept-is, w.in_ok-push.ensures.items) (few_more c.loop-g.kept.items g c.more_single-points.result within);
        single = rw (w.kept-is, w.in_ok-push.ensures.items) (single_behind c.loop-g.kept.items c.more_single-points.result g within single);
      }
      | else-not-holds_kept w ↦ record {
        stay = rw (w.kept-is, c.loop-g.invariant.stay)
            (goes patterns c.requires.gridded c.requires.ascending c.loop-g.g-index g c.loop-g-test.true (sym c.g-item.is) (sym held ∙ w.if-not-holds_kept.false));
        within = rw w.kept-is within;
        single = rw w.kept-is single;
      }
    ]
