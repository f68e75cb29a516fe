use Rattle.std.proofs.Common.{◌≡◌, ◌<◌, ◌+◌, arith, List, ℕ, length, sym, ap, subst, ◌∙◌}
use Rattle.std.specs.Prelude.{All}
use Rattle.lists.proofs.Places.{at_place, some_at, written_back}
use Rattle.tiling_core.specs.Tiles.{Tiles}
use Rattle.css_domain.specs.Entries.{Entry}
use Rattle.css_prune.proofs.FirstFaults.{before_more, not_both}
use Rattle.rule_kinds.specs.Rules.{TilingRule}
use Rattle.spec_checker.specs.Refusing.{IsRuleRight}
use Rattle.spec_checker.specs.Passing.{AreMarked}
use Rattle.spec_checker.proofs.Joined.{joined_at, all_within}
use Rattle.spec_checker.proofs.Marks.{marked_next, marks_of}
use Rattle.spec_checker.proofs.rules.first_wrong_rule.Goals as goal

pub returns-then-not-branch-clause-some : goal.returns-then-not-branch-clause-some
returns-then-not-branch-clause-some c =
    let e = at_place c.args.entries.now c.loop-place.place c.loop-place-test.true in
    record {
      entry = e.0;
      at = e.1;
      wrong = λ r. not_both c.in_ok-is_rule_right.field-0 c.if-not-branch.true ((c.in_ok-is_rule_right.ensures.right e.0 e.1).1 r);
      before = c.loop-place.invariant.right;
    }

pub mark-requires : goal.mark-requires
mark-requires c =
    let at = some_at c.args.entries.now c.loop-place.place c.index-entries-place.result c.loop-place-test.true c.index-entries-place.is in
    let named = sym (c.as_slice.ensures ∙ ap (λ (e : Entry Tiles TilingRule). e.children) c.entry.view_is) in
    let marks : length c.args.entries.now ≡ length c.deref_mut.result.now = sym (ap length c.deref_mut.ensures.value ∙ c.loop-place.invariant.named.many) in
    let each = all_within c.args.entries.now c.index-entries-place.result (joined_at c.args.entries.now c.loop-place.place c.index-entries-place.result c.requires.joined at) in
    subst (λ (xs : List ℕ). All (λ child. child < length c.deref_mut.result.now) xs) named (subst (λ n. All (λ child. child < n) c.index-entries-place.result.children) marks each)

pub loop-place-preserved : goal.loop-place-preserved
loop-place-preserved c =
    let at = some_at c.args.entries.now c.loop-place.place c.index-entries-place.result c.loop-place-test.true c.index-entries-place.is in
    let children = c.as_slice.ensures ∙ ap (λ (e : Entry Tiles TilingRule). e.children) c.entry.view_is in
    let many = c.mark.ensures.many ∙ ap length c.deref_mut.ensures.value in
    let back = written_back c.loop-place.named.len c.mark.new.named c.loop-place.named.items c.loop-place.named.ok.0 many in
    record {
      seen = c.in_ok-is_rule_right.ensures.seen c.if-not-branch.false;
      named = subst (AreMarked c.args.entries.now (c.loop-place.place + 1)) (sym back) (marked_next c.args.entries.now c.loop-place.place c.index-entries-place.result c.loop-place.named.items c.mark.new.named at c.loop-place.invariant.named many
          (marks_of c.deref_mut.result.now c.loop-place.named.items c.mark.new.named c.as_slice.result.now c.index-entries-place.result.children c.deref_mut.ensures.value children c.mark.ensures.marked));
      right = before_more (IsRuleRight c.args.entries.now) c.args.entries.now c.loop-place.place c.index-entries-place.result at ((c.in_ok-is_rule_right.ensures.right c.index-entries-place.result at).0 c.if-not-branch.false) c.loop-place.invariant.right;
    }

pub returns-clause-none : goal.returns-clause-none
returns-clause-none c = λ j x l at. c.loop-place.invariant.right j x (omega (arith, l, c.loop-place-test.false)) at
