use Rattle.std.proofs.Common.{◌≡◌, ◌≤◌, ◌∙◌, sym, ap, subst, length, List}
use Rattle.std.specs.Prelude.{None}
use Rattle.tiling_core.specs.Tiles.{Tiles}
use Rattle.css_domain.specs.Entries.{Entry}
use Rattle.css_prune.specs.Faults.{IsFirstWrongRank}
use Rattle.rule_kinds.specs.Rules.{TilingRule}
use Rattle.tile_rules.specs.Meaning.{tile_meaning}
use Rattle.spec_text.specs.Joined.{AreJoined}
use Rattle.spec_checker.specs.Accepting.{capped_counts}
use Rattle.spec_checker.specs.Refusing.{AreRulesRight}
use Rattle.spec_checker.proofs.Joined.{spec_by_rules, hold_by_rules}
use Rattle.spec_checker.proofs.Judged.{if_none, at_root, in_rules, in_ranks, counts_for, differ_of, avoiders_of}
use Rattle.spec_checker.proofs.checking.judge.Goals as goal

pub returns-in-Some-first_wrong_rank : goal.returns-in-Some-first_wrong_rank
returns-in-Some-first_wrong_rank c =
    let entries = c.as_slice-entries.result.now in
    let start = at_root c.args.basis.now c.args.file.now c.as_slice.result.now c.as_slice-2.result.now entries c.as_slice.ensures c.as_slice-2.ensures c.as_slice-entries.ensures (c.are_same.ensures.0 c.if-not-are_same.false) (c.in_ok-is_rooted.ensures.exact.0 c.if-not-branch.false) in
    let none : c.in_ok-entry.field-0 ≡ None = c.in_default.is in
    let rules : AreRulesRight entries = if_none c.in_ok-entry.field-0 (AreRulesRight entries) c.in_ok-entry.ensures.none none in
    (in_rules c.args.basis.now c.args.file.now entries c.as_slice-entries.ensures start rules, subst (λ (es : List (Entry Tiles TilingRule)). IsFirstWrongRank tile_meaning es c.in-Some-first_wrong_rank.entry c.in-Some-first_wrong_rank.child) c.as_slice-entries.ensures c.in-Some-first_wrong_rank.ensures.some)

pub counts_of-requires-clause-spec : goal.counts_of-requires-clause-spec
counts_of-requires-clause-spec c =
    let entries = c.as_slice-entries.result.now in
    let rules : AreRulesRight entries = if_none c.in_ok-entry.field-0 (AreRulesRight entries) c.in_ok-entry.ensures.none c.in_default.is in
    let joined : AreJoined entries = subst (λ (es : List (Entry Tiles TilingRule)). AreJoined es) (sym c.as_slice-entries.ensures) c.requires.joined in
    spec_by_rules entries joined (subst (λ (es : List (Entry Tiles TilingRule)). 1 ≤ length es) (sym c.as_slice-entries.ensures) c.requires.some_entries) rules c.in_default-first_wrong_rank.ensures.none

pub counts_of-requires-clause-hold : goal.counts_of-requires-clause-hold
counts_of-requires-clause-hold c =
    let entries = c.as_slice-entries.result.now in
    let rules : AreRulesRight entries = if_none c.in_ok-entry.field-0 (AreRulesRight entries) c.in_ok-entry.ensures.none c.in_default.is in
    let joined : AreJoined entries = subst (λ (es : List (Entry Tiles TilingRule)). AreJoined es) (sym c.as_slice-entries.ensures) c.requires.joined in
    hold_by_rules entries joined rules

pub returns-in-Some-first_difference : goal.returns-in-Some-first_difference
returns-in-Some-first_difference c =
    let entries = c.as_slice-entries.result.now in
    let start = at_root c.args.basis.now c.args.file.now c.as_slice.result.now c.as_slice-2.result.now entries c.as_slice.ensures c.as_slice-2.ensures c.as_slice-entries.ensures (c.are_same.ensures.0 c.if-not-are_same.false) (c.in_ok-is_rooted.ensures.exact.0 c.if-not-branch.false) in
    let rules : AreRulesRight entries = if_none c.in_ok-entry.field-0 (AreRulesRight entries) c.in_ok-entry.ensures.none c.in_default.is in
    let right = in_ranks c.args.basis.now c.args.file.now entries c.as_slice-entries.ensures (in_rules c.args.basis.now c.args.file.now entries c.as_slice-entries.ensures start rules) c.in_default-first_wrong_rank.ensures.none in
    let counts = counts_for c.as_slice-4.result.now c.in_ok-counts.counts.items entries c.args.file.now.entries c.len.result (length c.args.file.now.terms) c.as_slice-4.ensures.value c.in_ok-counts.ensures c.as_slice-entries.ensures c.len.ensures in
    (right, differ_of c.as_slice-3.result.now c.args.file.now.terms c.as_slice-4.result.now (capped_counts c.args.file.now.entries (length c.args.file.now.terms)) c.in-Some-first_difference.length c.as_slice-3.ensures counts c.in-Some-first_difference.ensures.some)

pub returns : goal.returns
returns c =
    let entries = c.as_slice-entries.result.now in
    let start = at_root c.args.basis.now c.args.file.now c.as_slice.result.now c.as_slice-2.result.now entries c.as_slice.ensures c.as_slice-2.ensures c.as_slice-entries.ensures (c.are_same.ensures.0 c.if-not-are_same.false) (c.in_ok-is_rooted.ensures.exact.0 c.if-not-branch.false) in
    let rules : AreRulesRight entries = if_none c.in_ok-entry.field-0 (AreRulesRight entries) c.in_ok-entry.ensures.none c.in_default.is in
    let right = in_ranks c.args.basis.now c.args.file.now entries c.as_slice-entries.ensures (in_rules c.args.basis.now c.args.file.now entries c.as_slice-entries.ensures start rules) c.in_default-first_wrong_rank.ensures.none in
    let counts = counts_for c.as_slice-4.result.now c.in_ok-counts.counts.items entries c.args.file.now.entries c.len.result (length c.args.file.now.terms) c.as_slice-4.ensures.value c.in_ok-counts.ensures c.as_slice-entries.ensures c.len.ensures in
    let same = c.in_default-first_difference.ensures.none in
    record {
      before = right;
      right = sym c.as_slice-3.ensures ∙ same ∙ counts;
      many = ap (λ (es : List (Entry Tiles TilingRule)). length es) c.as_slice-entries.ensures;
      items = sym c.as_slice-4.ensures.value ∙ sym same ∙ c.as_slice-3.ensures;
      counts = avoiders_of c.args.basis.now entries c.args.file.now.entries c.as_slice-entries.ensures (c.in_ok-is_rooted.ensures.counts c.if-not-branch.false);
    }
