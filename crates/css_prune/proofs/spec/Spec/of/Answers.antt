-- The entries without a fault are a specification.
use Rattle.std.proofs.Common.{◌<◌, List, length, sym, subst, ◌∙◌}
use Rattle.css_domain.specs.Entries.{Entry}
use Rattle.css_prune.specs.Faults.{EachBefore, IsRuleRight, AreRanksRight, IsFirstWrongRank}
use Rattle.css_prune.proofs.FirstFaults.{is_spec, some_there}
use Rattle.css_prune.proofs.spec.Spec.of.Goals as goal

pub first_wrong_rank-requires-clause-right : goal.first_wrong_rank-requires-clause-right
first_wrong_rank-requires-clause-right g c = λ κs l. subst (λ (xs : List (Entry g.row.D-Class.Denot g.row.D-Rule.Denot)). EachBefore (IsRuleRight g.D.Domain.meaning xs) xs (length xs)) (c.as_slice.ensures.value ∙ sym c.as_slice-2.ensures.value) c.in_default.ensures.none

pub returns-in-Some-first_wrong_rank-clause-refused : goal.returns-in-Some-first_wrong_rank-clause-refused
returns-in-Some-first_wrong_rank-clause-refused g c = (
  subst (λ (xs : List (Entry g.row.D-Class.Denot g.row.D-Rule.Denot)). EachBefore (IsRuleRight g.D.Domain.meaning xs) xs (length xs)) c.as_slice.ensures.value c.in_default.ensures.none,
  subst (λ (xs : List (Entry g.row.D-Class.Denot g.row.D-Rule.Denot)). IsFirstWrongRank g.D.Domain.meaning xs c.in-Some-first_wrong_rank.entry c.in-Some-first_wrong_rank.child) c.as_slice-2.ensures.value c.in-Some-first_wrong_rank.ensures.some,
)

pub invariant_of-result : goal.invariant_of-result
invariant_of-result g c =
    let some : 0 < length c.args.entries.items = some_there c.args.entries.len (length c.args.entries.items) (sym c.is_empty.ensures ∙ c.if-is_empty.false) c.args.entries.ok.0 in
    let right = subst (λ (xs : List (Entry g.row.D-Class.Denot g.row.D-Rule.Denot)). EachBefore (IsRuleRight g.D.Domain.meaning xs) xs (length xs)) c.as_slice.ensures.value c.in_default.ensures.none in
    let ranks = subst (λ (xs : List (Entry g.row.D-Class.Denot g.row.D-Rule.Denot)). EachBefore (AreRanksRight g.D.Domain.meaning xs) xs (length xs)) c.as_slice-2.ensures.value c.in_default-first_wrong_rank.ensures.none in
    (is_spec g.D.Domain.meaning c.args.entries.items some right ranks, c.requires)

pub returns-clause-right : goal.returns-clause-right
returns-clause-right g c =
    let some : 0 < length c.args.entries.items = some_there c.args.entries.len (length c.args.entries.items) (sym c.is_empty.ensures ∙ c.if-is_empty.false) c.args.entries.ok.0 in
    let right = subst (λ (xs : List (Entry g.row.D-Class.Denot g.row.D-Rule.Denot)). EachBefore (IsRuleRight g.D.Domain.meaning xs) xs (length xs)) c.as_slice.ensures.value c.in_default.ensures.none in
    let ranks = subst (λ (xs : List (Entry g.row.D-Class.Denot g.row.D-Rule.Denot)). EachBefore (AreRanksRight g.D.Domain.meaning xs) xs (length xs)) c.as_slice-2.ensures.value c.in_default-first_wrong_rank.ensures.none in
    is_spec g.D.Domain.meaning c.args.entries.items some right ranks
