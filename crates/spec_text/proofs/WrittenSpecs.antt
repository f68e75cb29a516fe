-- The text of a specification whose rules follow spells it.
use Rattle.std.proofs.Common.{◌≡◌, ◌<◌, ◌^◌, ℕ, suc, List, length, map, refl, sym, ap, subst, ◌∙◌, arith}
use Rattle.std.specs.Prelude.{nat_eq, slice_index, IsTrue}
use Rattle.std.specs.Cmp.{second_so}
use Rattle.std.proofs.lemmas.Bool.{and_from}
use Rattle.std.proofs.lemmas.Grind.{common_steps}
use Rattle.std.proofs.lemmas.List.{length-map}
use Rattle.std.proofs.lemmas.Option.{slice_get_within}
use Rattle.lists.proofs.Members.{of_all, from_IsIn-map}
use Rattle.lists.proofs.Tests.{all_pass}
use Rattle.tiling_core.specs.Tiles.{Tiles, IsTiling}
use Rattle.tiling_core.specs.Roots.{root_of}
use Rattle.steps.specs.declared.step.Step.{Step}
use Rattle.css_domain.specs.Entries.{Entry, IsLinked}
use Rattle.css_terms.specs.declared.term.Term.{Term}
use Rattle.rule_kinds.specs.declared.kind.Kind.{Kind}
use Rattle.rule_kinds.specs.declared.kind.Kind.TheVariants as kind
use Rattle.rule_kinds.specs.Rules.{TilingRule}
use Rattle.rule_kinds.specs.Children.{raw_children, placed, factor}
use Rattle.rule_kinds.specs.Conditions.{applies}
use Rattle.rule_kinds.specs.Follows.{Follows}
use Rattle.tile_rules.specs.Meaning.{tile_meaning}
use Rattle.spec_lines.specs.Follows.{arity}
use Rattle.spec_lines.specs.Ranges.{is_term_in_range}
use Rattle.spec_lines.specs.Files.{IsFileText}
use Rattle.spec_lines.proofs.Taking.{equal_tests}
use Rattle.spec_text.specs.Texts.{spec_text}
use Rattle.spec_text.specs.Files.{file_entry, file_of, IsKeptSpec}
use Rattle.spec_text.proofs.FileTexts.{writable_spec}
use Rattle.spec_text.proofs.KeptKinds.{kind_line}
use Rattle.spec_text.proofs.KeptRoots.{root_is_tiling}
use Rattle.spec_text.proofs.KeptTraces.{trace_kept, traces_kept}
use Rattle.spec_text.proofs.KeptEntries.{IsGoodEntry, IsGoodFile, letters_below, good_is_writable}

-- as many raw children as lines
many_children : (t : Tiles) (k : Kind) → length (raw_children t k) ≡ arity k
unfolding raw_children
many_children t kind.Unit = refl
many_children t kind.Point = refl
many_children t kind.Void = refl
many_children t (kind.Insert r) = refl
many_children t (kind.Place qs d) = ap suc (length-map qs (placed t qs d))
many_children t (kind.RowCut y set) = refl
many_children t (kind.ColumnCut x set) = refl
many_children t (kind.Factor sets) = length-map sets (factor t)
many_children t (kind.Infer patterns) = refl

child_below : (entries : List (Entry Tiles TilingRule)) (e : Entry Tiles TilingRule) → IsLinked tile_meaning entries e → (k : ℕ) → k < length e.children → slice_index e.children k < length entries
child_below entries e linked k h = let named = linked.child k h in slice_get_within entries (slice_index e.children k) named.named named.there

good_entry : (entries : List (Entry Tiles TilingRule)) (e : Entry Tiles TilingRule) → IsLinked tile_meaning entries e → Follows e.rule → e.rank < 2 ^ 32 → IsGoodEntry (length entries) (file_entry e)
good_entry entries e linked follows rank =
    let made = follows.made in
    let raw = raw_children e.rule.parent e.rule.kind in
    let traces = traces_kept raw e.rule.traces e.rule.children (λ t there. of_all (λ x. IsTiling x) made.raw there) follows.as_many follows.replayed in
    let arity_is = many_children e.rule.parent e.rule.kind in
    let as_many : length e.children ≡ arity e.rule.kind = linked.as_many ∙ traces.1 ∙ arity_is in
    let many_traces : length e.rule.traces ≡ arity e.rule.kind = follows.as_many ∙ arity_is in
    record {
      tiling = subst IsTiling linked.own made.parent;
      rank = rank;
      kind = kind_line e.rule.parent e.rule.kind made.parent made.kind follows.condition;
      children = letters_below e.children (length entries) (child_below entries e linked);
      traces = traces.0;
      many = and_from (nat_eq (length e.children) (arity e.rule.kind)) (nat_eq (length e.rule.traces) (arity e.rule.kind)) (equal_tests (length e.children) (arity e.rule.kind) as_many) (equal_tests (length e.rule.traces) (arity e.rule.kind) many_traces);
    }

good_file : (words : List (List ℕ)) (trace : List Step) (entries : List (Entry Tiles TilingRule)) (terms : List Term) → IsKeptSpec words trace entries terms → IsGoodFile (file_of words trace entries terms)
good_file words trace entries terms kept =
    let long : length (map file_entry entries) ≡ length entries = length-map entries file_entry in
    let some = kept.spec.some in
    let few = kept.few in
    let one = kept.some in
    let most = kept.most in
    record {
      basis = kept.basis;
      trace = trace_kept trace (root_of words) kept.root (root_is_tiling words kept.basis) kept.replayed;
      some = omega (arith, long, some);
      few = omega (arith, long, few);
      entries = λ f there.
          let from = from_IsIn-map file_entry entries there in
          let e = from.0 in
          let good = good_entry entries e (kept.spec.linked e (from.1)) (kept.hold e (from.1)) (of_all (λ (x : Entry Tiles TilingRule). x.rank < 2 ^ 32) kept.ranks (from.1)) in
          subst (λ n. IsGoodEntry n f) (sym long) (subst (IsGoodEntry (length entries)) (sym (from.2)) good);
      many = grind (arith, common_steps, one, most);
      terms = all_pass is_term_in_range terms (λ x there. of_all (λ y. IsTrue (is_term_in_range y)) kept.capped there);
      last = kept.last;
    }

-- what is written of a specification whose rules follow spells it
pub kept_spec : (words : List (List ℕ)) (trace : List Step) (entries : List (Entry Tiles TilingRule)) (terms : List Term) → IsKeptSpec words trace entries terms → IsFileText (spec_text words trace entries terms) (file_of words trace entries terms)
kept_spec words trace entries terms kept = writable_spec words trace entries terms (good_is_writable (file_of words trace entries terms) (good_file words trace entries terms kept))
