-- The counts of rules that follow.
use Rattle.std.proofs.Common.{◌≡◌, ◌+◌, ℕ, true, false, List, [], ◌∷◌, length, refl, sym, ap, ◌∙◌, arith}
use Rattle.std.specs.Prelude.{map, zip, Option, Some, sum_by}
use Rattle.std.specs.List.{AllByRecursion}
use Rattle.std.proofs.lemmas.List.Sums.{sum_by-cons}
use Rattle.std.proofs.lemmas.List.Elements.{recursion_from_All}
use Rattle.std.proofs.lemmas.Bool.{and_parts}
use Rattle.tiling_core.specs.Tiles.{Tiles, IsTiling, count}
use Rattle.tiling_core.specs.Carried.{CountsAddUp}
use Rattle.tiling_core.specs.Counts.{UnitHasOneMember, PointHasOneMember}
use Rattle.tiling_core.specs.Roots.{unit_tiling, point_tiling}
use Rattle.tiling_core.specs.Same.{tiles_eq_decides}
use Rattle.steps.specs.declared.step.Step.{Step}
use Rattle.steps.specs.Traces.{replay}
use Rattle.normal_form.specs.TraceLaws.{ReplaysKeepMembers}
use Rattle.emptiness.specs.Emptiness.{MembersWithinWeight}
use Rattle.rule_kinds.specs.Rules.{TilingRule}
use Rattle.gridded.specs.declared.cell.Cell.{Cell}
use Rattle.factoring_law.specs.FactorLaw.{IsFactorRule, FactorRulesCount}
use Rattle.rule_kinds.specs.declared.kind.Kind.{Kind}
use Rattle.rule_kinds.specs.declared.kind.Kind.TheVariants as kind
use Rattle.rule_kinds.specs.Children.{raw_children}
use Rattle.rule_kinds.specs.Conditions as D
use Rattle.rule_kinds.specs.Conditions.{applies}
use Rattle.emptiness.specs.Inferable.{has_no_member}
use Rattle.css_domain.specs.declared.Shape.TheVariants.{Union}
use Rattle.rule_kinds.specs.Kinds.{shape_of}
use Rattle.rule_kinds.specs.Carried.{MembersAreCarried, has_one_image, numbered_image, from_image}
use Rattle.rule_kinds.specs.Counting.{CountsCombine, RulesCount}
use Rattle.rule_kinds.specs.Follows.{Follows}
use Rattle.emptiness.proofs.NoMembers.{none_of_any_length}

abbrev replayed_from : List Tiles → List (List Step) → List (Option Tiles)
replayed_from raws traces = map (λ (p : Tiles × List Step). replay p.0 p.1) (zip raws traces)

-- the reduced children have as many members as the raw ones
replayed_counts : ReplaysKeepMembers → (raws : List Tiles) (traces : List (List Step)) (children : List Tiles) → AllByRecursion (λ t. IsTiling t) raws → length traces ≡ length raws
    → replayed_from raws traces ≡ map (λ t. Some t) children → (n : ℕ) → sum_by (λ (c : ℕ → ℕ). c n) (map count children) ≡ sum_by (λ t. count t n) raws
replayed_counts keeps [] traces [] k m e n = refl
replayed_counts keeps [] traces (c ∷ children) k m e n = absurd cc
replayed_counts keeps (t ∷ raws) [] children k m e n = absurd (omega arith)
replayed_counts keeps (t ∷ raws) (s ∷ traces) [] k m e n = absurd cc
replayed_counts keeps (t ∷ raws) (s ∷ traces) (c ∷ children) k m e n =
    let first : replay t s ≡ Some c = cc in
    let later : replayed_from raws traces ≡ map (λ u. Some u) children = cc in
    let same : count c n ≡ count t n = (keeps s t c k.0 first).counts n in
    sum_by-cons (λ (f : ℕ → ℕ). f n) (count c) (map count children)
    ∙ ap (λ a. a + sum_by (λ (f : ℕ → ℕ). f n) (map count children)) same
    ∙ ap (λ b. count t n + b) (replayed_counts keeps raws traces children k.1 (omega arith) later n)
    ∙ sym (sum_by-cons (λ u. count u n) t raws)

-- so the children of a rule that follows have as many as the raw children
children_counts : ReplaysKeepMembers → (r : TilingRule) → Follows r → (n : ℕ) → sum_by (λ (c : ℕ → ℕ). c n) (map count r.children) ≡ sum_by (λ t. count t n) (raw_children r.parent r.kind)
children_counts keeps r f n = replayed_counts keeps (raw_children r.parent r.kind) r.traces r.children (recursion_from_All (λ t. IsTiling t) (raw_children r.parent r.kind) f.made.raw) f.as_many f.replayed n

unit_counts : UnitHasOneMember → (r : TilingRule) → Follows r → r.kind ≡ kind.Unit → CountsCombine r
unfolding D.applies
unit_counts one r f e n = let same : r.parent ≡ unit_tiling = (tiles_eq_decides r.parent unit_tiling).0 (rw e at f.condition) in rw (same, e) (one n)

point_counts : PointHasOneMember → (r : TilingRule) → Follows r → r.kind ≡ kind.Point → CountsCombine r
unfolding D.applies
point_counts one r f e n = let same : r.parent ≡ point_tiling = (tiles_eq_decides r.parent point_tiling).0 (rw e at f.condition) in rw (same, e) (one n)

void_counts : MembersWithinWeight → (r : TilingRule) → Follows r → r.kind ≡ kind.Void → CountsCombine r
unfolding D.applies
void_counts within r f e n = rw e (none_of_any_length within r.parent (and_parts _ (has_no_member r.parent) (rw e at f.condition)).1 n)

-- where each member has one image, the raw children have as many members together
union_counts : CountsAddUp → MembersAreCarried → ReplaysKeepMembers → (r : TilingRule) → Follows r → has_one_image r.kind ≡ true → shape_of r.kind ≡ Union → CountsCombine r
union_counts adds carried keeps r f one e n =
    let maps = carried r.parent f.made.parent r.kind f.made.kind f.condition one in
    rw e (adds r.parent (raw_children r.parent r.kind) (numbered_image r.kind) (from_image r.parent r.kind) maps n ∙ sym (children_counts keeps r f n))

-- the factors are the raw children of a rule that factors
factor_rule : (r : TilingRule) (sets : List (List Cell)) → Follows r → r.kind ≡ kind.Factor sets → IsFactorRule r sets
factor_rule r sets f e = record {
  parent = f.made.parent;
  kind = e;
  condition = rw e at f.condition;
  raw = rw e at f.made.raw;
  as_many = rw e at f.as_many;
  replayed = rw e at f.replayed;
}

pub rules_count : UnitHasOneMember → PointHasOneMember → MembersWithinWeight → CountsAddUp → ReplaysKeepMembers → MembersAreCarried → FactorRulesCount → RulesCount
rules_count unit point within adds keeps carried factors r f = by_kind r.kind refl
  where
    by_kind : (k : Kind) → r.kind ≡ k → CountsCombine r
    by_kind kind.Unit e = unit_counts unit r f e
    by_kind kind.Point e = point_counts point r f e
    by_kind kind.Void e = void_counts within r f e
    by_kind (kind.Factor sets) e = factors r sets (factor_rule r sets f e)
    by_kind (kind.Insert pattern) e = union_counts adds carried keeps r f (ap has_one_image e) (ap shape_of e)
    by_kind (kind.Place qs d) e = union_counts adds carried keeps r f (ap has_one_image e) (ap shape_of e)
    by_kind (kind.RowCut y set) e = union_counts adds carried keeps r f (ap has_one_image e) (ap shape_of e)
    by_kind (kind.ColumnCut x set) e = union_counts adds carried keeps r f (ap has_one_image e) (ap shape_of e)
    by_kind (kind.Infer patterns) e = union_counts adds carried keeps r f (ap has_one_image e) (ap shape_of e)
