-- The complete filing of a tiling is determined.
use Rattle.std.proofs.Common.{◌≡◌, List, [], ◌∷◌, refl, sym, ap, subst, ◌∙◌}
use Rattle.std.specs.Prelude.{map, zip, Some}
use Rattle.lists.specs.Members.IsIn.{here, later}
use Rattle.lists.specs.Members.{IsIn}
use Rattle.lists.proofs.Members.{IsIn-map, from_IsIn-map}
use Rattle.tiling_core.specs.Tiles.{Tiles}
use Rattle.tiling_core.proofs.Minimal.{each_of}
use Rattle.steps.specs.declared.step.Step.{Step}
use Rattle.steps.specs.Traces.{replay}
use Rattle.normal_form.specs.TraceLaws.{trace}
use Rattle.rule_kinds.specs.Rules.{TilingRule}
use Rattle.rule_kinds.specs.Children.{raw_children}
use Rattle.rule_kinds.specs.Choices.{Packs, kinds_of}
use Rattle.rule_kinds.specs.Follows.{Follows}
use Rattle.tile_rules.specs.Complete.{IsComplete}
use Rattle.pack_law.specs.Tried.{IsTried}

pub same_if_some : {X : Type 0} (xs ys : List X) → map (λ (x : X). Some x) xs ≡ map (λ (x : X). Some x) ys → xs ≡ ys
same_if_some [] [] h = refl
same_if_some [] (y ∷ ys) h = absurd cc
same_if_some (x ∷ xs) [] h = absurd cc
same_if_some {X} (x ∷ xs) (y ∷ ys) h =
    let e : x ≡ y = cc in
    let f : map (λ (z : X). Some z) xs ≡ map (λ (z : X). Some z) ys = cc in
    let g = same_if_some xs ys f in
    λ i. e i ∷ g i

-- lists whose items are told by what f gives of them
pub same_if_told : {X Y : Type 0} (f : X → Y) (P : X → Type 0) → ((x y : X) → P x → P y → f x ≡ f y → x ≡ y) → (xs ys : List X) → map f xs ≡ map f ys → ((x : X) → IsIn x xs → P x) → ((y : X) → IsIn y ys → P y) → xs ≡ ys
same_if_told f P told [] [] h p q = refl
same_if_told f P told [] (y ∷ ys) h p q = absurd cc
same_if_told f P told (x ∷ xs) [] h p q = absurd cc
same_if_told {X} {Y} f P told (x ∷ xs) (y ∷ ys) h p q =
    let e : f x ≡ f y = cc in
    let g : map f xs ≡ map f ys = cc in
    let first = told x y (p x here) (q y here) e in
    let rest = same_if_told f P told xs ys g (λ z i. p z (later x i)) (λ z i. q z (later y i)) in
    λ i. first i ∷ rest i

-- the rule is one of a complete filing of t
pub record IsTraced (t : Tiles) (r : TilingRule) : Type 0 where
  pub parent : r.parent ≡ t
  pub follows : Follows r
  pub traced : r.traces ≡ map trace (raw_children t r.kind)

pub of_complete : (t : Tiles) (packs : Packs) (rules : List TilingRule) → IsComplete rules t packs → (r : TilingRule) → IsIn r rules → IsTraced t r
of_complete t packs rules is r h =
    record {
      parent = each_of (λ (q : TilingRule). q.parent ≡ t) h is.of_parent;
      follows = each_of Follows h is.follow;
      traced = each_of (λ (q : TilingRule). q.traces ≡ map trace (raw_children t q.kind)) h is.traced;
    }

-- such a rule is told by its kind
pub told_by_kind : (t : Tiles) (r s : TilingRule) → IsTraced t r → IsTraced t s → r.kind ≡ s.kind → r ≡ s
told_by_kind t r s a b k =
    let parents : r.parent ≡ s.parent = a.parent ∙ sym b.parent in
    let traces : r.traces ≡ s.traces = a.traced ∙ ap (λ kind. map trace (raw_children t kind)) k ∙ sym b.traced in
    let replayed : map (λ (p : Tiles × List Step). replay p.0 p.1) (zip (raw_children r.parent r.kind) r.traces) ≡ map (λ (p : Tiles × List Step). replay p.0 p.1) (zip (raw_children s.parent s.kind) s.traces) = λ i. map (λ (p : Tiles × List Step). replay p.0 p.1) (zip (raw_children (parents i) (k i)) (traces i)) in
    let children : r.children ≡ s.children = same_if_some r.children s.children (sym a.follows.replayed ∙ replayed ∙ b.follows.replayed) in
    λ i. record { kind = k i; parent = parents i; children = children i; traces = traces i }

pub complete_is_determined : (t : Tiles) (packs : Packs) (f g : List TilingRule) → IsComplete f t packs → IsComplete g t packs → f ≡ g
complete_is_determined t packs f g a b = same_if_told (λ (r : TilingRule). r.kind) (IsTraced t) (told_by_kind t) f g (a.kinds ∙ sym b.kinds) (of_complete t packs f a) (of_complete t packs g b)

-- ---- rules that the packs try
pub complete_are_tried : (t : Tiles) (packs : Packs) (rules : List TilingRule) → IsComplete rules t packs → (r : TilingRule) → IsIn r rules → IsTried packs r
complete_are_tried t packs rules is r h =
    let traced = of_complete t packs rules is r h in
    record {
      kind = subst (λ kinds. IsIn r.kind kinds) (is.kinds ∙ ap (λ u. kinds_of u packs) (sym traced.parent)) (IsIn-map (λ (q : TilingRule). q.kind) h);
      traced = traced.traced ∙ ap (λ u. map trace (raw_children u r.kind)) (sym traced.parent);
    }

-- each such rule of a class that follows is in the complete filing
pub tried_is_in : (t : Tiles) (packs : Packs) (rules : List TilingRule) → IsComplete rules t packs → (r : TilingRule) → Follows r → r.parent ≡ t → IsTried packs r → IsIn r rules
tried_is_in t packs rules is r follows parent tried =
    let s = from_IsIn-map (λ (q : TilingRule). q.kind) rules (subst (λ kinds. IsIn r.kind kinds) (ap (λ u. kinds_of u packs) parent ∙ sym is.kinds) tried.kind) in
    let own : IsTraced t r = record { parent = parent; follows = follows; traced = tried.traced ∙ ap (λ u. map trace (raw_children u r.kind)) parent } in
    subst (λ q. IsIn q rules) (sym (told_by_kind t r s.0 own (of_complete t packs rules is s.0 s.1) s.2)) s.1
