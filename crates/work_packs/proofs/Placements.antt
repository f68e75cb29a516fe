-- Placements, each once.
use Rattle.std.proofs.Common.{◌≡◌, Bool, true, false, List, [], ◌∷◌, ◌++◌, refl, sym, ap, ◌∙◌}
use Rattle.std.specs.Prelude.{◌&&◌, ◌==◌, map}
use Rattle.std.specs.List.{filter}
use Rattle.std.specs.Cmp.Lexicographic.{pointwise}
use Rattle.std.proofs.lemmas.Bool.{and_parts}
use Rattle.std.proofs.lemmas.Bool.Decides.{Decides-eqb}
use Rattle.std.proofs.lemmas.List.{map-append}
use Rattle.std.proofs.lemmas.List.Elements.{filter-append}
use Rattle.lists.specs.Added.{with_all_new, with_new}
use Rattle.lists.proofs.Added.{all_new_append}
use Rattle.lists.proofs.Filters.{filter-map}
use Rattle.gridded.specs.Orders.{gridded_eq}
use Rattle.gridded.specs.OrderLaws.{gridded_eq_decides}
use Rattle.gridded.specs.declared.axis.Axis.TheVariants as axis
use Rattle.sequences.specs.Ascending.{exact_sequences}
use Rattle.tiling_core.specs.Tiles.{Tiles}
use Rattle.rule_kinds.specs.Pointeds.{PointedPattern}
use Rattle.rule_kinds.specs.declared.kind.Direction.{Direction}
use Rattle.rule_kinds.specs.declared.kind.Direction.TheVariants.{North, South, East, West}
use Rattle.rule_kinds.specs.declared.kind.Kind.{Kind}
use Rattle.rule_kinds.specs.declared.kind.Kind.TheVariants as kind
use Rattle.rule_kinds.specs.Conditions.{applies}
use Rattle.rule_kinds.specs.Choices.{Packs, when, each_once, direction_eq, same_placement, line_placements, point_placements, placements}
use Rattle.work_packs.specs.KindLines.{placing, row_placements, column_placements, single_placements, is_same_place}
use Rattle.work_packs.proofs.EachOnce.{all_once, filter_once, added-map}

abbrev Placement : Type 0
Placement = List PointedPattern × Direction

abbrev place : Placement → Kind
place p = kind.Place p.0 p.1

-- ---- the same placement
direction_exact : (d e : Direction) → direction_eq d e ≡ true → d ≡ e
direction_exact North North h = refl
direction_exact South South h = refl
direction_exact East East h = refl
direction_exact West West h = refl
direction_exact North South h = absurd cc
direction_exact North East h = absurd cc
direction_exact North West h = absurd cc
direction_exact South North h = absurd cc
direction_exact South East h = absurd cc
direction_exact South West h = absurd cc
direction_exact East North h = absurd cc
direction_exact East South h = absurd cc
direction_exact East West h = absurd cc
direction_exact West North h = absurd cc
direction_exact West South h = absurd cc
direction_exact West East h = absurd cc

abbrev same_pointed : PointedPattern → PointedPattern → Bool
same_pointed a b = gridded_eq a.pattern b.pattern && a.index == b.index

pointed_exact : (a b : PointedPattern) → same_pointed a b ≡ true → a ≡ b
pointed_exact a b h =
    let p = and_parts (gridded_eq a.pattern b.pattern) (a.index == b.index) h in
    let e : a.pattern ≡ b.pattern = (gridded_eq_decides a.pattern b.pattern).0 p.0 in
    let f : a.index ≡ b.index = (Decides-eqb a.index b.index).0 p.1 in
    λ k. record { pattern = e k; index = f k }

placement_exact : (p q : Placement) → same_placement p q ≡ true → p ≡ q
placement_exact p q h =
    let s = and_parts (pointwise same_pointed p.0 q.0) (direction_eq p.1 q.1) h in
    let e : p.0 ≡ q.0 = exact_sequences pointed_exact p.0 q.0 s.0 in
    let f : p.1 ≡ q.1 = direction_exact p.1 q.1 s.1 in
    λ k. (e k, f k)

-- ---- what some letters place
placing_when : (t : Tiles) (b : Bool) (ps : List Placement) → when b (placing t ps) ≡ placing t (when b ps)
placing_when t true ps = refl
placing_when t false ps = refl

placing-append : (t : Tiles) (ps qs : List Placement) → placing t (ps ++ qs) ≡ placing t ps ++ placing t qs
placing-append t ps qs = ap (filter (applies t)) (map-append place ps qs) ∙ filter-append (applies t) (map place ps) (map place qs)

placing-once : (t : Tiles) (ps : List Placement) → with_all_new is_same_place [] (placing t ps) ≡ filter (applies t) (map place (each_once same_placement ps))
placing-once t ps =
    let passes : Placement → Bool = λ p. applies t (place p) in
    ap (with_all_new is_same_place []) (filter-map (applies t) place ps)
    ∙ added-map same_placement is_same_place place (λ p q. refl) [] (filter passes ps)
    ∙ ap (map place) (all_once same_placement placement_exact (filter passes ps) ∙ sym (filter_once same_placement placement_exact passes ps))
    ∙ sym (filter-map (applies t) place (each_once same_placement ps))

pub one_more_added : (first others kinds more : List Kind) (k : Kind) → kinds ≡ with_all_new is_same_place first others → more ≡ with_new is_same_place kinds k → more ≡ with_all_new is_same_place first (others ++ k ∷ [])
one_more_added first others kinds more k e f = f ∙ ap (λ l. with_new is_same_place l k) e ∙ sym (all_new_append is_same_place first others (k ∷ []))

pub placed_once : (t : Tiles) (packs : Packs)
    → with_all_new is_same_place (with_all_new is_same_place (with_all_new is_same_place [] (when packs.r (row_placements t))) (when packs.c (column_placements t))) (when packs.p (single_placements t)) ≡ filter (applies t) (placements t packs)
placed_once t packs =
    let rows : List Placement = when packs.r (line_placements axis.Row North South t) in
    let columns : List Placement = when packs.c (line_placements axis.Column East West t) in
    let points : List Placement = when packs.p (point_placements t) in
    let r = placing_when t packs.r (line_placements axis.Row North South t) in
    let c = placing_when t packs.c (line_placements axis.Column East West t) in
    let p = placing_when t packs.p (point_placements t) in
    (λ k. with_all_new is_same_place (with_all_new is_same_place (with_all_new is_same_place [] (r k)) (c k)) (p k))
    ∙ ap (λ l. with_all_new is_same_place l (placing t points)) (sym (all_new_append is_same_place [] (placing t rows) (placing t columns)))
    ∙ sym (all_new_append is_same_place [] (placing t rows ++ placing t columns) (placing t points))
    ∙ ap (with_all_new is_same_place []) (ap (λ l. l ++ placing t points) (sym (placing-append t rows columns)) ∙ sym (placing-append t (rows ++ columns) points))
    ∙ placing-once t ((rows ++ columns) ++ points)
