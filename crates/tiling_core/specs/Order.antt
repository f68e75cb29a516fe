-- The order of tilings: by width, height, obstructions, then requirement lists.
use Rattle.std.specs.Prelude.{◌≡◌, Bool, true, false, ◌&&◌, List}
use Rattle.std.proofs.Common.{refl, sym, ◌∙◌, rules, arith}
use Rattle.std.specs.declared.cmp.Ordering.{Ordering}
use Rattle.std.specs.declared.cmp.Ordering.TheVariants.{Less, Equal, Greater}
use Rattle.std.specs.Ordering.{nat_cmp, is_eq, ordering_then, on, then_cmp, eq_by_cmp, as_partial_cmp}
use Rattle.std.specs.Cmp.{IsTotalOrder, IsPartialOrder, partial_order_from_agreeing_total, unsigned_ties}
use Rattle.std.specs.Cmp.Rules.{comparing}
use Rattle.std.specs.Cmp.Lexicographic.{slice_cmp, lists_total, lists_ties}
use Rattle.gridded.specs.Orders.{gridded_cmp}
use Rattle.gridded.specs.OrderLaws.{gridded_total, gridded_ties}
use Rattle.tiling_core.specs.Tiles.{Tiles}
use Rattle.tiling_core.specs.Same.{tiles_eq}

abbrev pub tiles_cmp : Tiles → Tiles → Ordering
tiles_cmp =
    then_cmp (on (λ t. t.width) nat_cmp) (then_cmp (on (λ t. t.height) nat_cmp)
    (then_cmp (on (λ t. t.obstructions) (slice_cmp gridded_cmp)) (on (λ t. t.requirements) (slice_cmp (slice_cmp gridded_cmp)))))

pub tiles_total : IsTotalOrder tiles_cmp
tiles_total = search (comparing, gridded_total, rules) depth 9

-- a test and a comparison, then others
both_ties : (p q : Bool) (a b : Ordering) → p ≡ is_eq a → q ≡ is_eq b → (p && q) ≡ is_eq (ordering_then a b)
both_ties p q Equal b e f = rw (e, f)
both_ties p q Less b e f = rw e
both_ties p q Greater b e f = rw e

pub tiles_ties : (s t : Tiles) → tiles_eq s t ≡ eq_by_cmp tiles_cmp s t
tiles_ties s t =
    both_ties _ _ (nat_cmp s.width t.width) _ (unsigned_ties s.width t.width)
    (both_ties _ _ (nat_cmp s.height t.height) _ (unsigned_ties s.height t.height)
    (both_ties _ _ (slice_cmp gridded_cmp s.obstructions t.obstructions) (slice_cmp (slice_cmp gridded_cmp) s.requirements t.requirements) (lists_ties gridded_cmp gridded_ties s.obstructions t.obstructions)
    (lists_ties (slice_cmp gridded_cmp) (lists_ties gridded_cmp gridded_ties) s.requirements t.requirements)))

pub tiles_order : IsPartialOrder tiles_eq (as_partial_cmp tiles_cmp)
tiles_order = partial_order_from_agreeing_total tiles_cmp tiles_total (λ x y. refl) tiles_ties
