-- The kinds that are tried on a tiling.
use Rattle.std.specs.Prelude.{ℕ, zero, suc, Bool, true, false, not, ◌&&◌, ◌||◌, ◌==◌, nat_le, List, [], ◌∷◌, ◌++◌, map, filter, flat_map, length, take, if◌then◌else◌}
use Rattle.std.specs.List.{list_any}
use Rattle.std.specs.Cmp.Lexicographic.{pointwise, slice_cmp}
use Rattle.gridded.specs.declared.axis.Axis.{Axis}
use Rattle.gridded.specs.declared.axis.Axis.TheVariants as axis
use Rattle.gridded.specs.declared.cell.Cell.{Cell}
use Rattle.gridded.specs.Grids.{Point}
use Rattle.gridded.specs.Orders.{cell_eq, cell_cmp, gridded_eq}
use Rattle.sequences.specs.Ascending.{in_order}
use Rattle.tiling_core.specs.Tiles.{Tiles}
use Rattle.tiling_core.specs.Measures.{weight}
use Rattle.gridded.specs.Small.{point_at}
use Rattle.tiling_core.specs.Patterns.{forbids, active_cells, requires_list}
use Rattle.gridded.specs.Places.{touches}
use Rattle.gridded.specs.Axes.{shares_line}
use Rattle.rule_kinds.specs.Lines.{lines, active_on, numbers_below}
use Rattle.rule_kinds.specs.Pointeds.{PointedPattern}
use Rattle.rule_kinds.specs.declared.kind.Direction.{Direction}
use Rattle.rule_kinds.specs.declared.kind.Direction.TheVariants.{North, South, East, West}
use Rattle.rule_kinds.specs.declared.kind.Kind.{Kind}
use Rattle.rule_kinds.specs.declared.kind.Kind.TheVariants as kind
use Rattle.rule_kinds.specs.Kinds.{cut_kind}
use Rattle.emptiness.specs.Inferable.{inferred}
use Rattle.rule_kinds.specs.Conditions.{before, bundles, applies}
use Rattle.lists.specs.Members.{is_nil}

-- the letters that are on
pub record Packs : Type 0 where
  pub i : Bool
  pub r : Bool
  pub c : Bool
  pub p : Bool
  pub f : Bool
  pub s : Bool
  pub n : Bool

-- ---- Closures: the least set of some cells that has c, and with each cell also those to which it is linked
abbrev pub grown : (Cell → Cell → Bool) → List Cell → List Cell → List Cell
grown link cells set = filter (λ d. list_any (λ c. cell_eq c d || link c d) set) cells

abbrev pub grown_times : ℕ → (Cell → Cell → Bool) → List Cell → List Cell → List Cell
grown_times zero link cells set = set
grown_times (suc n) link cells set = grown_times n link cells (grown link cells set)

abbrev pub closure : (Cell → Cell → Bool) → List Cell → Cell → List Cell
closure link cells c = grown_times (length cells) link cells (c ∷ [])

-- ---- The finest factoring
-- whether two cells are tied directly: they share a line, or the points of one bundle
abbrev pub is_linked : Tiles → Cell → Cell → Bool
is_linked t c d = shares_line c d || list_any (λ bundle. list_any (touches (cell_eq c)) bundle && list_any (touches (cell_eq d)) bundle) (bundles t)

abbrev pub finest_factoring : Tiles → List (List Cell)
finest_factoring t = in_order (slice_cmp cell_cmp) (map (closure (is_linked t) (active_cells t)) (active_cells t))

-- ---- The least cuts
-- each item where it stands first
abbrev pub each_once : {X : Type 0} → (X → X → Bool) → List X → List X
each_once same [] = []
each_once same (x ∷ xs) = x ∷ filter (λ y. not (same x y)) (each_once same xs)

-- of the cells of a line, whether u must be where l is: it may have points before those of l
abbrev pub is_bound : Axis → Tiles → Cell → Cell → Bool
is_bound a t l u = not (forbids t (before a u l))

abbrev pub least_cuts : Axis → Tiles → ℕ → List (List Cell)
least_cuts a t i = each_once (pointwise cell_eq) (map (closure (is_bound a t) (active_on a i t)) (active_on a i t))

abbrev pub cuts_along : Axis → Tiles → List Kind
cuts_along a t = filter (applies t) (flat_map (λ i. map (cut_kind a i) (least_cuts a t i)) (numbers_below (lines a t)))

abbrev pub cuts : Tiles → List Kind
cuts t = cuts_along axis.Row t ++ cuts_along axis.Column t

-- ---- Insertions and placements
abbrev pub insertions : Tiles → List Kind
insertions t = map (λ c. kind.Insert (point_at c)) (filter (λ c. not (requires_list t (point_at c ∷ []))) (active_cells t))

abbrev pub points_on : Axis → ℕ → Tiles → List PointedPattern
points_on a i t = map (λ c. record { pattern = point_at c; index = 0 }) (active_on a i t)

-- for each line with an active cell, its points placed in the one direction and then in the other
abbrev pub line_placements : Axis → Direction → Direction → Tiles → List (List PointedPattern × Direction)
line_placements a d e t = flat_map (λ qs. if is_nil qs then [] else ((qs, d) ∷ (qs, e) ∷ [])) (map (λ i. points_on a i t) (numbers_below (lines a t)))

-- the members of the first lists that are one pattern of one or two points
abbrev pub short_singles : Tiles → List (List Point)
short_singles t = take 16 (flat_map single t.requirements)
  where
    single : List (List Point) → List (List Point)
    single (g ∷ []) = if (length g == 1 || length g == 2) then g ∷ [] else []
    single _ = []

abbrev pub point_placements : Tiles → List (List PointedPattern × Direction)
point_placements t = flat_map (λ q. map (λ d. (q ∷ [], d)) (North ∷ South ∷ East ∷ West ∷ [])) (flat_map (λ g. map (λ index. record { pattern = g; index = index }) (numbers_below (length g))) (short_singles t))

abbrev pub direction_eq : Direction → Direction → Bool
direction_eq North North = true
direction_eq South South = true
direction_eq East East = true
direction_eq West West = true
direction_eq _ _ = false

abbrev pub same_placement : (List PointedPattern × Direction) → (List PointedPattern × Direction) → Bool
same_placement p q = pointwise (λ (a : PointedPattern) (b : PointedPattern). gridded_eq a.pattern b.pattern && a.index == b.index) p.0 q.0 && direction_eq p.1 q.1

abbrev pub when : {X : Type 0} → Bool → List X → List X
when true xs = xs
when false xs = []

abbrev pub placements : Tiles → Packs → List Kind
placements t packs =
    map (λ (p : List PointedPattern × Direction). kind.Place p.0 p.1) (each_once same_placement (when packs.r (line_placements axis.Row North South t) ++ when packs.c (line_placements axis.Column East West t) ++ when packs.p (point_placements t)))

-- ---- The list of kinds: that of the first case
abbrev pub first_that_is : {X : Type 0} → List (List X) → List X
first_that_is [] = []
first_that_is ([] ∷ lists) = first_that_is lists
first_that_is ((x ∷ xs) ∷ lists) = x ∷ xs

unfoldable pub kinds_of : Tiles → Packs → List Kind
kinds_of t packs =
    first_that_is
    (filter (applies t) (kind.Unit ∷ kind.Point ∷ [])
    ∷ filter (applies t) (kind.Void ∷ [])
    ∷ when packs.f (filter (applies t) (kind.Factor (finest_factoring t) ∷ []))
    ∷ when packs.s (cuts t)
    ∷ when (packs.n && nat_le (weight t) 4 && nat_le (length (active_cells t)) 16) (when (not (is_nil (inferred t))) (kind.Infer (inferred t) ∷ []))
    ∷ filter (applies t) (when packs.i (insertions t) ++ placements t packs)
    ∷ [])
