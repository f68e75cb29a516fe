-- The kinds of a class, line by line.
use Rattle.std.specs.Prelude.{ℕ, Bool, false, not, ◌&&◌, ◌+◌, nat_le, List, [], ◌∷◌, ◌++◌, map, filter, length, sum_by, cond}
use Rattle.gridded.specs.declared.axis.Axis.TheVariants as axis
use Rattle.tiling_core.specs.Tiles.{Tiles}
use Rattle.tiling_core.specs.Measures.{weight}
use Rattle.tiling_core.specs.Patterns.{active_cells}
use Rattle.rule_kinds.specs.Pointeds.{PointedPattern}
use Rattle.rule_kinds.specs.declared.kind.Direction.{Direction}
use Rattle.rule_kinds.specs.declared.kind.Direction.TheVariants.{North, South, East, West}
use Rattle.rule_kinds.specs.declared.kind.Kind.{Kind}
use Rattle.rule_kinds.specs.declared.kind.Kind.TheVariants as kind
use Rattle.rule_kinds.specs.Children.{raw_children}
use Rattle.rule_kinds.specs.Conditions.{applies}
use Rattle.emptiness.specs.Inferable.{inferred}
use Rattle.rule_kinds.specs.Choices.{Packs, when, first_that_is, finest_factoring, cuts, insertions, placements, line_placements, point_placements, same_placement}
use Rattle.lists.specs.Members.{is_nil}

-- the first of two lists that isn't empty
abbrev pub or_else : {X : Type 0} → List X → List X → List X
or_else xs ys = cond (is_nil xs) ys xs

-- the kinds without children: that of the unit or the point tiling, and else that of a tiling without members
abbrev pub closing_kinds : Tiles → List Kind
closing_kinds t = first_that_is (filter (applies t) (kind.Unit ∷ kind.Point ∷ []) ∷ filter (applies t) (kind.Void ∷ []) ∷ [])

-- the finest factoring, where it has two sets or more
abbrev pub factors : Tiles → List Kind
factors t = filter (applies t) (kind.Factor (finest_factoring t) ∷ [])

-- the inferral of a light tiling with few active cells, where there is something to infer
abbrev pub inferrals : Tiles → List Kind
inferrals t = when (nat_le (weight t) 4 && nat_le (length (active_cells t)) 16) (when (not (is_nil (inferred t))) (kind.Infer (inferred t) ∷ []))

-- those of some placements that apply
abbrev pub placing : Tiles → List (List PointedPattern × Direction) → List Kind
placing t ps = filter (applies t) (map (λ (p : List PointedPattern × Direction). kind.Place p.0 p.1) ps)

abbrev pub row_placements : Tiles → List Kind
row_placements t = placing t (line_placements axis.Row North South t)

abbrev pub column_placements : Tiles → List Kind
column_placements t = placing t (line_placements axis.Column East West t)

abbrev pub single_placements : Tiles → List Kind
single_placements t = placing t (point_placements t)

-- whether two kinds are one placement
abbrev pub is_same_place : Kind → Kind → Bool
is_same_place (kind.Place ps d) (kind.Place qs e) = same_placement (ps, d) (qs, e)
is_same_place _ _ = false

-- the insertions of a class, and then its placements
abbrev pub last_kinds : Tiles → Packs → List Kind
last_kinds t packs = when packs.i (insertions t) ++ filter (applies t) (placements t packs)

-- each line of the definition, where those before it have nothing
abbrev pub kinds_by_lines : Tiles → Packs → List Kind
kinds_by_lines t packs =
    or_else (closing_kinds t) (or_else (when packs.f (factors t)) (or_else (when packs.s (cuts t)) (or_else (when packs.n (inferrals t)) (last_kinds t packs))))

-- how many words the records of the rules by some kinds have
abbrev pub words_of_kind : Tiles → Kind → ℕ
words_of_kind t k = 2 + length (raw_children t k)

abbrev pub words_of_kinds : Tiles → List Kind → ℕ
words_of_kinds t kinds = sum_by (words_of_kind t) kinds
