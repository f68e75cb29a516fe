-- Members carried and brought back, computed.
use Rattle.std.specs.Prelude.{◌≡◌, List, [], ◌∷◌, refl, true}
use Rattle.patterns.specs.Occurs as X
use Rattle.gridded.specs.Grids.{Point}
use Rattle.tiling_core.specs.Tiles.{is_member}
use Rattle.rule_kinds.specs.Carry.{carry, back, parts_in, weave}
use Rattle.rule_kinds.specs.declared.kind.Direction.{Direction}
use Rattle.rule_kinds.specs.declared.kind.Direction.TheVariants.{South, East, West}
use Rattle.rule_kinds.specs.declared.kind.Kind.{Kind}
use Rattle.rule_kinds.specs.declared.kind.Kind.TheVariants.{Place}
use Rattle.rule_kinds.proofs.Texts.{cell, pattern_of, dot, p01, p10, p021, pointing}
use Rattle.rule_kinds.proofs.Entries.{entry0, kind0, kind3}

abbrev pub member0 : List Point
member0 = pattern_of (1 ∷ 2 ∷ 0 ∷ 3 ∷ []) (0 ∷ 0 ∷ 0 ∷ 0 ∷ [])

is_member0 : is_member entry0 (pattern_of (1 ∷ 0 ∷ 2 ∷ []) (0 ∷ 0 ∷ 0 ∷ [])) ≡ true
unfolding X.occurs
is_member0 = refl

carried0 : carry kind0 (p021 0 0 0) ≡ record { child = 1; member = p021 0 11 20 }
unfolding X.occurs
carried0 = refl

back0 : back entry0 kind0 (carry kind0 member0) ≡ member0
unfolding X.occurs
back0 = refl

carried0_empty : carry kind0 [] ≡ record { child = 0; member = [] }
unfolding X.occurs
carried0_empty = refl

carried3 : carry kind3 (p10 0 10) ≡ record { child = 0; member = p10 1 10 }
unfolding X.occurs
carried3 = refl

abbrev pub member2 : List Point
member2 = pattern_of (1 ∷ 3 ∷ 0 ∷ 2 ∷ []) (0 ∷ 11 ∷ 20 ∷ 20 ∷ [])

parts2 : parts_in ((cell 0 ∷ cell 20 ∷ []) ∷ (cell 11 ∷ []) ∷ []) member2 ≡ pattern_of (1 ∷ 0 ∷ 2 ∷ []) (0 ∷ 20 ∷ 20 ∷ []) ∷ dot 11 ∷ []
unfolding X.occurs
parts2 = refl

woven2 : weave 3 (parts_in ((cell 0 ∷ cell 20 ∷ []) ∷ (cell 11 ∷ []) ∷ []) member2) ≡ member2
unfolding X.occurs
woven2 = refl

-- ---- each direction
-- of a pattern of two points, the right one
pair_east : carry (Place (pointing (p10 0 0) 1 ∷ []) East) (pattern_of (1 ∷ 0 ∷ 2 ∷ []) (0 ∷ 0 ∷ 0 ∷ [])) ≡ record { child = 1; member = pattern_of (1 ∷ 0 ∷ 2 ∷ []) (2 ∷ 11 ∷ 22 ∷ []) }
unfolding X.occurs
pair_east = refl

pair_west : carry (Place (pointing (p01 0 0) 1 ∷ []) West) (p021 0 0 0) ≡ record { child = 1; member = p021 0 11 20 }
unfolding X.occurs
pair_west = refl

abbrev pub placing : Direction → Kind
placing d = Place (record { pattern = dot 0; index = 0 } ∷ []) d

carried_east : carry (placing East) (p021 0 0 0) ≡ record { child = 1; member = p021 0 2 11 }
unfolding X.occurs
carried_east = refl

carried_west : carry (placing West) (p021 0 0 0) ≡ record { child = 1; member = p021 11 22 22 }
unfolding X.occurs
carried_west = refl

carried_south : carry (placing South) (p10 0 0) ≡ record { child = 1; member = p10 2 11 }
unfolding X.occurs
carried_south = refl
