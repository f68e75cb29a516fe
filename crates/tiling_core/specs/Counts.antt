-- Rules that keep counts, as facts that clauses can name.
use Rattle.std.specs.Prelude.{◌≡◌, ◌+◌, ℕ, List, [], ◌∷◌}
use Rattle.patterns.specs.Occurs.{avoiders}
use Rattle.gridded.specs.Grids.{Point}
use Rattle.tiling_core.specs.Tiles.{Tiles, IsTiling, is_member, count}
use Rattle.tiling_core.specs.Patterns.{also, with_minimal}
use Rattle.tiling_core.specs.Roots.{root_of, unit_tiling, point_tiling, void_tiling, one_at}

-- the members that hold none of the patterns, and those that hold one of them
abbrev pub InsertionAddsUp : Type 0
InsertionAddsUp = (t : Tiles) (patterns : List (List Point)) (n : ℕ) → count t n ≡ count (also t patterns []) n + count (also t [] (patterns ∷ [])) n

abbrev pub MinimalKeepsMembers : Type 0
MinimalKeepsMembers = (t : Tiles) → IsTiling t → (g : List Point) → is_member (with_minimal t) g ≡ is_member t g

abbrev pub MinimalKeepsCounts : Type 0
MinimalKeepsCounts = (t : Tiles) → IsTiling t → (n : ℕ) → count (with_minimal t) n ≡ count t n

abbrev pub RootCountsAvoiders : Type 0
RootCountsAvoiders = (basis : List (List ℕ)) (n : ℕ) → count (root_of basis) n ≡ avoiders basis n

abbrev pub UnitHasOneMember : Type 0
UnitHasOneMember = (n : ℕ) → count unit_tiling n ≡ one_at 0 n

abbrev pub PointHasOneMember : Type 0
PointHasOneMember = (n : ℕ) → count point_tiling n ≡ one_at 1 n

abbrev pub VoidHasNoMember : Type 0
VoidHasNoMember = (n : ℕ) → count void_tiling n ≡ 0
