-- A tiling's members of a length are listed once.
use Rattle.std.proofs.Common.{ℕ, List}
use Rattle.std.specs.List.{filter}
use Rattle.gridded.specs.Grids.{Point, gridded_of}
use Rattle.gridded.proofs.GriddedLists.{IsIn-gridded_of, from_IsIn-gridded_of, NoRepeats-gridded_of}
use Rattle.tiling_core.specs.Tiles.{Tiles, is_member}
use Rattle.tiling_core.specs.Carried.{MemberOf}
use Rattle.tiling_core.proofs.Deciding.{is_member_decides}
use Rattle.lists.specs.Members.{IsIn, NoRepeats}
use Rattle.lists.proofs.Members.{IsIn-filter, from_IsIn-filter}
use Rattle.lists.proofs.Repeats.{NoRepeats-filter}

-- the members of n points
abbrev pub members : Tiles → ℕ → List (List Point)
members t n = filter (λ g. is_member t g) (gridded_of t.width t.height n)

pub member_is_listed : (t : Tiles) (n : ℕ) (g : List Point) → MemberOf t n g → IsIn g (members t n)
member_is_listed t n g k = IsIn-filter (λ h. is_member t h) (IsIn-gridded_of t.width t.height n g k.gridded) ((is_member_decides t g).1 k.member)

pub listed_is_member : (t : Tiles) (n : ℕ) (g : List Point) → IsIn g (members t n) → MemberOf t n g
listed_is_member t n g m =
    let a = from_IsIn-filter (λ h. is_member t h) (gridded_of t.width t.height n) m in
    record { gridded = from_IsIn-gridded_of t.width t.height n g a.0; member = (is_member_decides t g).0 a.1 }

pub NoRepeats-members : (t : Tiles) (n : ℕ) → NoRepeats (members t n)
NoRepeats-members t n = NoRepeats-filter (λ g. is_member t g) (NoRepeats-gridded_of t.width t.height n)
