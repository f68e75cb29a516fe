-- The law of counts: where the members are carried to those of numbered children, one to one.
use Rattle.std.specs.Prelude.{◌≡◌, ◌<◌, ℕ, List, length, slice_index_or, sum_by}
use Rattle.gridded.specs.Grids.{Point}
use Rattle.gridded.specs.Laws.{IsGriddedOf}
use Rattle.tiling_core.specs.Tiles.{Tiles, count}
use Rattle.tiling_core.specs.Members.{Member}

-- a member of n points
pub record MemberOf (t : Tiles) (n : ℕ) (g : List Point) : Type 0 where
  pub gridded : IsGriddedOf t.width t.height n g
  pub member : Member g t

-- `forward` makes of each member one of a numbered child, as long as it; `back` makes of each member of a
-- child one of t, as long as it; each undoes the other
pub record CarriesTo (t : Tiles) (children : List Tiles) (forward : List Point → ℕ × List Point) (back : ℕ × List Point → List Point) : Type 0 where
  pub to_child : (n : ℕ) (g : List Point) → MemberOf t n g → (forward g).0 < length children
  pub carried : (n : ℕ) (g : List Point) → MemberOf t n g → MemberOf (slice_index_or children (forward g).0 t) n (forward g).1
  pub undone : (n : ℕ) (g : List Point) → MemberOf t n g → back (forward g) ≡ g
  pub brought : (n i : ℕ) (h : List Point) → i < length children → MemberOf (slice_index_or children i t) n h → MemberOf t n (back (i, h))
  pub redone : (n i : ℕ) (h : List Point) → i < length children → MemberOf (slice_index_or children i t) n h → forward (back (i, h)) ≡ (i, h)

abbrev pub CountsAddUp : Type 0
CountsAddUp = (t : Tiles) (children : List Tiles) (forward : List Point → ℕ × List Point) (back : ℕ × List Point → List Point)
    → CarriesTo t children forward back → (n : ℕ) → count t n ≡ sum_by (λ child. count child n) children

-- the same with one child: members are renamed one to one
pub record IsRenaming (t child : Tiles) (forward back : List Point → List Point) : Type 0 where
  pub carried : (n : ℕ) (g : List Point) → MemberOf t n g → MemberOf child n (forward g)
  pub undone : (n : ℕ) (g : List Point) → MemberOf t n g → back (forward g) ≡ g
  pub brought : (n : ℕ) (h : List Point) → MemberOf child n h → MemberOf t n (back h)
  pub redone : (n : ℕ) (h : List Point) → MemberOf child n h → forward (back h) ≡ h

abbrev pub RenamingKeepsCounts : Type 0
RenamingKeepsCounts = (t child : Tiles) (forward back : List Point → List Point) → IsRenaming t child forward back → (n : ℕ) → count t n ≡ count child n
