-- The tests decide the relations.
use Rattle.std.proofs.Common.{◌≡◌, ◌<◌, ℕ, Bool, true, false, List, [], ◌∷◌, refl, arith}
use Rattle.std.specs.Prelude.{◌&&◌, not, nat_lt, map, Decides}
use Rattle.std.specs.List.{list_all, list_any}
use Rattle.std.proofs.lemmas.Bool.Decides.{nat_tests}
use Rattle.std.proofs.lemmas.Bool.{false_from_ne_true, and_parts, and_from, not_from_false}
use Rattle.lists.proofs.Tests.{each_passes, all_pass, which_passes, some_passes}
use Rattle.lists.specs.Members.{IsIn}
use Rattle.lists.proofs.Members.{IsIn-map, from_IsIn-map}
use Rattle.gridded.specs.declared.cell.Cell.{Cell}
use Rattle.gridded.specs.Grids.{Point, holds, Holds, cell_of}
use Rattle.tiling_core.specs.Tiles.{Tiles, is_member}
use Rattle.gridded.specs.Places.{fits_grid}
use Rattle.gridded.proofs.Holding.{holds_decides}
use Rattle.tiling_core.specs.Members.{Member, HoldsOneOf}
use Rattle.tiling_core.specs.Measures.{Positive, is_empty, is_positive}

-- ---- membership
abbrev fits_cell : ℕ → ℕ → Cell → Bool
fits_cell w h c = nat_lt c.x w && nat_lt c.y h

pub fits_grid_decides : (w h : ℕ) (g : List Point) → Decides (fits_grid w h g) ((p : Point) → IsIn p g → (p.cell.x < w) × (p.cell.y < h))
fits_grid_decides w h g = (
  (λ e p m. let k = and_parts (nat_lt p.cell.x w) (nat_lt p.cell.y h) (each_passes (fits_cell w h) e (IsIn-map cell_of m)) in
      (lower p.cell.x w k.0, lower p.cell.y h k.1)),
  (λ f. all_pass (fits_cell w h) (map cell_of g) (λ c m. let k = from_IsIn-map cell_of g m in
      let b = f k.0 k.1 in
      rw k.2 (and_from (nat_lt k.0.cell.x w) (nat_lt k.0.cell.y h) (lower_is k.0.cell.x w b.0) (lower_is k.0.cell.y h b.1)))),
)
  where
    lower : (a b : ℕ) → nat_lt a b ≡ true → a < b
    lower a b e = grind (arith, nat_tests)

    lower_is : (a b : ℕ) → a < b → nat_lt a b ≡ true
    lower_is a b l = grind (arith, nat_tests)

pub not_held : (b : Bool) → not b ≡ true → b ≡ true → ⊥
not_held true e f = cc
not_held false e f = cc

pub none_held_decides : (g : List Point) (patterns : List (List Point)) → Decides (list_all (λ p. not (holds g p)) patterns) ((p : List Point) → IsIn p patterns → ¬ (Holds g p))
none_held_decides g patterns = (
  (λ e p m k. not_held (holds g p) (each_passes (λ q. not (holds g q)) e m) ((holds_decides g p).1 k)),
  (λ f. all_pass (λ q. not (holds g q)) patterns (λ p m. not_from_false (holds g p) (false_from_ne_true (holds g p) (λ e. f p m ((holds_decides g p).0 e))))),
)

pub one_held_decides : (g : List Point) (patterns : List (List Point)) → Decides (list_any (λ p. holds g p) patterns) (HoldsOneOf g patterns)
one_held_decides g patterns = (
  (λ e. let k = which_passes (λ p. holds g p) patterns e in record { pattern = k.0; listed = k.1; held = (holds_decides g k.0).0 k.2 }),
  (λ h. some_passes (λ p. holds g p) h.listed ((holds_decides g h.pattern).1 h.held)),
)

pub is_member_decides : (t : Tiles) (g : List Point) → Decides (is_member t g) (Member g t)
is_member_decides t g = (
  (λ e. let k = and_parts (fits_grid t.width t.height g) (list_all (λ p. not (holds g p)) t.obstructions && each t.requirements) e in
      let l = and_parts (list_all (λ p. not (holds g p)) t.obstructions) (each t.requirements) k.1 in
      record {
        in_grid = (fits_grid_decides t.width t.height g).0 k.0;
        no_obstruction = (none_held_decides g t.obstructions).0 l.0;
        each_list = λ patterns m. (one_held_decides g patterns).0 (each_passes (λ patterns. list_any (λ p. holds g p) patterns) l.1 m);
      }),
  (λ h. and_from (fits_grid t.width t.height g) (list_all (λ p. not (holds g p)) t.obstructions && each t.requirements) ((fits_grid_decides t.width t.height g).1 h.in_grid)
      (and_from (list_all (λ p. not (holds g p)) t.obstructions) (each t.requirements) ((none_held_decides g t.obstructions).1 h.no_obstruction)
      (all_pass (λ patterns. list_any (λ p. holds g p) patterns) t.requirements (λ patterns m. (one_held_decides g patterns).1 (h.each_list patterns m))))),
)
  where
    each : List (List (List Point)) → Bool
    each lists = list_all (λ patterns. list_any (λ p. holds g p) patterns) lists

-- ---- positive
is_empty_tells : (p : List Point) → is_empty p ≡ true → p ≡ []
is_empty_tells [] e = refl
is_empty_tells (x ∷ p) e = absurd cc

pub is_positive_decides : (t : Tiles) → Decides (is_positive t) (Positive t)
is_positive_decides t = (
  (λ e. let k = which_passes (λ patterns. not (list_any (λ p. is_empty p) patterns)) t.requirements e in record {
    patterns = k.0;
    listed = k.1;
    none_empty = λ m. not_held (list_any (λ p. is_empty p) k.0) k.2 (some_passes (λ p. is_empty p) m refl);
  }),
  (λ h. some_passes (λ patterns. not (list_any (λ p. is_empty p) patterns)) h.listed (not_from_false (list_any (λ p. is_empty p) h.patterns) (false_from_ne_true (list_any (λ p. is_empty p) h.patterns)
      (λ e. let k = which_passes (λ p. is_empty p) h.patterns e in h.none_empty (rw (is_empty_tells k.0 k.2) at k.1))))),
)
