-- The empty pattern and the void tiling.
use Rattle.std.proofs.Common.{◌≡◌, ℕ, suc, false, List, [], ◌∷◌, length, refl, sym, get_or, ◌∙◌, arith}
use Rattle.std.specs.Prelude.{◌&&◌, ◌==◌}
use Rattle.std.specs.Cmp.Lexicographic.{pointwise}
use Rattle.std.proofs.lemmas.Bool.Decides.{nat_tests}
use Rattle.std.proofs.Math.Bool.{and-true as and_end, and-false as and_none}
use Rattle.gridded.specs.Grids.{Point}
use Rattle.gridded.specs.Orders.{gridded_eq}
use Rattle.tiling_core.specs.Tiles.{Tiles}
use Rattle.tiling_core.specs.Same.{tiles_eq}
use Rattle.tiling_core.specs.Roots.{void_tiling}

above_zero : (n : ℕ) → (suc n == 0) ≡ false
above_zero n = grind (arith, nat_tests)

above_one : (n : ℕ) → (suc (suc n) == 1) ≡ false
above_one n = grind (arith, nat_tests)

pub is_the_empty_pattern : (g : List Point) → gridded_eq [] g ≡ (length g == 0)
is_the_empty_pattern [] = refl
is_the_empty_pattern (p ∷ g) = sym (above_zero (length g))

equals_empty : (g : List Point) → gridded_eq g [] ≡ (length g == 0)
equals_empty [] = refl
equals_empty (p ∷ g) = sym (above_zero (length g))

only_empty : (patterns : List (List Point)) → pointwise gridded_eq patterns ([] ∷ []) ≡ ((length patterns == 1) && (length (get_or patterns 0 []) == 0))
only_empty [] = refl
only_empty (g ∷ []) = and_end (gridded_eq g []) ∙ equals_empty g
only_empty (g ∷ h ∷ patterns) = and_none (gridded_eq g []) ∙ rw (above_one (length patterns))

no_lists : (lists : List (List (List Point))) → pointwise (pointwise gridded_eq) lists [] ≡ (length lists == 0)
no_lists [] = refl
no_lists (a ∷ lists) = sym (above_zero (length lists))

pub is_the_void_tiling : (t : Tiles) → tiles_eq t void_tiling ≡ ((t.width == 0) && ((t.height == 0) && ((length t.obstructions == 1) && (length (get_or t.obstructions 0 []) == 0) && (length t.requirements == 0))))
is_the_void_tiling t = rw (only_empty t.obstructions, no_lists t.requirements)

pub one_alone : (g : List Point) (patterns : List (List Point)) → pointwise gridded_eq (g ∷ []) patterns ≡ ((length patterns == 1) && gridded_eq g (get_or patterns 0 []))
one_alone g [] = refl
one_alone g (p ∷ []) = and_end (gridded_eq g p)
one_alone g (p ∷ q ∷ patterns) = and_none (gridded_eq g p) ∙ rw (above_one (length patterns)) refl
