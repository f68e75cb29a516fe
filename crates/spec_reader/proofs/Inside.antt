-- Patterns in a grid.
use Rattle.std.proofs.Common.{◌≡◌, ◌≤◌, ℕ, true, List, length, sym, ap, arith}
use Rattle.std.specs.Prelude.{◌&&◌, nat_lt}
use Rattle.std.specs.List.{list_all}
use Rattle.std.proofs.lemmas.Grind.{common_steps}
use Rattle.gridded.specs.Grids.{Point}
use Rattle.gridded.specs.Orders.{cells_of}
use Rattle.spec_lines.specs.Ranges.{is_inside, is_short}

short_test : (g : List Point) → length g ≤ 9 → is_short g ≡ true
short_test g h = grind (arith, common_steps, h)

pub short_inside : (w h : ℕ) (g : List Point) → length g ≤ 9 → list_all (λ c. nat_lt c.x w && nat_lt c.y h) (cells_of g) ≡ is_inside w h g
short_inside w h g short = sym (ap (λ b. b && list_all (λ c. nat_lt c.x w && nat_lt c.y h) (cells_of g)) (short_test g short))
