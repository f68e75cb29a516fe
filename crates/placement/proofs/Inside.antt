-- Pointed cells lie in the grid.
use Rattle.std.proofs.Common.{◌≡◌, ◌<◌, ℕ, zero, suc, Bool, true, List, [], ◌∷◌, length, get_or, arith}
use Rattle.std.specs.Prelude.{◌&&◌, nat_lt}
use Rattle.std.specs.List.{list_all}
use Rattle.std.proofs.lemmas.Bool.Decides.{nat_tests}
use Rattle.std.proofs.lemmas.Bool.{and_parts}
use Rattle.gridded.specs.Grids.{Point}
use Rattle.gridded.specs.Laws.{IsCellOf}
use Rattle.gridded.specs.Places.{fits_grid}
use Rattle.rule_kinds.specs.Kinds.{point_of, pointed_cell}
use Rattle.rule_kinds.specs.Pointeds.{PointedPattern}

point_inside : (w h : ℕ) (g : List Point) (i : ℕ) → i < length g → fits_grid w h g ≡ true → IsCellOf w h (point_of g i).cell
point_inside w h [] i below e = absurd (omega arith)
point_inside w h (p ∷ g) zero below e =
    let a = and_parts (nat_lt p.cell.x w && nat_lt p.cell.y h) (fits_grid w h g) e in
    let b = and_parts (nat_lt p.cell.x w) (nat_lt p.cell.y h) a.0 in
    (grind (arith, nat_tests, b.0), grind (arith, nat_tests, b.1))
point_inside w h (p ∷ g) (suc i) below e = point_inside w h g i (omega arith) (and_parts (nat_lt p.cell.x w && nat_lt p.cell.y h) (fits_grid w h g) e).1

pub pointed_inside : (q : PointedPattern) (w h : ℕ) → q.index < length q.pattern → fits_grid w h q.pattern ≡ true → IsCellOf w h (pointed_cell q)
pointed_inside q w h below e = point_inside w h q.pattern q.index below e

-- what all of a list pass, its item at a place does
pub passes_at : {X : Type 0} (test : X → Bool) (xs : List X) (i : ℕ) (x : X) → list_all test xs ≡ true → i < length xs → x ≡ get_or xs i x → test x ≡ true
passes_at test [] i x e below is = absurd (omega arith)
passes_at test (y ∷ xs) zero x e below is = rw is (and_parts (test y) (list_all test xs) e).0
passes_at test (y ∷ xs) (suc i) x e below is = passes_at test xs i x (and_parts (test y) (list_all test xs) e).1 (omega arith) is
