-- The tilings with one member or none.
use Rattle.std.proofs.Common.{◌≡◌, ◌<◌, ◌≤◌, ℕ, zero, suc, Bool, true, false, List, [], ◌∷◌, refl, sym, ◌∙◌, subst, arith, inl, inr, ⊎_elim}
use Rattle.std.specs.Prelude.{◌||◌, ◌⊎◌, not, map, nat_lt, ◌==◌}
use Rattle.std.specs.List.{list_any}
use Rattle.std.proofs.lemmas.Bool.Decides.{nat_tests, Decides-eqb}
use Rattle.std.proofs.lemmas.Bool.{and_parts}
use Rattle.lists.specs.Members.IsIn.{here, later}
use Rattle.lists.specs.Parts.IsPart.{kept}
use Rattle.lists.proofs.Members.{empty_list}
use Rattle.lists.specs.Parts.{IsPart}
use Rattle.lists.proofs.Parts.{IsPart-nothing}
use Rattle.patterns.specs.Words.{has_no_repeats}
use Rattle.patterns.specs.Occurs.{occurs}
use Rattle.gridded.specs.declared.cell.Cell.{Cell}
use Rattle.gridded.proofs.Holding.{Holds-empty}
use Rattle.gridded.proofs.Pairs.{rising_held, falling_held}
use Rattle.gridded.specs.Grids.{Point, Holds, letter_of}
use Rattle.tiling_core.specs.Tiles.{Tiles, count}
use Rattle.tiling_core.specs.Carried.{MemberOf}
use Rattle.gridded.specs.Small.{rising, falling}
use Rattle.tiling_core.specs.Roots.{only_cell, unit_tiling, point_tiling, void_tiling, one_at}
use Rattle.tiling_core.specs.Counts.{UnitHasOneMember, PointHasOneMember, VoidHasNoMember}
use Rattle.tiling_core.proofs.Listed.{members, listed_is_member}

pub count_without_members : (t : Tiles) (n : ℕ) → ((g : List Point) → ¬ (MemberOf t n g)) → count t n ≡ 0
count_without_members t n f = empty_list (members t n) (λ g m. f g (listed_is_member t n g m))

pub void_has_no_member : VoidHasNoMember
void_has_no_member n = count_without_members void_tiling n (λ g k. k.member.no_obstruction [] here (Holds-empty g))

no_point : (g : List Point) (n : ℕ) → ¬ (MemberOf unit_tiling (suc n) g)
no_point [] n k = let e : 0 ≡ suc n = k.gridded.as_long in absurd (omega arith)
no_point (p ∷ g) n k = let e : p.cell.x < 0 = k.gridded.in_grid.0.0 in absurd (omega arith)

pub unit_has_one_member : UnitHasOneMember
unit_has_one_member zero = refl
unit_has_one_member (suc n) =
    let none_there : one_at 0 (suc n) ≡ 0 = grind (arith, nat_tests) in
    count_without_members unit_tiling (suc n) (λ g. no_point g n) ∙ sym none_there

-- ---- the point tiling
first_two : (p q : Point) (g : List Point) → IsPart (p ∷ q ∷ []) (p ∷ q ∷ g)
first_two p q g = kept p (kept q (IsPart-nothing g))

-- two points of the one cell hold the rising or the falling pair
two_rise : (p q : Point) (g : List Point) → p.cell ≡ only_cell → q.cell ≡ only_cell → p.letter < q.letter → Holds (p ∷ q ∷ g) (rising only_cell only_cell)
two_rise p q g e f l = subst (λ (c : Cell). Holds (p ∷ q ∷ g) (rising c only_cell)) e (subst (λ (c : Cell). Holds (p ∷ q ∷ g) (rising p.cell c)) f (rising_held (first_two p q g) l))

two_fall : (p q : Point) (g : List Point) → p.cell ≡ only_cell → q.cell ≡ only_cell → q.letter < p.letter → Holds (p ∷ q ∷ g) (falling only_cell only_cell)
two_fall p q g e f l = subst (λ (c : Cell). Holds (p ∷ q ∷ g) (falling c only_cell)) e (subst (λ (c : Cell). Holds (p ∷ q ∷ g) (falling p.cell c)) f (falling_held (first_two p q g) l))

in_one_cell : (p : Point) → (p.cell.x < 1) × (p.cell.y < 1) → p.cell ≡ only_cell
in_one_cell p k = let x : p.cell.x ≡ 0 = omega (arith, k.0) in let y : p.cell.y ≡ 0 = omega (arith, k.1) in λ i. record { x = x i; y = y i }

differ : (x y : ℕ) (rest : Bool) → not ((x == y) || rest) ≡ true → ¬ (x ≡ y)
differ x y rest h e = go (x == y) h ((Decides-eqb x y).1 e)
  where
    go : (b : Bool) → not (b || rest) ≡ true → b ≡ true → ⊥
    go true f k = cc
    go false f k = cc

no_two_points : (g : List Point) (n : ℕ) → ¬ (MemberOf point_tiling (suc (suc n)) g)
no_two_points [] n k = let e : 0 ≡ suc (suc n) = k.gridded.as_long in absurd (omega arith)
no_two_points (p ∷ []) n k = let e : 1 ≡ suc (suc n) = k.gridded.as_long in absurd (omega arith)
no_two_points (p ∷ q ∷ g) n k =
    let a = in_one_cell p k.gridded.in_grid.0 in
    let b = in_one_cell q k.gridded.in_grid.1.0 in
    let apart : ¬ (p.letter ≡ q.letter) = differ p.letter q.letter (list_any (λ y. p.letter == y) (map letter_of g)) (and_parts (not (list_any (λ y. p.letter == y) (map letter_of (q ∷ g)))) (has_no_repeats (map letter_of (q ∷ g))) k.gridded.distinct).0 in
    ⊎_elim {C = ⊥} (λ l. k.member.no_obstruction (rising only_cell only_cell) here (two_rise p q g a b l)) (λ l. k.member.no_obstruction (falling only_cell only_cell) (later (rising only_cell only_cell) here) (two_fall p q g a b l)) (ordered p.letter q.letter apart)
  where
    ordered : (x y : ℕ) → ¬ (x ≡ y) → (x < y) ⊎ (y < x)
    ordered x y d = go (nat_lt x y) refl
      where
        go : (b : Bool) → nat_lt x y ≡ b → (x < y) ⊎ (y < x)
        go true e = inl (grind (arith, nat_tests))
        go false e = let le : y ≤ x = grind (arith, nat_tests) in inr (omega (arith, d))

pub point_has_one_member : PointHasOneMember
unfolding occurs
point_has_one_member zero = refl
point_has_one_member (suc zero) = refl
point_has_one_member (suc (suc n)) =
    let none_there : one_at 1 (suc (suc n)) ≡ 0 = grind (arith, nat_tests) in
    count_without_members point_tiling (suc (suc n)) (λ g. no_two_points g n) ∙ sym none_there
