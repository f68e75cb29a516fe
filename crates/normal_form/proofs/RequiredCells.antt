-- The cells whose point alone is a requirement list.
use Rattle.std.proofs.Common.{◌≡◌, ◌≢◌, ◌<◌, ◌≤◌, ◌+◌, ℕ, Bool, true, false, List, [], ◌∷◌, length, get_or, take, refl, sym, ap, ◌∙◌, arith}
use Rattle.std.specs.Prelude.{◌&&◌, ◌||◌, nat_eq, All}
use Rattle.std.specs.List.{list_any}
use Rattle.std.specs.Cmp.Lexicographic.{pointwise}
use Rattle.std.proofs.lemmas.List.Folds.{list_any_more}
use Rattle.std.proofs.Math.Bool.{and-true, and-false, or-false}
use Rattle.gridded.specs.declared.cell.Cell.{Cell}
use Rattle.gridded.specs.Grids.{Point, IsGridded}
use Rattle.gridded.specs.Orders.{cells_of, cell_eq, gridded_eq}
use Rattle.gridded.specs.CellSets.{cells_that, is_among, IsCellSet, with_cell}
use Rattle.gridded.proofs.CellSets.{is_among-cells_that}
use Rattle.tiling_core.specs.Tiles.{IsInGrid}
use Rattle.gridded.specs.Small.{point_at}
use Rattle.tiling_core.proofs.GridCells.{same_set, one_point, in_wider_grid}

-- whether the point at a cell is the one pattern of a list
abbrev pub is_alone_in : Cell → List (List Point) → Bool
is_alone_in c patterns = pointwise gridded_eq (point_at c ∷ []) patterns

-- ---- one list
pub another_number : (set : List Cell) (patterns : List (List Point)) → IsCellSet set → length patterns ≢ 1 → set ≡ cells_that (λ c. is_among set c || is_alone_in c patterns)
another_number set patterns s n = s ∙ same_set (λ c. is_among set c) (λ c. is_among set c || is_alone_in c patterns) (λ c k. sym (ap (λ b. is_among set c || b) (go c patterns n) ∙ or-false (is_among set c)))
  where
    go : (c : Cell) (lists : List (List Point)) → length lists ≢ 1 → is_alone_in c lists ≡ false
    go c [] m = refl
    go c (g ∷ []) m = absurd (m refl)
    go c (g ∷ h ∷ lists) m = and-false (gridded_eq (point_at c) g)

not_one_point : (c : Cell) (g : List Point) → length g ≢ 1 → gridded_eq (point_at c) g ≡ false
not_one_point c [] m = refl
not_one_point c (p ∷ []) m = absurd (m refl)
not_one_point c (p ∷ q ∷ g) m = ap (λ b. b && pointwise cell_eq (c ∷ []) (p.cell ∷ q.cell ∷ cells_of g)) (and-false (nat_eq 0 p.letter))

-- a list of one item
one_item : {X : Type 0} (xs : List X) (x : X) → length xs ≡ 1 → x ≡ get_or xs 0 x → xs ≡ x ∷ []
one_item [] x n e = absurd (omega arith)
one_item (y ∷ []) x n e = ap (λ z. z ∷ []) (sym e)
one_item (y ∷ z ∷ xs) x n e = absurd (omega arith)

no_point : (set : List Cell) (g : List Point) → IsCellSet set → length g ≢ 1 → set ≡ cells_that (λ c. is_among set c || is_alone_in c (g ∷ []))
no_point set g s n = s ∙ same_set (λ c. is_among set c) (λ c. is_among set c || is_alone_in c (g ∷ [])) (λ c k. sym (ap (λ b. is_among set c || (b && true)) (not_one_point c g n) ∙ or-false (is_among set c)))

point_alone : (set : List Cell) (g : List Point) (d : Cell) → IsGridded g → length g ≡ 1 → with_cell set (get_or (cells_of g) 0 d) ≡ cells_that (λ c. is_among set c || is_alone_in c (g ∷ []))
point_alone set g d k e =
    one_point set g d k e ∙ same_set (λ c. is_among set c || gridded_eq (point_at c) g) (λ c. is_among set c || is_alone_in c (g ∷ [])) (λ c m. ap (λ b. is_among set c || b) (sym (and-true (gridded_eq (point_at c) g))))

pub no_point_listed : (set : List Cell) (patterns : List (List Point)) (g : List Point) → IsCellSet set → length patterns ≡ 1 → g ≡ get_or patterns 0 g → length g ≢ 1 → set ≡ cells_that (λ c. is_among set c || is_alone_in c patterns)
no_point_listed set patterns g s one is n = no_point set g s n ∙ ap (λ (lists : List (List Point)). cells_that (λ c. is_among set c || is_alone_in c lists)) (sym (one_item patterns g one is))

pub point_listed : (set : List Cell) (patterns : List (List Point)) (g : List Point) (d : Cell) → length patterns ≡ 1 → g ≡ get_or patterns 0 g → IsGridded g → length g ≡ 1 → with_cell set (get_or (cells_of g) 0 d) ≡ cells_that (λ c. is_among set c || is_alone_in c patterns)
point_listed set patterns g d one is k e = point_alone set g d k e ∙ ap (λ (lists : List (List Point)). cells_that (λ c. is_among set c || is_alone_in c lists)) (sym (one_item patterns g one is))

-- ---- one more list
pub lists_in_wider_grid : (w h : ℕ) (lists : List (List (List Point))) (i : ℕ) (item : List (List Point)) → w ≤ 8 → h ≤ 8 → All (λ patterns. IsInGrid w h patterns) lists → i < length lists → item ≡ get_or lists i item → IsInGrid 8 8 item
lists_in_wider_grid w h lists i item k l f below is = in_wider_grid w h item k l (rw is (f i item below))

more_lists : (lists : List (List (List Point))) (i : ℕ) (d : List (List Point)) (cells : List Cell) → i < length lists → cells ≡ cells_that (λ c. list_any (is_alone_in c) (take i lists))
    → cells_that (λ c. is_among cells c || is_alone_in c (get_or lists i d)) ≡ cells_that (λ c. list_any (is_alone_in c) (take (i + 1) lists))
more_lists lists i d cells l e =
    same_set (λ c. is_among cells c || is_alone_in c (get_or lists i d)) (λ c. list_any (is_alone_in c) (take (i + 1) lists))
    (λ c k. ap (λ b. b || is_alone_in c (get_or lists i d)) (ap (λ set. is_among set c) e ∙ is_among-cells_that (λ x. list_any (is_alone_in x) (take i lists)) c k)
    ∙ sym (list_any_more (is_alone_in c) lists i d l))

pub one_more_list : (lists : List (List (List Point))) (i : ℕ) (item : List (List Point)) (cells : List Cell) → i < length lists → item ≡ get_or lists i item → cells ≡ cells_that (λ c. list_any (is_alone_in c) (take i lists))
    → cells_that (λ c. is_among cells c || is_alone_in c item) ≡ cells_that (λ c. list_any (is_alone_in c) (take (i + 1) lists))
one_more_list lists i item cells l is e = ap (λ (patterns : List (List Point)). cells_that (λ c. is_among cells c || is_alone_in c patterns)) is ∙ more_lists lists i item cells l e
