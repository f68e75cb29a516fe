-- What the free bits tell.
use Rattle.std.proofs.Common.{◌≡◌, ℕ, zero, suc, ◌+◌, ◌<◌, ◌≤◌, ◌^◌, Bool, true, false, List, [], ◌∷◌, ◌++◌, length, get_or, drop, refl, sym, ap, ◌∙◌, arith, bit_and}
use Rattle.std.specs.Prelude.{◌&&◌, ◌||◌, ◌≢◌}
use Rattle.std.proofs.lemmas.List.{drop_all}
use Rattle.std.specs.Int.Bits.{and_self}
use Rattle.std.proofs.lemmas.Nat.{and_assoc, and_comm, and_le_r, and_mask, one_shl}
use Rattle.patterns.specs.Search.{letters_fit}
use Rattle.gridded.specs.declared.cell.Cell.{Cell}
use Rattle.gridded.specs.Grids.{Point, corner, same_cell, holds}
use Rattle.gridded.specs.Orders.{cells_of}
use Rattle.gridded.specs.Free.{without, free_of}
use Rattle.gridded.specs.Search.{found}
use Rattle.gridded.proofs.Searches.{starting}
use Rattle.gridded.proofs.Holding.{same_cell_tells}

pub ruleset bits = (one_shl)

pub drop-cells : (i : ℕ) (cells : List Cell) → i < length cells → drop i cells ≡ get_or cells i corner ∷ drop (i + 1) cells
drop-cells i [] h = absurd (omega arith)
drop-cells zero (x ∷ xs) h = refl
drop-cells (suc i) (x ∷ xs) h = let up : suc i + 1 ≡ suc (i + 1) = omega arith in rw up (drop-cells i xs (omega arith))

pub drop-cells-all : (i : ℕ) (cells : List Cell) → length cells ≤ i → drop i cells ≡ []
drop-cells-all i cells h = drop_all i cells h

pub ruleset stepping = (drop-cells, drop-cells-all)

free_small : (cells : List Cell) → free_of cells < 2 ^ 32
free_small [] = omega arith
free_small (c ∷ cells) = omega (arith, and_le_r (without c) (free_of cells), free_small cells)

-- one more free cell on the left
more_left : (n a b : ℕ) → bit_and a b ≡ a → bit_and (bit_and n a) b ≡ bit_and n a
more_left n a b e = and_assoc b n a ∙ ap (bit_and n) e

more_both : (n a b : ℕ) → bit_and a b ≡ a → bit_and (bit_and n a) (bit_and n b) ≡ bit_and n a
more_both n a b e =
    and_assoc (bit_and n b) n a
    ∙ ap (bit_and n) (sym (and_assoc b a n) ∙ ap (λ t. bit_and t b) (and_comm a n) ∙ more_left n a b e)
    ∙ sym (and_assoc a n n) ∙ ap (λ t. bit_and t a) (and_self n)

-- what is found uses no bit that is free
found_free : (xs ys : List ℕ) (w p : List Point) → found xs ys w p ≡ true → bit_and (free_of (cells_of w)) (free_of (cells_of p)) ≡ free_of (cells_of w)
found_free xs ys w [] e = and_mask (free_of (cells_of w)) 32 ∙ omega (arith, free_small (cells_of w))
found_free xs ys [] (y ∷ p) e = absurd cc
found_free xs ys (x ∷ w) (y ∷ p) e = go (same_cell x y) (letters_fit x.letter y.letter xs ys) (found (xs ++ x.letter ∷ []) (ys ++ y.letter ∷ []) w p) (found xs ys w (y ∷ p)) e (same_cell_tells x y) (found_free (xs ++ x.letter ∷ []) (ys ++ y.letter ∷ []) w p) (found_free xs ys w (y ∷ p))
  where
    A : ℕ
    A = free_of (cells_of w)

    go : (s b f g : Bool) → (s && b && f || g) ≡ true → (s ≡ true → x.cell ≡ y.cell) → (f ≡ true → bit_and (free_of (cells_of w)) (free_of (cells_of p)) ≡ free_of (cells_of w)) → (g ≡ true → bit_and (free_of (cells_of w)) (free_of (cells_of (y ∷ p))) ≡ free_of (cells_of w))
        → bit_and (free_of (cells_of (x ∷ w))) (free_of (cells_of (y ∷ p))) ≡ free_of (cells_of (x ∷ w))
    go true true true g e c l r = rw (sym (c refl)) (more_both (without x.cell) (free_of (cells_of w)) (free_of (cells_of p)) (l refl))
    go s b f true e c l r = more_left (without x.cell) (free_of (cells_of w)) (free_of (cells_of (y ∷ p))) (r refl)
    go false b f false e c l r = absurd cc
    go true false f false e c l r = absurd cc
    go true true false false e c l r = absurd cc

-- a pattern with a point in a cell that has none isn't held
pub none_held : (w p : List Point) → bit_and (free_of (cells_of w)) (free_of (cells_of p)) ≢ free_of (cells_of w) → false ≡ holds w p
none_held w p ne = go (holds w p) (λ e. found_free [] [] w p (starting w p ∙ e))
  where
    go : (b : Bool) → (b ≡ true → bit_and (free_of (cells_of w)) (free_of (cells_of p)) ≡ free_of (cells_of w)) → false ≡ b
    go false h = refl
    go true h = absurd (ne (h refl))
