-- A pattern with one point in an isolated point cell is held exactly where the pattern without that point is held.
use Rattle.std.proofs.Common.{◌≡◌, ℕ, ◌+◌, Bool, true, false, cond, List, [], ◌∷◌, length, refl, sym, ◌∙◌, arith}
use Rattle.std.specs.Prelude.{not, count_by}
use Rattle.std.specs.List.{AllZip}
use Rattle.std.proofs.lemmas.Bool.Decides.{Decides-eqb}
use Rattle.std.proofs.lemmas.List.{length-map}
use Rattle.std.proofs.lemmas.List.Sums.{sum_by-cons}
use Rattle.lists.specs.Members.IsIn.{here, later}
use Rattle.lists.specs.Members.{IsIn}
use Rattle.lists.specs.Parts.{IsPart}
use Rattle.lists.proofs.Tests.{same_test}
use Rattle.lists.proofs.Parts.{IsPart-itself, filter-IsPart}
use Rattle.patterns.proofs.Occurrences.{match_from, match_tells, Matches}
use Rattle.patterns.proofs.Standard.{standardised_same_order}
use Rattle.patterns.specs.Ranks.{standardised}
use Rattle.patterns.specs.Occurs.{is_match, IsSameOrder}
use Rattle.gridded.specs.declared.cell.Cell.{Cell}
use Rattle.gridded.specs.Grids.{Point, points, same_cell, letter_of, cell_of, holds, is_gridded}
use Rattle.gridded.specs.Orders.{cell_eq, letters_of, cells_of}
use Rattle.gridded.specs.OrderLaws.{cell_eq_decides}
use Rattle.gridded.specs.PointLaws.{letters_of-points}
use Rattle.gridded.specs.Parts.{restricted}
use Rattle.gridded.specs.Places.{has_one_point_in}
use Rattle.steps.specs.Steps.{cleaned}
use Rattle.gridded.proofs.ClosedUp.{closed_up_is_held}
use Rattle.gridded.proofs.Holding.{holds_tells, holds_from, holds_trans, holds_part, same_cell_from}
use Rattle.steps.proofs.PutBack.{IsLone, IsOnly, outside, put_back}
use Rattle.steps.proofs.PutBack.IsOnly.{only_first, only_next}

-- ---- the point in c
abbrev pub points_in_cell : Cell → List Point → ℕ
points_in_cell c p = count_by (cell_eq c) (cells_of p)

pub count-cons : (c : Cell) (b : Point) (p : List Point) → points_in_cell c (b ∷ p) ≡ cond (cell_eq c b.cell) 1 0 + points_in_cell c p
count-cons c b p = sum_by-cons (λ d. cond (cell_eq c d) 1 0) b.cell (cells_of p)

pub none_in_cell : (c : Cell) (p : List Point) → points_in_cell c p ≡ 0 → (q : Point) → IsIn q p → cell_eq c q.cell ≡ false
none_in_cell c [] e q m = elim m [ ]
none_in_cell c (b ∷ p) e q m = go (cell_eq c b.cell) refl (none_in_cell c p) q m
  where
    total : cond (cell_eq c b.cell) 1 0 + points_in_cell c p ≡ 0
    total = sym (count-cons c b p) ∙ e

    each : cell_eq c b.cell ≡ false → ((r : Point) → IsIn r p → cell_eq c r.cell ≡ false) → (r : Point) → IsIn r (b ∷ p) → cell_eq c r.cell ≡ false
    each f ih _ here = f
    each f ih r (later _ i) = ih r i

    go : (t : Bool) → cell_eq c b.cell ≡ t → (points_in_cell c p ≡ 0 → (r : Point) → IsIn r p → cell_eq c r.cell ≡ false) → (r : Point) → IsIn r (b ∷ p) → cell_eq c r.cell ≡ false
    go true f ih = let k : 1 + points_in_cell c p ≡ 0 = rw f at total in absurd (omega arith)
    go false f ih = let k : 0 + points_in_cell c p ≡ 0 = rw f at total in each f (ih (omega arith))

abbrev HasOnly : Cell → List Point → Type 0
HasOnly c p = (a : Point) × IsOnly c a p

one_tells : (c : Cell) (p : List Point) → points_in_cell c p ≡ 1 → HasOnly c p
one_tells c [] e = absurd (omega arith)
one_tells c (b ∷ p) e = go (cell_eq c b.cell) refl (one_tells c p)
  where
    total : cond (cell_eq c b.cell) 1 0 + points_in_cell c p ≡ 1
    total = sym (count-cons c b p) ∙ e

    go : (t : Bool) → cell_eq c b.cell ≡ t → (points_in_cell c p ≡ 1 → HasOnly c p) → HasOnly c (b ∷ p)
    go true f ih =
        let k : 1 + points_in_cell c p ≡ 1 = rw f at total in
        (b, only_first (sym ((cell_eq_decides c b.cell).0 f)) (none_in_cell c p (omega arith)))
    go false f ih =
        let k : 0 + points_in_cell c p ≡ 1 = rw f at total in
        let w = ih (omega arith) in
        (w.0, only_next b f w.1)

-- what the lone point adds
outside_is_held : (c : Cell) (g p : List Point) (x a : Point) → IsLone c x g → IsOnly c a p → is_gridded g ≡ true → is_gridded p ≡ true → holds g (outside c p) ≡ holds g p
outside_is_held c g p x a l o k m = same_test (holds g (outside c p)) (holds g p)
    (λ e. let h = holds_tells g (outside c p) e in
    let f = match_from letter_of same_cell h.points (outside c p) (record { order = h.order; fit = h.fit }) in
    let r = put_back c g p h.points x a l o h.chosen k m f in
    holds_match r.points r.chosen r.fits)
    (λ e. holds_trans g p (outside c p) e (holds_part (filter-IsPart (λ q. not (cell_eq c q.cell)) p)))
  where
    holds_match : (s : List Point) → IsPart s g → is_match letter_of same_cell s p ≡ true → holds g p ≡ true
    holds_match s h f = holds_from g p (record { points = s; chosen = h; order = w.order; fit = w.fit })
      where
        w : Matches letter_of same_cell s p
        w = match_tells letter_of same_cell s p f

-- a cleaned pattern is held exactly where the pattern is
pub cleaned_is_held : (c : Cell) (g p : List Point) (x : Point) → IsLone c x g → is_gridded g ≡ true → is_gridded p ≡ true → holds g (cleaned c p) ≡ holds g p
cleaned_is_held c g p x l k m = go (has_one_point_in c p) refl
  where
    go : (t : Bool) → has_one_point_in c p ≡ t → holds g (cond t (restricted (λ d. not (cell_eq c d)) p) p) ≡ holds g p
    go false e = refl
    go true e =
        let w = one_tells c p ((Decides-eqb (points_in_cell c p) 1).0 e) in
        closed_up_is_held g (outside c p) ∙ outside_is_held c g p x w.0 l w.1 k m
