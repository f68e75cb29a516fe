-- One point and two points of a list: what they hold, and consistency by pairs.
use Rattle.std.proofs.Common.{◌≡◌, ℕ, ◌<◌, true, false, List, [], ◌∷◌, refl, arith}
use Rattle.std.specs.Prelude.{◌==◌, ◌&&◌, ◌||◌, ◌≢◌, not, nat_lt, map}
use Rattle.std.specs.List.{list_all}
use Rattle.std.proofs.lemmas.Bool.Decides.{nat_tests}
use Rattle.std.proofs.lemmas.Bool.{and_parts, and_from, not-true}
use Rattle.lists.specs.Parts.IsPart.{kept, left_out}
use Rattle.lists.specs.Members.IsIn.{here, later}
use Rattle.lists.specs.Parts.{IsPart}
use Rattle.lists.specs.Members.{IsIn}
use Rattle.lists.proofs.Parts.{IsPart-map, IsPart-one, IsIn-IsPart}
use Rattle.patterns.specs.Occurs.{stand_alike, stands_as}
use Rattle.patterns.specs.Words.{has_no_repeats}
use Rattle.gridded.specs.declared.cell.Cell.{Cell}
use Rattle.gridded.specs.Grids.{Point, letter_of, same_cell, may_follow, is_consistent, holds, Holds}
use Rattle.gridded.specs.Orders.{letters_of}
use Rattle.gridded.specs.Small.{point_at, rising, falling}
use Rattle.gridded.proofs.Consistent.{consistent_part, distinct_part}
use Rattle.gridded.proofs.Holding.{fits, Holds-fits, held_tells, held_from, held_point, same_cell_from, same_cell_tells}

-- ---- one point
pub point_held : (h : List Point) (c : Cell) → holds h (point_at c) ≡ true → (z : Point) × IsIn z h × (z.cell ≡ c)
point_held h c e = held_point h (point_at c) e (record { letter = 0; cell = c }) here

pub holds_its_point : (h : List Point) (z : Point) (c : Cell) → IsIn z h → z.cell ≡ c → holds h (point_at c) ≡ true
holds_its_point h z c i e = held_from h (point_at c) (z ∷ []) (IsPart-one i) (and_from (same_cell z (record { letter = 0; cell = c })) true (same_cell_from z (record { letter = 0; cell = c }) e) refl)

-- ---- two points
-- the letters k and l in the cells c and d
abbrev pub two : ℕ → ℕ → Cell → Cell → List Point
two k l c d = record { letter = k; cell = c } ∷ record { letter = l; cell = d } ∷ []

pub pair_held : (h : List Point) (k l : ℕ) (c d : Cell) → holds h (two k l c d) ≡ true
    → (y : Point) × (z : Point) × IsIn y h × IsIn z h × (y.cell ≡ c) × (z.cell ≡ d) × (stand_alike y.letter k z.letter l ≡ true)
pair_held h k l c d e = let f = held_tells h (two k l c d) e in go f.0 f.1 f.2
  where
    go : (s : List Point) → IsPart s h → fits s (two k l c d) ≡ true → (y : Point) × (z : Point) × IsIn y h × IsIn z h × (y.cell ≡ c) × (z.cell ≡ d) × (stand_alike y.letter k z.letter l ≡ true)
    go [] i f = absurd cc
    go (y ∷ []) i f = absurd (let a = (and_parts (same_cell y (record { letter = k; cell = c })) _ f).1 in cc)
    go (y ∷ z ∷ s) i f =
        let a = and_parts (same_cell y (record { letter = k; cell = c })) _ f in
        let b = and_parts (stands_as letter_of same_cell y (record { letter = k; cell = c }) (z ∷ s) (record { letter = l; cell = d } ∷ [])) (fits (z ∷ s) (record { letter = l; cell = d } ∷ [])) a.1 in
        let m = and_parts (stand_alike y.letter k z.letter l) _ b.0 in
        let n = and_parts (same_cell z (record { letter = l; cell = d })) _ b.1 in
        (y, z, IsIn-IsPart i here, IsIn-IsPart i (later y here), same_cell_tells y (record { letter = k; cell = c }) a.0, same_cell_tells z (record { letter = l; cell = d }) n.0, m.0)

fits_two : (k l : ℕ) (c d : Cell) (y z : Point) → y.cell ≡ c → z.cell ≡ d → stand_alike y.letter k z.letter l ≡ true → fits (y ∷ z ∷ []) (two k l c d) ≡ true
fits_two k l c d y z e f s =
    and_from (same_cell y (record { letter = k; cell = c })) _ (same_cell_from y (record { letter = k; cell = c }) e)
    (and_from (stand_alike y.letter k z.letter l && true) _ (and_from (stand_alike y.letter k z.letter l) true s refl)
    (and_from (same_cell z (record { letter = l; cell = d })) true (same_cell_from z (record { letter = l; cell = d }) f) refl))

pub holds_pair : (h : List Point) (k l : ℕ) (c d : Cell) (y z : Point) → IsPart (y ∷ z ∷ []) h → y.cell ≡ c → z.cell ≡ d → stand_alike y.letter k z.letter l ≡ true → holds h (two k l c d) ≡ true
holds_pair h k l c d y z i e f s = held_from h (two k l c d) (y ∷ z ∷ []) i (fits_two k l c d y z e f s)

-- ---- one left of the other
abbrev pub IsLeftOf : List Point → Point → Point → Type 0
IsLeftOf g p q = IsPart (p ∷ q ∷ []) g

pub left_in : {g : List Point} {p q : Point} → IsLeftOf g p q → IsIn p g × IsIn q g
left_in {p = p} h = (IsIn-IsPart h here, IsIn-IsPart h (later p here))

pub follows_left : {g : List Point} {p q : Point} → is_consistent g ≡ true → IsLeftOf g p q → may_follow p q ≡ true
follows_left {g} {p} {q} c h =
    (and_parts (may_follow p q) true (and_parts (may_follow p q && true) (is_consistent (q ∷ [])) (consistent_part h c)).0).0

pub letters_differ : {g : List Point} {p q : Point} → has_no_repeats (letters_of g) ≡ true → IsLeftOf g p q → p.letter ≢ q.letter
letters_differ {g} {p} {q} d h e =
    let k : has_no_repeats (p.letter ∷ q.letter ∷ []) ≡ true = distinct_part (IsPart-map letter_of h) d in
    let n = not-true ((p.letter == q.letter) || false) (and_parts (not ((p.letter == q.letter) || false)) (has_no_repeats (q.letter ∷ [])) k).0 in
    clash p.letter q.letter e n
  where
    clash : (a b : ℕ) → a ≡ b → ((a == b) || false) ≡ false → ⊥
    clash a b e f = grind (arith, nat_tests)

up_alike : (a b : ℕ) → a < b → stand_alike a 0 b 1 ≡ true
up_alike a b h = let f : nat_lt a b ≡ true = grind (arith, nat_tests) in let g : nat_lt b a ≡ false = grind (arith, nat_tests) in rw (f, g) refl

down_alike : (a b : ℕ) → b < a → stand_alike a 1 b 0 ≡ true
down_alike a b h = let f : nat_lt a b ≡ false = grind (arith, nat_tests) in let g : nat_lt b a ≡ true = grind (arith, nat_tests) in rw (f, g) refl

pub rising_held : {g : List Point} {p q : Point} → IsLeftOf g p q → p.letter < q.letter → Holds g (rising p.cell q.cell)
rising_held {p = p} {q = q} h l = Holds-fits h (fits_two 0 1 p.cell q.cell p q refl refl (up_alike p.letter q.letter l))

pub falling_held : {g : List Point} {p q : Point} → IsLeftOf g p q → q.letter < p.letter → Holds g (falling p.cell q.cell)
falling_held {p = p} {q = q} h l = Holds-fits h (fits_two 1 0 p.cell q.cell p q refl refl (down_alike p.letter q.letter l))

-- ---- consistency by pairs
all_follow : (f : Point → Point) (p : Point) (g : List Point) → ((q : Point) → IsIn q g → may_follow (f p) (f q) ≡ true) → list_all (λ q. may_follow (f p) q) (map f g) ≡ true
all_follow f p [] h = refl
all_follow f p (q ∷ g) h = and_from (may_follow (f p) (f q)) _ (h q here) (all_follow f p g (λ r m. h r (later q m)))

pub consistent_by_pairs : (f : Point → Point) (g : List Point) → ((p q : Point) → IsLeftOf g p q → may_follow (f p) (f q) ≡ true) → is_consistent (map f g) ≡ true
consistent_by_pairs f [] h = refl
consistent_by_pairs f (p ∷ g) h =
    and_from (list_all (λ q. may_follow (f p) q) (map f g)) (is_consistent (map f g)) (all_follow f p g (λ q m. h p q (kept p (IsPart-one m)))) (consistent_by_pairs f g (λ q r k. h q r (left_out p k)))
