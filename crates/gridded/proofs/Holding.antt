-- Laws of holding: by itself, one after another, of patterns as long as what holds them, and of single points.
use Rattle.std.proofs.Common.{◌≡◌, ℕ, ◌<◌, ◌≤◌, Bool, true, false, List, [], ◌∷◌, length, refl, sym, ap, ◌∙◌, subst, arith}
use Rattle.std.specs.Prelude.{◌&&◌, IsTrue, Decides}
use Rattle.std.specs.List.{AllZip, AllByRecursion, All}
use Rattle.std.proofs.lemmas.List.{length-map}
use Rattle.std.proofs.lemmas.List.Elements.{All-head, All-tail}
use Rattle.std.proofs.lemmas.Bool.{and_from}
use Rattle.lists.specs.Members.IsIn.{here, later}
use Rattle.lists.specs.Parts.{IsPart}
use Rattle.lists.specs.Members.{IsIn}
use Rattle.lists.proofs.Parts.{IsPart-itself, IsPart-nothing, IsIn-IsPart, length-IsPart, IsPart-as_long}
use Rattle.patterns.specs.Occurs.{stands_as, stand_alike, is_match, IsSameOrder}
use Rattle.patterns.specs.Laws.{IsPermutationOf}
use Rattle.patterns.proofs.Occurrences.{occurs_decides, match_tells, match_from, alike_from}
use Rattle.patterns.proofs.Compose.{Occurs-trans}
use Rattle.patterns.proofs.Permutations.{same_permutations}
use Rattle.gridded.specs.Grids.{Point, same_cell, letter_of, holds, Holds, IsGridded}
use Rattle.gridded.specs.Orders.{letters_of}
use Rattle.gridded.specs.OrderLaws.{cell_eq_decides}

-- the test is the relation
pub holds_decides : (g p : List Point) → Decides (holds g p) (Holds g p)
holds_decides g p = occurs_decides letter_of same_cell g p

pub holds_tells : (g p : List Point) → holds g p ≡ true → Holds g p
holds_tells g p e = (holds_decides g p).0 e

pub holds_from : (g p : List Point) → Holds g p → holds g p ≡ true
holds_from g p h = (holds_decides g p).1 h

-- ---- holding is a part that fits
-- whether points can be an occurrence of a pattern
abbrev pub fits : List Point → List Point → Bool
fits = is_match letter_of same_cell

pub Holds-fits : {g p c : List Point} → IsPart c g → fits c p ≡ true → Holds g p
Holds-fits {p = p} {c = c} h e = let m = match_tells letter_of same_cell c p e in record { points = c; chosen = h; order = m.order; fit = m.fit }

pub fits_held : {g p : List Point} (h : Holds g p) → fits h.points p ≡ true
fits_held {p = p} h = match_from letter_of same_cell h.points p (record { order = h.order; fit = h.fit })

pub held_tells : (g p : List Point) → holds g p ≡ true → (c : List Point) × IsPart c g × (fits c p ≡ true)
held_tells g p e = let h = holds_tells g p e in (h.points, h.chosen, fits_held h)

pub held_from : (g p c : List Point) → IsPart c g → fits c p ≡ true → holds g p ≡ true
held_from g p c h e = holds_from g p (Holds-fits h e)

-- ---- one cell
pub same_cell_tells : (p q : Point) → same_cell p q ≡ true → p.cell ≡ q.cell
same_cell_tells p q e = (cell_eq_decides p.cell q.cell).0 e

pub same_cell_from : (p q : Point) → p.cell ≡ q.cell → same_cell p q ≡ true
same_cell_from p q e = (cell_eq_decides p.cell q.cell).1 e

pub same_cell_trans : (p q r : Point) → same_cell p q ≡ true → same_cell q r ≡ true → same_cell p r ≡ true
same_cell_trans p q r e f = same_cell_from p r (same_cell_tells p q e ∙ same_cell_tells q r f)

-- ---- itself, a part, the empty pattern
stand_itself : (x : Point) (xs : List Point) → stands_as letter_of same_cell x x xs xs ≡ true
stand_itself x [] = refl
stand_itself x (y ∷ xs) =
    and_from (stand_alike x.letter x.letter y.letter y.letter) (stands_as letter_of same_cell x x xs xs) (alike_from x.letter x.letter y.letter y.letter (((λ h. h), (λ h. h)), ((λ h. h), (λ h. h)))) (stand_itself x xs)

pub fits_itself : (xs : List Point) → fits xs xs ≡ true
fits_itself [] = refl
fits_itself (x ∷ xs) =
    and_from (same_cell x x) (stands_as letter_of same_cell x x xs xs && fits xs xs) (same_cell_from x x refl) (and_from (stands_as letter_of same_cell x x xs xs) (fits xs xs) (stand_itself x xs) (fits_itself xs))

pub Holds-part : {p g : List Point} → IsPart p g → Holds g p
Holds-part {p} h = Holds-fits h (fits_itself p)

pub Holds-itself : (g : List Point) → Holds g g
Holds-itself g = Holds-part (IsPart-itself g)

pub Holds-empty : (g : List Point) → Holds g []
Holds-empty g = Holds-part (IsPart-nothing g)

pub holds_part : {p g : List Point} → IsPart p g → holds g p ≡ true
holds_part {p} {g} h = holds_from g p (Holds-part h)

pub holds_itself : (g : List Point) → holds g g ≡ true
holds_itself g = holds_part (IsPart-itself g)

pub holds_empty : (g : List Point) → holds g [] ≡ true
holds_empty g = holds_part (IsPart-nothing g)

-- ---- one after another
pub Holds-trans : (g q p : List Point) → Holds g q → Holds q p → Holds g p
Holds-trans g q p h k = Occurs-trans letter_of same_cell same_cell_trans g q p h k

pub holds_trans : (g q p : List Point) → holds g q ≡ true → holds q p ≡ true → holds g p ≡ true
holds_trans g q p e f = holds_from g p (Holds-trans g q p (holds_tells g q e) (holds_tells q p f))

-- ---- lengths
pub length-Holds : {g p : List Point} → Holds g p → length p ≤ length g
length-Holds {g} {p} h = omega (arith, length-IsPart h.chosen, h.order.as_many, length-map h.points letter_of, length-map p letter_of)

pub holds_shorter : (g p : List Point) → holds g p ≡ true → length p ≤ length g
holds_shorter g p e = length-Holds (holds_tells g p e)

pub is_true : (b : Bool) → IsTrue b → b ≡ true
is_true true e = refl
is_true false e = absurd cc

pub letters_below : (n : ℕ) (g : List Point) → All (λ p. p.letter < n) g → AllByRecursion (λ x. x < n) (letters_of g)
letters_below n [] h = tt
letters_below n (p ∷ g) h = (All-head (λ (q : Point). q.letter < n) p g h, letters_below n g (All-tail (λ (q : Point). q.letter < n) p g h))

pub permutation_of : (g : List Point) → IsGridded g → IsPermutationOf (length g) (letters_of g)
permutation_of g h = record { as_long = length-map g letter_of; below = letters_below (length g) g h.below; distinct = is_true _ h.distinct }

same_points : (s p : List Point) → letters_of s ≡ letters_of p → AllZip (λ x a. same_cell x a ≡ true) s p → s ≡ p
same_points [] [] e f = refl
same_points (x ∷ s) [] e f = absurd f
same_points [] (a ∷ p) e f = absurd f
same_points (x ∷ s) (a ∷ p) e f =
    let l : x.letter ≡ a.letter = cc in
    let ls : letters_of s ≡ letters_of p = cc in
    let c = same_cell_tells x a f.0 in
    let ih = same_points s p ls f.1 in
    λ i. record { letter = l i; cell = c i } ∷ ih i

-- what holds a pattern of its own length is that pattern
pub Holds-as_long : (g p : List Point) → IsGridded g → IsGridded p → Holds g p → length g ≤ length p → g ≡ p
Holds-as_long g p k l h b =
    let size : length h.points ≡ length p = sym (length-map h.points letter_of) ∙ h.order.as_many ∙ length-map p letter_of in
    let whole : h.points ≡ g = IsPart-as_long h.chosen (omega arith) in
    let long : length g ≡ length p = ap (λ r. length r) (sym whole) ∙ size in
    let o : IsSameOrder (letters_of g) (letters_of p) = subst (λ (r : List Point). IsSameOrder (letters_of r) (letters_of p)) whole h.order in
    let f : AllZip (λ x a. same_cell x a ≡ true) g p = subst (λ (r : List Point). AllZip (λ x a. same_cell x a ≡ true) r p) whole h.fit in
    same_points g p (same_permutations (length p) (letters_of g) (letters_of p) (subst (λ n. IsPermutationOf n (letters_of g)) long (permutation_of g k)) (permutation_of p l) o) f

pub holds_as_long : (g p : List Point) → IsGridded g → IsGridded p → holds g p ≡ true → length g ≤ length p → g ≡ p
holds_as_long g p k l e b = Holds-as_long g p k l (holds_tells g p e) b

pub holds_each_other : (g p : List Point) → IsGridded g → IsGridded p → holds g p ≡ true → holds p g ≡ true → g ≡ p
holds_each_other g p k l e f = holds_as_long g p k l e (holds_shorter p g f)

-- ---- points
partner : (s p : List Point) → AllZip (λ x a. same_cell x a ≡ true) s p → (q : Point) → IsIn q p → (x : Point) × IsIn x s × (x.cell ≡ q.cell)
partner [] [] f q m = elim m [ ]
partner (x ∷ s) [] f q m = absurd f
partner [] (a ∷ p) f q m = absurd f
partner (x ∷ s) (a ∷ p) f _ here = (x, here, same_cell_tells x a f.0)
partner (x ∷ s) (a ∷ p) f q (later _ m) = let k = partner s p f.1 q m in (k.0, later x k.1, k.2)

-- what holds a pattern has a point in the cell of each of its points
pub held_point : (g p : List Point) → holds g p ≡ true → (q : Point) → IsIn q p → (x : Point) × IsIn x g × (x.cell ≡ q.cell)
held_point g p e q m =
    let h = holds_tells g p e in
    let k = partner h.points p h.fit q m in
    (k.0, IsIn-IsPart h.chosen k.1, k.2)
