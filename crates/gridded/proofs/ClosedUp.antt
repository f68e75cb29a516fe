-- A part of a gridded permutation whose letters close up is gridded, stands in it, and holds the same patterns.
use Rattle.std.proofs.Common.{◌≡◌, ◌≤◌, ◌<◌, ℕ, zero, suc, Bool, true, List, [], ◌∷◌, length, refl, sym, ap, ◌∙◌, subst, arith}
use Rattle.std.specs.Prelude.{map, nat_lt}
use Rattle.std.specs.List.{AllByRecursion, AllZip, filter, remove, list_all}
use Rattle.std.proofs.lemmas.List.{length-map}
use Rattle.std.proofs.lemmas.List.Elements.{All-from_recursion}
use Rattle.std.proofs.lemmas.List.Sums.{count_by-le-length}
use Rattle.std.proofs.lemmas.Bool.Decides.{nat_tests}
use Rattle.lists.specs.Parts.IsPart.{none, kept, left_out}
use Rattle.lists.specs.Members.IsIn.{here, later}
use Rattle.lists.specs.Parts.{IsPart}
use Rattle.lists.specs.Members.{IsIn}
use Rattle.lists.proofs.Tests.{same_test}
use Rattle.lists.proofs.Members.{IsIn-map}
use Rattle.lists.proofs.Parts.{IsPart-itself, IsPart-map, filter-IsPart, length-IsPart}
use Rattle.patterns.specs.Occurs.{IsSameOrder, is_match}
use Rattle.patterns.specs.Ranks.{rank, standardised}
use Rattle.patterns.proofs.Occurrences.{match_from}
use Rattle.patterns.proofs.Standard.{rank-lt-length, rank_order, standardised_same_order}
use Rattle.gridded.specs.declared.cell.Cell.{Cell}
use Rattle.gridded.specs.Grids.{Point, points, letter_of, same_cell, may_follow, is_consistent, holds, Holds, IsGridded, FitTogether}
use Rattle.gridded.specs.Orders.{letters_of, cells_of}
use Rattle.gridded.specs.Parts.{ranked, closed_up, IsClosedUp, without_point, restricted}
use Rattle.gridded.proofs.Points.{points-of_fields}
use Rattle.gridded.proofs.Consistent.{consistent_part, distinct_part, distinct_alike}
use Rattle.gridded.proofs.Holding.{holds_tells, holds_from, Holds-trans, same_cell_from}

-- ---- the fields of what is closed up
letters-ranked : (ls : List ℕ) (part : List Point) → letters_of (map (ranked ls) part) ≡ map (rank ls) (letters_of part)
letters-ranked ls [] = refl
letters-ranked ls (p ∷ part) = ap (λ rest. rank ls p.letter ∷ rest) (letters-ranked ls part)

cells-ranked : (ls : List ℕ) (part : List Point) → cells_of (map (ranked ls) part) ≡ cells_of part
cells-ranked ls [] = refl
cells-ranked ls (p ∷ part) = ap (λ rest. p.cell ∷ rest) (cells-ranked ls part)

pub letters_of-closed_up : (part : List Point) → letters_of (closed_up part) ≡ standardised (letters_of part)
letters_of-closed_up part = letters-ranked (letters_of part) part

pub cells_of-closed_up : (part : List Point) → cells_of (closed_up part) ≡ cells_of part
cells_of-closed_up part = cells-ranked (letters_of part) part

pub length-closed_up : (part : List Point) → length (closed_up part) ≡ length part
length-closed_up part = length-map part (ranked (letters_of part))

-- the same from the two lists of its fields
pub points-closed_up : (part : List Point) → points (standardised (letters_of part)) (cells_of part) ≡ closed_up part
points-closed_up part =
    ap (λ letters. points letters (cells_of part)) (sym (letters_of-closed_up part)) ∙ ap (λ cells. points (letters_of (closed_up part)) cells) (sym (cells_of-closed_up part)) ∙ points-of_fields (closed_up part)

pub rank-small : (part : List Point) (x : ℕ) → rank (letters_of part) x ≤ length part
rank-small part x = let k : rank (letters_of part) x ≤ length (letters_of part) = count_by-le-length (λ y. nat_lt y x) (letters_of part) in omega (arith, length-map part letter_of)

-- ---- it stands as the part does
pub turned : {xs ys : List ℕ} → IsSameOrder xs ys → IsSameOrder ys xs
turned h = record { as_many = sym h.as_many; alike = λ i j a b. let k = h.alike i j (omega (arith, h.as_many)) (omega (arith, h.as_many)) in (k.1, k.0) }

pub same_order-closed_up : (part : List Point) → IsSameOrder (letters_of (closed_up part)) (letters_of part)
same_order-closed_up part = subst (λ letters. IsSameOrder letters (letters_of part)) (sym (letters_of-closed_up part)) (standardised_same_order (letters_of part))

fit_there : (ls : List ℕ) (part : List Point) → AllZip (λ x a. same_cell x a ≡ true) (map (ranked ls) part) part
fit_there ls [] = tt
fit_there ls (p ∷ part) = (same_cell_from p p refl, fit_there ls part)

fit_back : (ls : List ℕ) (part : List Point) → AllZip (λ x a. same_cell x a ≡ true) part (map (ranked ls) part)
fit_back ls [] = tt
fit_back ls (p ∷ part) = (same_cell_from p p refl, fit_back ls part)

pub match-closed_up : (part : List Point) → is_match letter_of same_cell part (closed_up part) ≡ true
match-closed_up part = match_from letter_of same_cell part (closed_up part) (record { order = turned (same_order-closed_up part); fit = fit_back (letters_of part) part })

-- the part is held by what it closes up to, and what it closes up to by whatever it is a part of
pub closed_up-Holds : (part : List Point) → Holds (closed_up part) part
closed_up-Holds part = record { points = closed_up part; chosen = IsPart-itself (closed_up part); order = same_order-closed_up part; fit = fit_there (letters_of part) part }

pub Holds-closed_up : (part g : List Point) → IsPart part g → Holds g (closed_up part)
Holds-closed_up part g k = record { points = part; chosen = k; order = turned (same_order-closed_up part); fit = fit_back (letters_of part) part }

-- a pattern is held before closing up exactly where it is held after
pub holds-closed_up : (part p : List Point) → holds (closed_up part) p ≡ holds part p
holds-closed_up part p =
    same_test (holds (closed_up part) p) (holds part p)
    (λ e. holds_from part p (Holds-trans part (closed_up part) p (Holds-closed_up part part (IsPart-itself part)) (holds_tells (closed_up part) p e)))
    (λ e. holds_from (closed_up part) p (Holds-trans (closed_up part) part p (closed_up-Holds part) (holds_tells part p e)))

-- and it is held exactly where the part is
pub closed_up_is_held : (g part : List Point) → holds g (closed_up part) ≡ holds g part
closed_up_is_held g part =
    same_test (holds g (closed_up part)) (holds g part)
    (λ e. holds_from g part (Holds-trans g (closed_up part) part (holds_tells g (closed_up part) e) (closed_up-Holds part)))
    (λ e. holds_from g (closed_up part) (Holds-trans g part (closed_up part) (holds_tells g part e) (Holds-closed_up part part (IsPart-itself part))))

-- ---- it is gridded
pub ranks_below : (whole : List ℕ) (part : List Point) → ((p : Point) → IsIn p part → IsIn p.letter whole) → AllByRecursion (λ (p : Point). p.letter < length whole) (map (ranked whole) part)
ranks_below whole [] h = tt
ranks_below whole (p ∷ part) h = (rank-lt-length p.letter (h p here), ranks_below whole part (λ q k. h q (later p k)))

rank_test : (ls : List ℕ) (x y : ℕ) → IsIn x ls → IsIn y ls → nat_lt (rank ls x) (rank ls y) ≡ nat_lt x y
rank_test ls x y h k = let o = rank_order ls x y h k in same_test (nat_lt (rank ls x) (rank ls y)) (nat_lt x y) (λ e. let l = o.0 (grind (arith, nat_tests)) in grind (arith, nat_tests)) (λ e. let l = o.1 (grind (arith, nat_tests)) in grind (arith, nat_tests))

follow-ranked : (ls : List ℕ) (p q : Point) → IsIn p.letter ls → IsIn q.letter ls → may_follow (ranked ls p) (ranked ls q) ≡ may_follow p q
follow-ranked ls p q h k = rw (rank_test ls p.letter q.letter h k, rank_test ls q.letter p.letter k h) refl

all_follow-ranked : (ls : List ℕ) (p : Point) (part : List Point) → IsIn p.letter ls → ((q : Point) → IsIn q part → IsIn q.letter ls) → list_all (λ q. may_follow (ranked ls p) q) (map (ranked ls) part) ≡ list_all (λ q. may_follow p q) part
all_follow-ranked ls p [] h k = refl
all_follow-ranked ls p (q ∷ part) h k = rw (follow-ranked ls p q h (k q here), all_follow-ranked ls p part h (λ r m. k r (later q m))) refl

consistent-ranked : (ls : List ℕ) (part : List Point) → ((q : Point) → IsIn q part → IsIn q.letter ls) → is_consistent (map (ranked ls) part) ≡ is_consistent part
consistent-ranked ls [] k = refl
consistent-ranked ls (p ∷ part) k = rw (all_follow-ranked ls p part (k p here) (λ r m. k r (later p m)), consistent-ranked ls part (λ r m. k r (later p m))) refl

pub consistent-closed_up : (part : List Point) → is_consistent (closed_up part) ≡ is_consistent part
consistent-closed_up part = consistent-ranked (letters_of part) part (λ q m. IsIn-map letter_of m)

pub IsGridded-closed_up : (part g : List Point) → IsPart part g → IsGridded g → IsGridded (closed_up part)
IsGridded-closed_up part g k h =
    let size : length (closed_up part) ≡ length part = length-closed_up part in
    let letters : length (letters_of part) ≡ length part = length-map part letter_of in
    record {
      short = omega (arith, length-IsPart k, h.short);
      below = All-from_recursion (λ (p : Point). p.letter < length (closed_up part)) (closed_up part)
          (subst (λ n. AllByRecursion (λ (p : Point). p.letter < n) (closed_up part)) (letters ∙ sym size) (ranks_below (letters_of part) part (λ p m. IsIn-map letter_of m)));
      distinct = distinct_alike part (closed_up part) (match-closed_up part) (distinct_part (IsPart-map letter_of k) h.distinct);
      consistent = consistent-closed_up part ∙ consistent_part k h.consistent;
    }

pub IsClosedUp-closed_up : (part g : List Point) → IsPart part g → IsGridded g → IsClosedUp part (closed_up part)
IsClosedUp-closed_up part g k h = record { cells = cells_of-closed_up part; order = same_order-closed_up part; gridded = IsGridded-closed_up part g k h }

pub FitTogether-closed_up : (part : List Point) → IsGridded (closed_up part) → FitTogether (standardised (letters_of part)) (cells_of part)
FitTogether-closed_up part h = record {
  as_many = length-map (letters_of part) (rank (letters_of part)) ∙ length-map part letter_of ∙ sym (length-map part (λ (p : Point). p.cell));
  gridded = rw (points-closed_up part) h;
}

-- ---- the two cases
pub remove-IsPart : {X : Type 0} (xs : List X) (i : ℕ) → IsPart (remove xs i) xs
remove-IsPart [] zero = none
remove-IsPart [] (suc i) = none
remove-IsPart (x ∷ xs) zero = left_out x (IsPart-itself xs)
remove-IsPart (x ∷ xs) (suc i) = kept x (remove-IsPart xs i)

pub IsClosedUp-without_point : (g : List Point) (i : ℕ) → IsGridded g → IsClosedUp (remove g i) (without_point g i)
IsClosedUp-without_point g i h = IsClosedUp-closed_up (remove g i) g (remove-IsPart g i) h

pub IsClosedUp-restricted : (test : Cell → Bool) (g : List Point) → IsGridded g → IsClosedUp (filter (λ p. test p.cell) g) (restricted test g)
IsClosedUp-restricted test g h = IsClosedUp-closed_up (filter (λ p. test p.cell) g) g (filter-IsPart (λ (p : Point). test p.cell) g) h
