-- A point that fits makes a gridded permutation of a gridded permutation.
use Rattle.std.proofs.Common.{◌≡◌, ℕ, zero, suc, ◌+◌, ◌<◌, ◌≤◌, Bool, true, false, List, [], ◌∷◌, length, take, refl, sym, ap, subst, ◌∙◌, arith}
use Rattle.std.specs.Prelude.{◌&&◌, ◌||◌, not, map, nat_lt, ◌==◌, IsTrue, All}
use Rattle.std.specs.List.{list_all, list_any, AllByRecursion}
use Rattle.std.proofs.lemmas.List.{length-map}
use Rattle.std.proofs.lemmas.List.Elements.{All-from_recursion}
use Rattle.std.proofs.lemmas.Bool.Decides.{nat_tests, Decides-eqb}
use Rattle.std.specs.Bool.{beq}
use Rattle.std.proofs.lemmas.Bool.{and_parts as and_true, and_from as both_true}
use Rattle.patterns.specs.Words.{has_no_repeats}
use Rattle.lists.specs.Parts.IsPart.{none, kept, left_out}
use Rattle.lists.specs.Parts.{IsPart}
use Rattle.lists.proofs.Parts.{IsPart-itself}
use Rattle.patterns.specs.Occurs.{stand_alike, stands_as, is_match}
use Rattle.patterns.proofs.Occurrences.{match_tells}
use Rattle.gridded.specs.declared.cell.Cell.{Cell}
use Rattle.gridded.specs.Grids.{Point, letter_of, cell_of, points, same_cell, may_follow, is_consistent, IsGridded, FitTogether, Holds}
use Rattle.gridded.specs.Orders.{letters_of, cells_of}
use Rattle.emptiness.proofs.Insertions.{points-of_fields}
use Rattle.emptiness.specs.Insertion.{put_in, raised_letter, raised, precedes, fits_at, inserted}

-- ---- what stands in the longer list
length-put_in : {X : Type 0} (i : ℕ) (x : X) (ys : List X) → length (put_in i x ys) ≡ suc (length ys)
length-put_in zero x ys = refl
length-put_in (suc i) x [] = refl
length-put_in (suc i) x (y ∷ ys) = ap suc (length-put_in i x ys)

pub length-inserted : (i l : ℕ) (c : Cell) (g : List Point) → length (inserted i l c g) ≡ suc (length g)
length-inserted i l c g = length-put_in i (record { letter = l; cell = c }) (map (raised l) g) ∙ ap suc (length-map g (raised l))

pub map-put_in : {X Y : Type 0} (f : X → Y) (i : ℕ) (x : X) (ys : List X) → map f (put_in i x ys) ≡ put_in i (f x) (map f ys)
map-put_in f zero x ys = refl
map-put_in f (suc i) x [] = refl
map-put_in f (suc i) x (y ∷ ys) = ap (λ rest. f y ∷ rest) (map-put_in f i x ys)

all-put_in : {X : Type 0} (test : X → Bool) (i : ℕ) (x : X) (ys : List X) → list_all test (put_in i x ys) ≡ (test x && list_all test ys)
all-put_in test zero x ys = refl
all-put_in test (suc i) x [] = refl
all-put_in test (suc i) x (y ∷ ys) = ap (λ t. test y && t) (all-put_in test i x ys) ∙ turned (test y) (test x) (list_all test ys)
  where
    turned : (p q r : Bool) → (p && (q && r)) ≡ (q && (p && r))
    turned true q r = refl
    turned false true r = refl
    turned false false r = refl

any-put_in : {X : Type 0} (test : X → Bool) (i : ℕ) (x : X) (ys : List X) → list_any test (put_in i x ys) ≡ (test x || list_any test ys)
any-put_in test zero x ys = refl
any-put_in test (suc i) x [] = refl
any-put_in test (suc i) x (y ∷ ys) = ap (λ t. test y || t) (any-put_in test i x ys) ∙ turned (test y) (test x) (list_any test ys)
  where
    turned : (p q r : Bool) → (p || (q || r)) ≡ (q || (p || r))
    turned true true r = refl
    turned true false r = refl
    turned false q r = refl

-- ---- letters
raised-apart : (l x : ℕ) → (l == raised_letter l x) ≡ false
raised-apart l x = grind (arith, nat_tests)

raised-same : (l x y : ℕ) → (raised_letter l x == raised_letter l y) ≡ (x == y)
raised-same l x y = grind (arith, nat_tests)

raised-order : (l x y : ℕ) → nat_lt (raised_letter l x) (raised_letter l y) ≡ nat_lt x y
raised-order l x y = grind (arith, nat_tests)

none-raised : (l : ℕ) (xs : List ℕ) → list_any (λ y. l == y) (map (raised_letter l) xs) ≡ false
none-raised l [] = refl
none-raised l (x ∷ xs) = rw (raised-apart l x) (none-raised l xs)

stands-raised : (l x : ℕ) (xs : List ℕ) → list_any (λ y. raised_letter l x == y) (map (raised_letter l) xs) ≡ list_any (λ y. x == y) xs
stands-raised l x [] = refl
stands-raised l x (y ∷ xs) = rw (raised-same l x y, stands-raised l x xs) refl

distinct-raised : (l : ℕ) (xs : List ℕ) → has_no_repeats (map (raised_letter l) xs) ≡ has_no_repeats xs
distinct-raised l [] = refl
distinct-raised l (x ∷ xs) = rw (stands-raised l x xs, distinct-raised l xs) refl

turned-same : (x y : ℕ) → (x == y) ≡ (y == x)
turned-same x y = grind (arith, nat_tests)

distinct-put_in : (i x : ℕ) (ys : List ℕ) → list_any (λ y. x == y) ys ≡ false → has_no_repeats ys ≡ true → has_no_repeats (put_in i x ys) ≡ true
distinct-put_in zero x ys e h = rw (e, h) refl
distinct-put_in (suc i) x [] e h = refl
distinct-put_in (suc i) x (y ∷ ys) e h =
    let k = apart (x == y) (list_any (λ z. x == z) ys) e in
    let m = and_true (not (list_any (λ z. y == z) ys)) (has_no_repeats ys) h in
    rw (any-put_in (λ z. y == z) i x ys, turned-same y x, k.0) (both_true (not (list_any (λ z. y == z) ys)) (has_no_repeats (put_in i x ys)) m.0 (distinct-put_in i x ys k.1 m.1))
  where
    apart : (p q : Bool) → (p || q) ≡ false → (p ≡ false) × (q ≡ false)
    apart true q w = absurd cc
    apart false q w = (refl, w)

letters-raised : (l : ℕ) (g : List Point) → map letter_of (map (raised l) g) ≡ map (raised_letter l) (map letter_of g)
letters-raised l [] = refl
letters-raised l (p ∷ g) = ap (λ rest. raised_letter l p.letter ∷ rest) (letters-raised l g)

distinct-inserted : (i l : ℕ) (c : Cell) (g : List Point) → has_no_repeats (map letter_of g) ≡ true → has_no_repeats (map letter_of (inserted i l c g)) ≡ true
distinct-inserted i l c g h =
    rw (map-put_in letter_of i (record { letter = l; cell = c }) (map (raised l) g), letters-raised l g)
    (distinct-put_in i l (map (raised_letter l) (map letter_of g)) (none-raised l (map letter_of g)) (distinct-raised l (map letter_of g) ∙ h))

below-raised : (l n : ℕ) (g : List Point) → l ≤ n → AllByRecursion (λ (p : Point). p.letter < n) g → AllByRecursion (λ (p : Point). p.letter < n + 1) (map (raised l) g)
below-raised l n [] h k = tt
below-raised l n (p ∷ g) h k = (up p.letter (k.0), below-raised l n g h k.1)
  where
    up : (x : ℕ) → x < n → raised_letter l x < n + 1
    up x w = grind (arith, nat_tests)

below-put_in : (n i : ℕ) (q : Point) (g : List Point) → q.letter < n → AllByRecursion (λ (p : Point). p.letter < n) g → AllByRecursion (λ (p : Point). p.letter < n) (put_in i q g)
below-put_in n zero q g h k = (h, k)
below-put_in n (suc i) q [] h k = (h, tt)
below-put_in n (suc i) q (p ∷ g) h k = (k.0, below-put_in n i q g h k.1)

-- ---- cells
after-raised : (p : Point) (l : ℕ) (c : Cell) → may_follow (record { letter = l; cell = c }) (raised l p) ≡ precedes false p.letter p.cell l c
after-raised p l c = grind (arith, nat_tests)

before-raised : (p : Point) (l : ℕ) (c : Cell) → may_follow (raised l p) (record { letter = l; cell = c }) ≡ precedes true p.letter p.cell l c
before-raised p l c = grind (arith, nat_tests)

follow-raised : (l : ℕ) (p q : Point) → may_follow (raised l p) (raised l q) ≡ may_follow p q
follow-raised l p q = rw (raised-order l p.letter q.letter, raised-order l q.letter p.letter) refl

all-follow-raised : (l : ℕ) (p : Point) (g : List Point) → list_all (λ q. may_follow (raised l p) q) (map (raised l) g) ≡ list_all (λ q. may_follow p q) g
all-follow-raised l p [] = refl
all-follow-raised l p (q ∷ g) = rw (follow-raised l p q, all-follow-raised l p g) refl

consistent-raised : (l : ℕ) (g : List Point) → is_consistent (map (raised l) g) ≡ is_consistent g
consistent-raised l [] = refl
consistent-raised l (p ∷ g) = rw (all-follow-raised l p g, consistent-raised l g) refl

all-after : (l : ℕ) (c : Cell) (g : List Point) → list_all (λ q. may_follow (record { letter = l; cell = c }) q) (map (raised l) g) ≡ fits_at zero l c g
all-after l c [] = refl
all-after l c (p ∷ g) = rw (after-raised p l c, all-after l c g) refl

-- the longer list is consistent exactly where the new point fits and the shorter list is
pub consistent-inserted : (i l : ℕ) (c : Cell) (g : List Point) → is_consistent (inserted i l c g) ≡ (fits_at i l c g && is_consistent g)
consistent-inserted zero l c g = rw (all-after l c g, consistent-raised l g) refl
consistent-inserted (suc i) l c [] = refl
consistent-inserted (suc i) l c (p ∷ g) =
    rw (all-put_in (λ q. may_follow (raised l p) q) i (record { letter = l; cell = c }) (map (raised l) g), before-raised p l c, all-follow-raised l p g, consistent-inserted i l c g)
    (shuffled (precedes true p.letter p.cell l c) (list_all (λ q. may_follow p q) g) (fits_at i l c g) (is_consistent g))
  where
    shuffled : (p q r t : Bool) → (p && q && (r && t)) ≡ (p && r && (q && t))
    shuffled true true true t = refl
    shuffled true false true t = refl
    shuffled true true false t = refl
    shuffled true false false t = refl
    shuffled false q r t = refl

is_true : (b : Bool) → b ≡ true → IsTrue b
is_true true e = refl
is_true false e = e

from_is_true : (b : Bool) → IsTrue b → b ≡ true
from_is_true true e = refl
from_is_true false e = e

by_recursion : (n : ℕ) (g : List Point) → All (λ (p : Point). p.letter < n) g → AllByRecursion (λ (p : Point). p.letter < n) g
by_recursion n [] h = tt
by_recursion n (p ∷ g) h = (h zero p (omega arith), by_recursion n g (λ k d m. h (suc k) d (omega arith)))

-- a gridded permutation of any length
pub record IsPlaced (g : List Point) : Type 0 where
  pub below : AllByRecursion (λ p. p.letter < length g) g
  pub distinct : has_no_repeats (map letter_of g) ≡ true
  pub consistent : is_consistent g ≡ true

pub IsPlaced-inserted : (i l : ℕ) (c : Cell) (g : List Point) → IsPlaced g → l ≤ length g → fits_at i l c g ≡ true → IsPlaced (inserted i l c g)
IsPlaced-inserted i l c g h low fits =
    let n = length-inserted i l c g in
    let up : suc (length g) ≡ length g + 1 = omega arith in record {
      below = subst (λ m. AllByRecursion (λ (p : Point). p.letter < m) (inserted i l c g)) (sym (n ∙ up))
          (below-put_in (length g + 1) i (record { letter = l; cell = c }) (map (raised l) g) (omega arith) (below-raised l (length g) g low h.below));
      distinct = distinct-inserted i l c g h.distinct;
      consistent = consistent-inserted i l c g ∙ both_true (fits_at i l c g) (is_consistent g) fits h.consistent;
    }

pub placed : (g : List Point) → IsGridded g → IsPlaced g
placed g h = record { below = by_recursion (length g) g h.below; distinct = from_is_true _ h.distinct; consistent = from_is_true _ h.consistent }

pub IsGridded-inserted : (i l : ℕ) (c : Cell) (g : List Point) → IsGridded g → length g < 9 → l ≤ length g → fits_at i l c g ≡ true → IsGridded (inserted i l c g)
IsGridded-inserted i l c g h few low fits =
    let k = IsPlaced-inserted i l c g (placed g h) low fits in record {
      short = omega (arith, length-inserted i l c g);
      below = All-from_recursion (λ (p : Point). p.letter < length (inserted i l c g)) (inserted i l c g) k.below;
      distinct = is_true _ k.distinct;
      consistent = is_true _ k.consistent;
    }

-- ---- the same of letters and cells
letters-inserted : (i l : ℕ) (c : Cell) (g : List Point) → letters_of (inserted i l c g) ≡ put_in i l (map (raised_letter l) (letters_of g))
letters-inserted i l c g = map-put_in letter_of i (record { letter = l; cell = c }) (map (raised l) g) ∙ ap (put_in i l) (letters-raised l g)

cells-raised : (l : ℕ) (g : List Point) → map cell_of (map (raised l) g) ≡ map cell_of g
cells-raised l [] = refl
cells-raised l (p ∷ g) = ap (λ rest. p.cell ∷ rest) (cells-raised l g)

cells-inserted : (i l : ℕ) (c : Cell) (g : List Point) → cells_of (inserted i l c g) ≡ put_in i c (cells_of g)
cells-inserted i l c g = map-put_in cell_of i (record { letter = l; cell = c }) (map (raised l) g) ∙ ap (put_in i c) (cells-raised l g)

pub points-inserted : (i l : ℕ) (c : Cell) (g : List Point) (letters : List ℕ) (cells : List Cell) → letters ≡ put_in i l (map (raised_letter l) (letters_of g)) → cells ≡ put_in i c (cells_of g) → points letters cells ≡ inserted i l c g
points-inserted i l c g letters cells e f = rw (e ∙ sym (letters-inserted i l c g), f ∙ sym (cells-inserted i l c g)) (points-of_fields (inserted i l c g))

pub FitTogether-inserted : (i l : ℕ) (c : Cell) (g : List Point) (letters : List ℕ) (cells : List Cell) → IsGridded g → length g < 9 → l ≤ length g → fits_at i l c g ≡ true → letters ≡ put_in i l (map (raised_letter l) (letters_of g)) → cells ≡ put_in i c (cells_of g) → FitTogether letters cells
FitTogether-inserted i l c g letters cells h few low fits e f = record {
  as_many = ap (λ s. length s) (e ∙ sym (letters-inserted i l c g)) ∙ length-map (inserted i l c g) letter_of ∙ sym (ap (λ s. length s) (f ∙ sym (cells-inserted i l c g)) ∙ length-map (inserted i l c g) cell_of);
  gridded = subst (λ p. IsGridded p) (sym (points-inserted i l c g letters cells e f)) (IsGridded-inserted i l c g h few low fits);
}

pub letters-low : (g : List Point) (letters : List ℕ) → IsGridded g → letters ≡ letters_of g → All (λ letter. letter < 9) letters
letters-low g letters h e = subst (λ ls. All (λ letter. letter < 9) ls) (sym e) (All-from_recursion (λ letter. letter < 9) (letters_of g) (low (length g) g h.short (by_recursion (length g) g h.below)))
  where
    low : (n : ℕ) (p : List Point) → n ≤ 9 → AllByRecursion (λ (q : Point). q.letter < n) p → AllByRecursion (λ letter. letter < 9) (letters_of p)
    low n [] k m = tt
    low n (q ∷ p) k m = (omega (arith, m.0), low n p k m.1)

pub letters-made : (i l : ℕ) (g : List Point) (xs ys made own : List ℕ) → xs ≡ letters_of g → ys ≡ letters_of g → take (length ys) made ≡ map (raised_letter l) ys → take (length (take (length xs) made) + 1) own ≡ put_in i l (take (length xs) made)
    → take (length xs + 1) own ≡ put_in i l (map (raised_letter l) (letters_of g))
letters-made i l g xs ys made own e f d a =
    let same : take (length xs) made ≡ map (raised_letter l) (letters_of g) = rw (e ∙ sym f) (d ∙ rw f refl) in
    let few : length (take (length xs) made) ≡ length xs = ap (λ s. length s) same ∙ length-map (letters_of g) (raised_letter l) ∙ ap (λ s. length s) (sym e) in
    ap (λ n. take (n + 1) own) (sym few) ∙ a ∙ ap (put_in i l) same

pub cells-made : (i : ℕ) (c : Cell) (g : List Point) (xs : List ℕ) (ys own : List Cell) → xs ≡ letters_of g → ys ≡ cells_of g → take (length ys + 1) own ≡ put_in i c ys → take (length xs + 1) own ≡ put_in i c (cells_of g)
cells-made i c g xs ys own e f a =
    let few : length xs ≡ length ys = ap (λ s. length s) e ∙ length-map g letter_of ∙ sym (ap (λ s. length s) f ∙ length-map g cell_of) in
    ap (λ n. take (n + 1) own) few ∙ a ∙ ap (put_in i c) f

-- ---- the longer gridded permutation holds the shorter one
IsPart-put_in : {X : Type 0} (i : ℕ) (x : X) (ys : List X) → IsPart ys (put_in i x ys)
IsPart-put_in zero x ys = left_out x (IsPart-itself ys)
IsPart-put_in (suc i) x [] = left_out x none
IsPart-put_in (suc i) x (y ∷ ys) = kept y (IsPart-put_in i x ys)

alike-raised : (l x y : ℕ) → stand_alike (raised_letter l x) x (raised_letter l y) y ≡ true
alike-raised l x y = rw (raised-order l x y, raised-order l y x) (both_true (beq (nat_lt x y) (nat_lt x y)) (beq (nat_lt y x) (nat_lt y x)) (itself (nat_lt x y)) (itself (nat_lt y x)))
  where
    itself : (b : Bool) → beq b b ≡ true
    itself true = refl
    itself false = refl

stands-as-raised : (l : ℕ) (p : Point) (g : List Point) → stands_as letter_of same_cell (raised l p) p (map (raised l) g) g ≡ true
stands-as-raised l p [] = refl
stands-as-raised l p (q ∷ g) = both_true (stand_alike (raised_letter l p.letter) p.letter (raised_letter l q.letter) q.letter) (stands_as letter_of same_cell (raised l p) p (map (raised l) g) g) (alike-raised l p.letter q.letter) (stands-as-raised l p g)

own-cell : (c : Cell) → ((c.x == c.x) && (c.y == c.y)) ≡ true
own-cell c = both_true (c.x == c.x) (c.y == c.y) ((Decides-eqb c.x c.x).1 refl) ((Decides-eqb c.y c.y).1 refl)

pub match-raised : (l : ℕ) (g : List Point) → is_match letter_of same_cell (map (raised l) g) g ≡ true
match-raised l [] = refl
match-raised l (p ∷ g) =
    both_true (same_cell (raised l p) p) (stands_as letter_of same_cell (raised l p) p (map (raised l) g) g && is_match letter_of same_cell (map (raised l) g) g) (own-cell p.cell)
    (both_true (stands_as letter_of same_cell (raised l p) p (map (raised l) g) g) (is_match letter_of same_cell (map (raised l) g) g) (stands-as-raised l p g) (match-raised l g))

pub Holds-inserted : (i l : ℕ) (c : Cell) (g : List Point) → Holds (inserted i l c g) g
Holds-inserted i l c g =
    let m = match_tells letter_of same_cell (map (raised l) g) g (match-raised l g) in
    record { points = map (raised l) g; chosen = IsPart-put_in i (record { letter = l; cell = c }) (map (raised l) g); order = m.order; fit = m.fit }
