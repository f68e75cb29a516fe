-- Words of bytes order as gridded permutations do.
use Rattle.std.proofs.Common.{◌≡◌, ℕ, suc, ◌+◌, ◌*◌, ◌<◌, ◌≤◌, List, [], ◌∷◌, ◌++◌, length, get_or, drop, refl, sym, ap, ◌∙◌, arith, length-append, length-drop}
use Rattle.std.specs.Int.{w64, from_be_bytes}
use Rattle.std.specs.declared.cmp.Ordering.{Ordering}
use Rattle.std.specs.declared.cmp.Ordering.TheVariants.{Less, Equal, Greater}
use Rattle.std.specs.Ordering.{nat_cmp, ordering_then, ordering_reverse}
use Rattle.std.specs.Cmp.{IsTotalOrder}
use Rattle.std.specs.Cmp.Lexicographic.{slice_cmp, lists_total}
use Rattle.std.proofs.lemmas.Bool.Decides.{nat_tests}
use Rattle.std.proofs.lemmas.Cmp.{nat_cmp_total}
use Rattle.std.proofs.lemmas.List.{length-map}
use Rattle.gridded.specs.declared.cell.Cell.{Cell}
use Rattle.gridded.specs.Grids.{Point, corner, letter_of, cell_of, nine_letters, nine_cells}
use Rattle.gridded.specs.Orders.{cell_cmp, letters_of, cells_of, gridded_cmp}
use Rattle.gridded.specs.OrderLaws.{cell_total}
use Rattle.gridded.specs.Keys.{AreBytes, IsWordOf, first_bytes, second_bytes, third_bytes, last_bytes}

then_regroup : (a b c : Ordering) → ordering_then (ordering_then a b) c ≡ ordering_then a (ordering_then b c)
then_regroup Less b c = refl
then_regroup Equal b c = refl
then_regroup Greater b c = refl

then_end : (a : Ordering) → ordering_then a Equal ≡ a
then_end Less = refl
then_end Equal = refl
then_end Greater = refl

-- ---- bytes and words
abbrev value : ℕ → List ℕ → ℕ
value v [] = v
value v (x ∷ xs) = value (v * 256 + x) xs

digit : (a b x y : ℕ) → x < 256 → y < 256 → nat_cmp (a * 256 + x) (b * 256 + y) ≡ ordering_then (nat_cmp a b) (nat_cmp x y)
digit a b x y h k = grind (arith, nat_tests)

value-cmp : (u v : ℕ) (xs ys : List ℕ) → length xs ≡ length ys → AreBytes xs → AreBytes ys → nat_cmp (value u xs) (value v ys) ≡ ordering_then (nat_cmp u v) (slice_cmp nat_cmp xs ys)
value-cmp u v [] [] e a b = sym (then_end (nat_cmp u v))
value-cmp u v [] (y ∷ ys) e a b = absurd (omega arith)
value-cmp u v (x ∷ xs) [] e a b = absurd (omega arith)
value-cmp u v (x ∷ xs) (y ∷ ys) e a b =
    value-cmp (u * 256 + x) (v * 256 + y) xs ys (omega arith) a.1 b.1
    ∙ ap (λ o. ordering_then o (slice_cmp nat_cmp xs ys)) (digit u v x y a.0 b.0)
    ∙ then_regroup (nat_cmp u v) (nat_cmp x y) (slice_cmp nat_cmp xs ys)

pub are_bytes : (xs : List ℕ) → ((k : ℕ) → get_or xs k 0 < 256) → AreBytes xs
are_bytes [] h = tt
are_bytes (x ∷ xs) h = (h 0, are_bytes xs (λ k. h (suc k)))

be-value : (a b c d e f g h : ℕ) → from_be_bytes w64 (a ∷ b ∷ c ∷ d ∷ e ∷ f ∷ g ∷ h ∷ []) ≡ value 0 (a ∷ b ∷ c ∷ d ∷ e ∷ f ∷ g ∷ h ∷ [])
be-value a b c d e f g h = omega arith

-- ---- lists in order
slice_cmp-itself : {X : Type 0} (cmp : X → X → Ordering) → IsTotalOrder cmp → (xs : List X) → slice_cmp cmp xs xs ≡ Equal
slice_cmp-itself cmp total xs = go (slice_cmp cmp xs xs) ((lists_total total).antisymm xs xs)
  where
    go : (o : Ordering) → o ≡ ordering_reverse o → o ≡ Equal
    go Less e = absurd cc
    go Equal e = refl
    go Greater e = absurd cc

slice_cmp-append : {X : Type 0} (cmp : X → X → Ordering) (xs ys us vs : List X) → length xs ≡ length ys → slice_cmp cmp (xs ++ us) (ys ++ vs) ≡ ordering_then (slice_cmp cmp xs ys) (slice_cmp cmp us vs)
slice_cmp-append cmp [] [] us vs e = refl
slice_cmp-append cmp [] (y ∷ ys) us vs e = absurd (omega arith)
slice_cmp-append cmp (x ∷ xs) [] us vs e = absurd (omega arith)
slice_cmp-append cmp (x ∷ xs) (y ∷ ys) us vs e = ap (ordering_then (cmp x y)) (slice_cmp-append cmp xs ys us vs (omega arith)) ∙ sym (then_regroup (cmp x y) (slice_cmp cmp xs ys) (slice_cmp cmp us vs))

-- the same end makes no difference
slice_cmp-same_end : {X : Type 0} (cmp : X → X → Ordering) → IsTotalOrder cmp → (xs ys end : List X) → length xs ≡ length ys → slice_cmp cmp (xs ++ drop (length xs) end) (ys ++ drop (length ys) end) ≡ slice_cmp cmp xs ys
slice_cmp-same_end cmp total xs ys end e =
    ap (λ n. slice_cmp cmp (xs ++ drop n end) (ys ++ drop (length ys) end)) e
    ∙ slice_cmp-append cmp xs ys (drop (length ys) end) (drop (length ys) end) e
    ∙ ap (ordering_then (slice_cmp cmp xs ys)) (slice_cmp-itself cmp total (drop (length ys) end)) ∙ then_end (slice_cmp cmp xs ys)

abbrev flat : List Cell → List ℕ
flat [] = []
flat (c ∷ cs) = c.x ∷ c.y ∷ flat cs

flat-cmp : (cs ds : List Cell) → slice_cmp nat_cmp (flat cs) (flat ds) ≡ slice_cmp cell_cmp cs ds
flat-cmp [] [] = refl
flat-cmp [] (d ∷ ds) = refl
flat-cmp (c ∷ cs) [] = refl
flat-cmp (c ∷ cs) (d ∷ ds) = sym (then_regroup (nat_cmp c.x d.x) (nat_cmp c.y d.y) (slice_cmp nat_cmp (flat cs) (flat ds))) ∙ ap (ordering_then (cell_cmp c d)) (flat-cmp cs ds)

-- nine items, one by one
nine : {X : Type 0} (d : X) (xs : List X) → length xs ≡ 9 → xs ≡ get_or xs 0 d ∷ get_or xs 1 d ∷ get_or xs 2 d ∷ get_or xs 3 d ∷ get_or xs 4 d ∷ get_or xs 5 d ∷ get_or xs 6 d ∷ get_or xs 7 d ∷ get_or xs 8 d ∷ []
nine e (p ∷ q ∷ r ∷ s ∷ t ∷ u ∷ v ∷ w ∷ x ∷ []) h = refl
nine e (p ∷ q ∷ r ∷ s ∷ t ∷ u ∷ v ∷ w ∷ x ∷ y ∷ ys) h = absurd (omega arith)
nine e (p ∷ q ∷ r ∷ s ∷ t ∷ u ∷ v ∷ w ∷ []) h = absurd (omega arith)
nine e (p ∷ q ∷ r ∷ s ∷ t ∷ u ∷ v ∷ []) h = absurd (omega arith)
nine e (p ∷ q ∷ r ∷ s ∷ t ∷ u ∷ []) h = absurd (omega arith)
nine e (p ∷ q ∷ r ∷ s ∷ t ∷ []) h = absurd (omega arith)
nine e (p ∷ q ∷ r ∷ s ∷ []) h = absurd (omega arith)
nine e (p ∷ q ∷ r ∷ []) h = absurd (omega arith)
nine e (p ∷ q ∷ []) h = absurd (omega arith)
nine e (p ∷ []) h = absurd (omega arith)
nine e [] h = absurd (omega arith)

nine_long : {X : Type 0} (xs end : List X) → length end ≡ 9 → length xs ≤ 9 → length (xs ++ drop (length xs) end) ≡ 9
nine_long xs end e h = omega (arith, length-append xs (drop (length xs) end), length-drop (length xs) end)

-- ---- gridded permutations
abbrev no_cells : List Cell
no_cells = corner ∷ corner ∷ corner ∷ corner ∷ corner ∷ corner ∷ corner ∷ corner ∷ corner ∷ []

abbrev no_letters : List ℕ
no_letters = 0 ∷ 0 ∷ 0 ∷ 0 ∷ 0 ∷ 0 ∷ 0 ∷ 0 ∷ 0 ∷ []

abbrev all_bytes : List Point → List ℕ
all_bytes g = first_bytes g ++ (second_bytes g ++ (third_bytes g ++ last_bytes g))

abbrev blank : List ℕ
blank = 0 ∷ 0 ∷ 0 ∷ 0 ∷ []

bytes_are : (g : List Point) → length g ≤ 9 → length g ∷ (nine_letters (letters_of g) ++ (flat (nine_cells (cells_of g)) ++ blank)) ≡ all_bytes g
bytes_are g h =
    let letters = nine 0 (nine_letters (letters_of g)) (nine_long (letters_of g) no_letters refl (omega (arith, length-map g letter_of))) in
    let cells = nine corner (nine_cells (cells_of g)) (nine_long (cells_of g) no_cells refl (omega (arith, length-map g cell_of))) in
    λ i. length g ∷ (letters i ++ (flat (cells i) ++ blank))

bytes-cmp : (g h : List Point) → length g ≤ 9 → length h ≤ 9 → slice_cmp nat_cmp (all_bytes g) (all_bytes h) ≡ gridded_cmp g h
bytes-cmp g h a b =
    sym (λ i. slice_cmp nat_cmp (bytes_are g a i) (bytes_are h b i))
    ∙ decided (nat_cmp (length g) (length h)) refl
  where
    rest : length g ≡ length h
        → slice_cmp nat_cmp (nine_letters (letters_of g) ++ (flat (nine_cells (cells_of g)) ++ blank)) (nine_letters (letters_of h) ++ (flat (nine_cells (cells_of h)) ++ blank))
        ≡ ordering_then (slice_cmp nat_cmp (letters_of g) (letters_of h)) (slice_cmp cell_cmp (cells_of g) (cells_of h))
    rest e =
        let nine_g = nine_long (letters_of g) no_letters refl (omega (arith, length-map g letter_of)) in
        let nine_h = nine_long (letters_of h) no_letters refl (omega (arith, length-map h letter_of)) in
        let letters_long : length (letters_of g) ≡ length (letters_of h) = length-map g letter_of ∙ e ∙ sym (length-map h letter_of) in
        let cells_long : length (cells_of g) ≡ length (cells_of h) = length-map g cell_of ∙ e ∙ sym (length-map h cell_of) in
        slice_cmp-append nat_cmp (nine_letters (letters_of g)) (nine_letters (letters_of h)) (flat (nine_cells (cells_of g)) ++ blank) (flat (nine_cells (cells_of h)) ++ blank) (nine_g ∙ sym nine_h)
        ∙ (λ i. ordering_then (slice_cmp-same_end nat_cmp nat_cmp_total (letters_of g) (letters_of h) no_letters letters_long i) (cells_cmp cells_long i))
      where
        flat_long : (cs : List Cell) → length (flat cs) ≡ length cs + length cs
        flat_long [] = refl
        flat_long (c ∷ cs) = omega (arith, flat_long cs)

        cells_cmp : length (cells_of g) ≡ length (cells_of h) → slice_cmp nat_cmp (flat (nine_cells (cells_of g)) ++ blank) (flat (nine_cells (cells_of h)) ++ blank) ≡ slice_cmp cell_cmp (cells_of g) (cells_of h)
        cells_cmp e =
            let nine_g = nine_long (cells_of g) no_cells refl (omega (arith, length-map g cell_of)) in
            let nine_h = nine_long (cells_of h) no_cells refl (omega (arith, length-map h cell_of)) in
            slice_cmp-append nat_cmp (flat (nine_cells (cells_of g))) (flat (nine_cells (cells_of h))) blank blank (omega (arith, flat_long (nine_cells (cells_of g)), flat_long (nine_cells (cells_of h)), nine_g, nine_h))
            ∙ then_end _
            ∙ flat-cmp (nine_cells (cells_of g)) (nine_cells (cells_of h))
            ∙ slice_cmp-same_end cell_cmp cell_total (cells_of g) (cells_of h) no_cells e

    same_length : nat_cmp (length g) (length h) ≡ Equal → length g ≡ length h
    same_length e = grind (arith, nat_tests)

    decided : (o : Ordering) → nat_cmp (length g) (length h) ≡ o
        → ordering_then (nat_cmp (length g) (length h)) (slice_cmp nat_cmp (nine_letters (letters_of g) ++ (flat (nine_cells (cells_of g)) ++ blank)) (nine_letters (letters_of h) ++ (flat (nine_cells (cells_of h)) ++ blank))) ≡ gridded_cmp g h
    decided Less e = rw e refl
    decided Greater e = rw e refl
    decided Equal e = ap (ordering_then (nat_cmp (length g) (length h))) (rest (same_length e))

-- two words
word-cmp : (xs ys : List ℕ) (u v : ℕ) → from_be_bytes w64 xs ≡ value 0 xs → from_be_bytes w64 ys ≡ value 0 ys → length xs ≡ length ys → IsWordOf xs u → IsWordOf ys v → nat_cmp u v ≡ slice_cmp nat_cmp xs ys
word-cmp xs ys u v p q e a b = (λ i. nat_cmp ((a.value ∙ p) i) ((b.value ∙ q) i)) ∙ value-cmp 0 0 xs ys e a.are_bytes b.are_bytes

pub first-cmp : (g h : List Point) (a b : ℕ) → IsWordOf (first_bytes g) a → IsWordOf (first_bytes h) b → nat_cmp a b ≡ slice_cmp nat_cmp (first_bytes g) (first_bytes h)
first-cmp g h a b k l = word-cmp (first_bytes g) (first_bytes h) a b (be-value _ _ _ _ _ _ _ _) (be-value _ _ _ _ _ _ _ _) refl k l

pub second-cmp : (g h : List Point) (a b : ℕ) → IsWordOf (second_bytes g) a → IsWordOf (second_bytes h) b → nat_cmp a b ≡ slice_cmp nat_cmp (second_bytes g) (second_bytes h)
second-cmp g h a b k l = word-cmp (second_bytes g) (second_bytes h) a b (be-value _ _ _ _ _ _ _ _) (be-value _ _ _ _ _ _ _ _) refl k l

pub third-cmp : (g h : List Point) (a b : ℕ) → IsWordOf (third_bytes g) a → IsWordOf (third_bytes h) b → nat_cmp a b ≡ slice_cmp nat_cmp (third_bytes g) (third_bytes h)
third-cmp g h a b k l = word-cmp (third_bytes g) (third_bytes h) a b (be-value _ _ _ _ _ _ _ _) (be-value _ _ _ _ _ _ _ _) refl k l

pub last-cmp : (g h : List Point) (a b : ℕ) → IsWordOf (last_bytes g) a → IsWordOf (last_bytes h) b → nat_cmp a b ≡ slice_cmp nat_cmp (last_bytes g) (last_bytes h)
last-cmp g h a b k l = word-cmp (last_bytes g) (last_bytes h) a b (be-value _ _ _ _ _ _ _ _) (be-value _ _ _ _ _ _ _ _) refl k l

-- the first words that differ decide
pub by_words : (g h : List Point) → length g ≤ 9 → length h ≤ 9
    → ordering_then (slice_cmp nat_cmp (first_bytes g) (first_bytes h)) (ordering_then (slice_cmp nat_cmp (second_bytes g) (second_bytes h)) (ordering_then (slice_cmp nat_cmp (third_bytes g) (third_bytes h)) (slice_cmp nat_cmp (last_bytes g) (last_bytes h)))) ≡ gridded_cmp g h
by_words g h s t =
    sym (slice_cmp-append nat_cmp (first_bytes g) (first_bytes h) (second_bytes g ++ (third_bytes g ++ last_bytes g)) (second_bytes h ++ (third_bytes h ++ last_bytes h)) refl
    ∙ ap (ordering_then (slice_cmp nat_cmp (first_bytes g) (first_bytes h))) (slice_cmp-append nat_cmp (second_bytes g) (second_bytes h) (third_bytes g ++ last_bytes g) (third_bytes h ++ last_bytes h) refl
    ∙ ap (ordering_then (slice_cmp nat_cmp (second_bytes g) (second_bytes h))) (slice_cmp-append nat_cmp (third_bytes g) (third_bytes h) (last_bytes g) (last_bytes h) refl)))
    ∙ bytes-cmp g h s t

pub stopped : (o r : Ordering) → (o ≡ Equal → ⊥) → ordering_then o r ≡ o
stopped Less r n = refl
stopped Equal r n = absurd (n refl)
stopped Greater r n = refl

pub went_on : (o r : Ordering) → o ≡ Equal → ordering_then o r ≡ r
went_on o r e = ap (λ p. ordering_then p r) e
