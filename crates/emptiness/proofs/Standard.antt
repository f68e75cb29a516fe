-- Where a further point goes when letters close up, and that membership is told by the closed-up points.
use Rattle.std.proofs.Common.{◌≡◌, ℕ, ◌+◌, ◌<◌, ◌≤◌, Bool, true, false, cond, List, [], ◌∷◌, ◌++◌, length, refl, sym, ap, ◌∙◌, subst, arith, zero-add}
use Rattle.std.specs.Prelude.{◌&&◌, not, map, nat_lt, ◌==◌}
use Rattle.std.specs.List.{list_all, list_any, AllZip}
use Rattle.std.proofs.lemmas.List.{length-map}
use Rattle.std.proofs.lemmas.List.Sums.{sum_by-cons, count_by-le-length}
use Rattle.std.proofs.lemmas.Bool.Decides.{nat_tests, Decides-eqb}
use Rattle.std.proofs.lemmas.Bool.{and_parts as and_true, and_from as both_true}
use Rattle.lists.specs.Members.IsIn.{here, later}
use Rattle.lists.specs.Parts.IsPart.{none, kept, left_out}
use Rattle.lists.specs.Parts.{IsPart}
use Rattle.lists.specs.Members.{IsIn}
use Rattle.lists.proofs.Tests.{same_test}
use Rattle.lists.proofs.Members.{IsIn-map}
use Rattle.lists.proofs.Parts.{IsPart-itself}
use Rattle.patterns.specs.Ranks.{rank}
use Rattle.patterns.specs.Occurs.{IsSameOrder}
use Rattle.patterns.proofs.Standard.{one_below, rank-cons, rank_le, rank_lt}
use Rattle.patterns.proofs.Occurrences.{occurs_decides}
use Rattle.patterns.proofs.Compose.{Occurs-trans}
use Rattle.gridded.specs.declared.cell.Cell.{Cell}
use Rattle.gridded.specs.Grids.{Point, letter_of, same_cell, may_follow, is_consistent, holds, Holds}
use Rattle.gridded.specs.Orders.{letters_of, cells_of}
use Rattle.gridded.specs.Parts.{ranked, closed_up}
use Rattle.gridded.proofs.ClosedUp.{cells_of-closed_up, holds-closed_up}
use Rattle.tiling_core.specs.Tiles.{Tiles, is_member}
use Rattle.gridded.specs.Places.{fits_grid}
use Rattle.emptiness.specs.Insertion.{put_in, raised_letter, raised, inserted}

-- ---- one more letter
rank-more : (a b : List ℕ) (x y : ℕ) → rank (a ++ x ∷ b) y ≡ one_below y x + rank (a ++ b) y
rank-more [] b x y = rank-cons x y b
rank-more (z ∷ a) b x y = rw (rank-cons z y (a ++ x ∷ b), rank-cons z y (a ++ b), rank-more a b x y) (omega arith)

rank-raised : (a b : List ℕ) (x y : ℕ) → IsIn y (a ++ b) → (IsIn x (a ++ b) → ⊥) → rank (a ++ x ∷ b) y ≡ raised_letter (rank (a ++ b) x) (rank (a ++ b) y)
rank-raised a b x y m out = rank-more a b x y ∙ go (nat_lt y x) refl
  where
    go : (t : Bool) → nat_lt y x ≡ t → one_below y x + rank (a ++ b) y ≡ raised_letter (rank (a ++ b) x) (rank (a ++ b) y)
    go true e =
        let less : y < x = grind (arith, nat_tests) in
        let l = rank_lt y x {xs = a ++ b} less m in
        let f : one_below y x ≡ 0 = grind (arith, nat_tests) in
        let g : nat_lt (rank (a ++ b) y) (rank (a ++ b) x) ≡ true = grind (arith, nat_tests) in
        rw (f, g) (zero-add (rank (a ++ b) y))
    go false e =
        let up : x ≤ y = grind (arith, nat_tests) in
        let ne : (x == y) ≡ false = apart (x == y) (λ s. out (subst (λ z. IsIn z (a ++ b)) (sym ((Decides-eqb x y).0 s)) m)) in
        let less : x < y = grind (arith, nat_tests) in
        let l = rank_le x y (a ++ b) up in
        let f : one_below y x ≡ 1 = grind (arith, nat_tests) in
        let g : nat_lt (rank (a ++ b) y) (rank (a ++ b) x) ≡ false = grind (arith, nat_tests) in
        rw (f, g) (omega arith)
      where
        apart : (s : Bool) → (s ≡ true → ⊥) → s ≡ false
        apart true h = absurd (h refl)
        apart false h = refl

-- ---- one more point
map-append : {X Y : Type 0} (f : X → Y) (a b : List X) → map f (a ++ b) ≡ map f a ++ map f b
map-append f [] b = refl
map-append f (x ∷ a) b = ap (λ rest. f x ∷ rest) (map-append f a b)

map-map : {X Y Z : Type 0} (f : Y → Z) (g : X → Y) (xs : List X) → map f (map g xs) ≡ map (λ x. f (g x)) xs
map-map f g [] = refl
map-map f g (x ∷ xs) = ap (λ rest. f (g x) ∷ rest) (map-map f g xs)

map-agree : {X Y : Type 0} (f g : X → Y) (xs : List X) → ((x : X) → IsIn x xs → f x ≡ g x) → map f xs ≡ map g xs
map-agree f g [] h = refl
map-agree f g (x ∷ xs) h = rw (h x here, map-agree f g xs (λ y m. h y (later x m))) refl

put-map : {X Y : Type 0} (f g : X → Y) (x : X) (y : Y) (a b : List X) → ((z : X) → IsIn z (a ++ b) → f z ≡ g z) → f x ≡ y → map f (a ++ x ∷ b) ≡ put_in (length a) y (map g (a ++ b))
put-map f g x y [] b h e = rw (e, map-agree f g b h) refl
put-map f g x y (z ∷ a) b h e = rw (h z here, put-map f g x y a b (λ w m. h w (later z m)) e) refl

-- where a further point goes
pub closed_up-more : (a b : List Point) (x : Point) → (IsIn x.letter (letters_of (a ++ b)) → ⊥) → closed_up (a ++ x ∷ b) ≡ inserted (length a) (rank (letters_of (a ++ b)) x.letter) x.cell (closed_up (a ++ b))
closed_up-more a b x out =
    put-map (ranked (letters_of (a ++ x ∷ b))) (λ q. raised l (ranked (letters_of (a ++ b)) q)) x (record { letter = l; cell = x.cell }) a b there mine
    ∙ ap (put_in (length a) (record { letter = l; cell = x.cell })) (sym (map-map (raised l) (ranked (letters_of (a ++ b))) (a ++ b)))
  where
    l : ℕ
    l = rank (letters_of (a ++ b)) x.letter

    out' : IsIn x.letter (letters_of a ++ letters_of b) → ⊥
    out' m = out (subst (λ ls. IsIn x.letter ls) (sym (map-append letter_of a b)) m)

    there : (q : Point) → IsIn q (a ++ b) → ranked (letters_of (a ++ x ∷ b)) q ≡ raised l (ranked (letters_of (a ++ b)) q)
    there q m =
        let n : IsIn q.letter (letters_of a ++ letters_of b) = subst (λ ls. IsIn q.letter ls) (map-append letter_of a b) (IsIn-map letter_of m) in
        let e : rank (letters_of (a ++ x ∷ b)) q.letter ≡ raised_letter (rank (letters_of (a ++ b)) x.letter) (rank (letters_of (a ++ b)) q.letter) =
        rw (map-append letter_of a (x ∷ b), map-append letter_of a b) (rank-raised (letters_of a) (letters_of b) x.letter q.letter n out') in
        λ i. record { letter = e i; cell = q.cell }

    mine : ranked (letters_of (a ++ x ∷ b)) x ≡ record { letter = l; cell = x.cell }
    mine =
        let none_below : one_below x.letter x.letter ≡ 0 = grind (arith, nat_tests) in
        let e : rank (letters_of (a ++ x ∷ b)) x.letter ≡ rank (letters_of (a ++ b)) x.letter =
        rw (map-append letter_of a (x ∷ b), map-append letter_of a b) (rank-more (letters_of a) (letters_of b) x.letter x.letter ∙ rw none_below (zero-add (rank (letters_of a ++ letters_of b) x.letter))) in
        λ i. record { letter = e i; cell = x.cell }

all-agree : {X : Type 0} (f g : X → Bool) → ((x : X) → f x ≡ g x) → (xs : List X) → list_all f xs ≡ list_all g xs
all-agree f g h [] = refl
all-agree f g h (x ∷ xs) = rw (h x, all-agree f g h xs) refl

pub any-agree : {X : Type 0} (f g : X → Bool) → ((x : X) → f x ≡ g x) → (xs : List X) → list_any f xs ≡ list_any g xs
any-agree f g h [] = refl
any-agree f g h (x ∷ xs) = rw (h x, any-agree f g h xs) refl

pub member-closed_up : (t : Tiles) (c : List Point) → is_member t (closed_up c) ≡ is_member t c
member-closed_up t c =
    let cells : fits_grid t.width t.height (closed_up c) ≡ fits_grid t.width t.height c = ap (λ cs. list_all (λ d. nat_lt d.x t.width && nat_lt d.y t.height) cs) (cells_of-closed_up c) in
    let avoids : list_all (λ p. not (holds (closed_up c) p)) t.obstructions ≡ list_all (λ p. not (holds c p)) t.obstructions = all-agree (λ p. not (holds (closed_up c) p)) (λ p. not (holds c p)) (λ p. ap not (holds-closed_up c p)) t.obstructions in
    let meets : list_all (λ ps. list_any (λ p. holds (closed_up c) p) ps) t.requirements ≡ list_all (λ ps. list_any (λ p. holds c p) ps) t.requirements = all-agree (λ ps. list_any (λ p. holds (closed_up c) p) ps) (λ ps. list_any (λ p. holds c p) ps) (λ ps. any-agree (λ p. holds (closed_up c) p) (λ p. holds c p) (λ p. holds-closed_up c p) ps) t.requirements in
    rw (cells, avoids, meets) refl
