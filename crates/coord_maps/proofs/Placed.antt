-- Points that are placed one after another.
use Rattle.std.proofs.Common.{◌≡◌, ℕ, zero, suc, ◌+◌, ◌<◌, ◌≤◌, Bool, true, false, List, [], ◌∷◌, ◌++◌, length, get_or, set, take, drop, refl, sym, ap, ◌∙◌, subst, arith}
use Rattle.std.specs.Prelude.{◌&&◌, ◌||◌, not, nat_le, ◌==◌, min, max, All}
use Rattle.std.specs.List.{list_all, list_any, AllByRecursion}
use Rattle.std.proofs.lemmas.Bool.Decides.{nat_tests, Decides-eqb}
use Rattle.std.proofs.lemmas.List.{length-map, length-take-le, take_more, take_more_set}
use Rattle.std.proofs.lemmas.List.Elements.{All-from_recursion, recursion_from_All}
use Rattle.std.proofs.lemmas.Bool.{and_parts, and_from}
use Rattle.std.proofs.Math.Bool.{and-true}
use Rattle.gridded.specs.declared.cell.Cell.{Cell}
use Rattle.gridded.specs.Grids.{Point, points, letter_of, may_follow, is_consistent, IsGridded, FitTogether}
use Rattle.gridded.specs.Orders.{letters_of, cells_of}
use Rattle.gridded.specs.PointLaws.{letters_of-points, length-points}
use Rattle.gridded.proofs.Moved.{so_is_true}
use Rattle.gridded.proofs.PartPlaces.{points-push}
use Rattle.coord_maps.specs.Preimages.{may_come, put, placed_points, point_at}
use Rattle.patterns.specs.Words.{has_no_repeats}

letters_as_long : (g : List Point) → length (letters_of g) ≡ length g
letters_as_long g = length-map g letter_of

takes_as_long : (g : List Point) (cells : List Cell) (n : ℕ) → n ≤ length g → n ≤ length cells → length (take n (letters_of g)) ≡ length (take n cells)
takes_as_long g cells n h k = length-take-le n (letters_of g) (rw (letters_as_long g) h) ∙ sym (length-take-le n cells k)

-- one more point
pub placed-next : (g : List Point) (cells : List Cell) (n : ℕ) (c : Cell) → n < length g → n < length cells → placed_points g (set cells n c) (n + 1) ≡ placed_points g cells n ++ record { letter = get_or (letters_of g) n 0; cell = c } ∷ []
placed-next g cells n c h k =
    rw (take_more (letters_of g) n 0 (rw (letters_as_long g) h), take_more_set cells n c k) (points-push (take n (letters_of g)) (take n cells) (get_or (letters_of g) n 0) c (takes_as_long g cells n (omega arith) (omega arith)))

placed-more : (g : List Point) (cells : List Cell) (n : ℕ) (d : Cell) → n < length g → n < length cells → placed_points g cells (n + 1) ≡ placed_points g cells n ++ record { letter = get_or (letters_of g) n 0; cell = get_or cells n d } ∷ []
placed-more g cells n d h k =
    rw (take_more (letters_of g) n 0 (rw (letters_as_long g) h), take_more cells n d k) (points-push (take n (letters_of g)) (take n cells) (get_or (letters_of g) n 0) (get_or cells n d) (takes_as_long g cells n (omega arith) (omega arith)))

-- ---- whether a point may come
pub come-push : (s : List Point) (p q : Point) → may_come (s ++ p ∷ []) q ≡ (may_come s q && may_follow p q)
come-push [] p q = and-true (may_follow p q)
come-push (r ∷ s) p q = rw (come-push s p q) (regrouped (may_follow r q) (may_come s q) (may_follow p q))
  where
    regrouped : (a b c : Bool) → (a && (b && c)) ≡ (a && b && c)
    regrouped true b c = refl
    regrouped false b c = refl

-- one more point: it may come right of one more, and above or below it
narrower_below : (a b : ℕ) (c : Cell) (x y left low top : ℕ) → b < a
    → ((nat_le left x && (nat_le low y && nat_le y top)) && may_follow (record { letter = b; cell = c }) (record { letter = a; cell = record { x = x; y = y } })) ≡ (nat_le (max left c.x) x && (nat_le (max low c.y) y && nat_le y top))
narrower_below a b c x y left low top h = grind (arith, nat_tests)

narrower_above : (a b : ℕ) (c : Cell) (x y left low top : ℕ) → a < b
    → ((nat_le left x && (nat_le low y && nat_le y top)) && may_follow (record { letter = b; cell = c }) (record { letter = a; cell = record { x = x; y = y } })) ≡ (nat_le (max left c.x) x && (nat_le low y && nat_le y (min top c.y)))
narrower_above a b c x y left low top h = grind (arith, nat_tests)

pub room-below : (g : List Point) (cells : List Cell) (n : ℕ) (d : Cell) (a x y left low top : ℕ) → n < length g → n < length cells → get_or (letters_of g) n 0 < a
    → may_come (placed_points g cells n) (record { letter = a; cell = record { x = x; y = y } }) ≡ (nat_le left x && (nat_le low y && nat_le y top))
    → may_come (placed_points g cells (n + 1)) (record { letter = a; cell = record { x = x; y = y } }) ≡ (nat_le (max left (get_or cells n d).x) x && (nat_le (max low (get_or cells n d).y) y && nat_le y top))
room-below g cells n d a x y left low top h k l e =
    rw (placed-more g cells n d h k) (come-push (placed_points g cells n) (record { letter = get_or (letters_of g) n 0; cell = get_or cells n d }) (record { letter = a; cell = record { x = x; y = y } })
    ∙ rw e (narrower_below a (get_or (letters_of g) n 0) (get_or cells n d) x y left low top l))

pub room-above : (g : List Point) (cells : List Cell) (n : ℕ) (d : Cell) (a x y left low top : ℕ) → n < length g → n < length cells → a < get_or (letters_of g) n 0
    → may_come (placed_points g cells n) (record { letter = a; cell = record { x = x; y = y } }) ≡ (nat_le left x && (nat_le low y && nat_le y top))
    → may_come (placed_points g cells (n + 1)) (record { letter = a; cell = record { x = x; y = y } }) ≡ (nat_le (max left (get_or cells n d).x) x && (nat_le low y && nat_le y (min top (get_or cells n d).y)))
room-above g cells n d a x y left low top h k l e =
    rw (placed-more g cells n d h k) (come-push (placed_points g cells n) (record { letter = get_or (letters_of g) n 0; cell = get_or cells n d }) (record { letter = a; cell = record { x = x; y = y } })
    ∙ rw e (narrower_above a (get_or (letters_of g) n 0) (get_or cells n d) x y left low top l))

-- letters at two places differ
none_at : (t : ℕ → Bool) (ls : List ℕ) (j : ℕ) → not (list_any t ls) ≡ true → j < length ls → t (get_or ls j 0) ≡ false
none_at t [] j e h = absurd (omega arith)
none_at t (l ∷ ls) zero e h = first (t l) (list_any t ls) e
  where
    first : (a b : Bool) → not (a || b) ≡ true → a ≡ false
    first true b e = absurd cc
    first false b e = refl
none_at t (l ∷ ls) (suc j) e h = none_at t ls j (rest (t l) (list_any t ls) e) (omega arith)
  where
    rest : (a b : Bool) → not (a || b) ≡ true → not b ≡ true
    rest true b e = absurd cc
    rest false b e = e

pub letters_differ : (ls : List ℕ) (i j : ℕ) → has_no_repeats ls ≡ true → i < j → j < length ls → get_or ls i 0 ≡ get_or ls j 0 → ⊥
letters_differ [] i j d h k e = absurd (omega arith)
letters_differ (l ∷ ls) i zero d h k e = absurd (omega arith)
letters_differ (l ∷ ls) zero (suc j) d h k e =
    let other = none_at (λ y. l == y) ls j (and_parts (not (list_any (λ y. l == y) ls)) (has_no_repeats ls) d).0 (omega arith) in
    let same = (Decides-eqb l (get_or ls j 0)).1 e in
    (let clash : true ≡ false = sym same ∙ other in cc)
letters_differ (l ∷ ls) (suc i) (suc j) d h k e = letters_differ ls i j (and_parts (not (list_any (λ y. l == y) ls)) (has_no_repeats ls) d).1 (omega arith) (omega arith) e

pub consistent-push : (s : List Point) (q : Point) → is_consistent s ≡ true → may_come s q ≡ true → is_consistent (s ++ q ∷ []) ≡ true
consistent-push [] q e f = refl
consistent-push (p ∷ s) q e f =
    let a = and_parts (list_all (λ r. may_follow p r) s) (is_consistent s) e in
    let b = and_parts (may_follow p q) (may_come s q) f in
    and_from _ _ (all_and_last (λ r. may_follow p r) s q a.0 b.0) (consistent-push s q a.1 b.1)
  where
    all_and_last : (t : Point → Bool) (s : List Point) (q : Point) → list_all t s ≡ true → t q ≡ true → list_all t (s ++ q ∷ []) ≡ true
    all_and_last t [] q e f = rw f refl
    all_and_last t (r ∷ s) q e f = let a = and_parts (t r) (list_all t s) e in and_from _ _ a.0 (all_and_last t s q a.1 f)

-- ---- the point at a place
pub letter_at : (g : List Point) (n : ℕ) → n < length g → get_or (letters_of g) n 0 ≡ (point_at g n).letter
letter_at [] n h = absurd (omega arith)
letter_at (p ∷ g) zero h = refl
letter_at (p ∷ g) (suc n) h = letter_at g n (omega arith)

-- the next point, put in a cell
pub placed-put : (g : List Point) (cells : List Cell) (n x y : ℕ) → n < length g → n < length cells → placed_points g (set cells n (record { x = x; y = y })) (n + 1) ≡ placed_points g cells n ++ put (point_at g n) x y ∷ []
placed-put g cells n x y h k = placed-next g cells n (record { x = x; y = y }) h k ∙ ap (λ letter. placed_points g cells n ++ record { letter = letter; cell = record { x = x; y = y } } ∷ []) (letter_at g n h)

pub cell_at_place : (g : List Point) (n : ℕ) (d : Cell) → n < length g → get_or (cells_of g) n d ≡ (point_at g n).cell
cell_at_place [] n d h = absurd (omega arith)
cell_at_place (p ∷ g) zero d h = refl
cell_at_place (p ∷ g) (suc n) d h = cell_at_place g n d (omega arith)

pub rest_from : (g : List Point) (n : ℕ) → n < length g → drop n g ≡ point_at g n ∷ drop (n + 1) g
rest_from [] n h = absurd (omega arith)
rest_from (p ∷ g) zero h = refl
rest_from (p ∷ g) (suc n) h = let up : suc n + 1 ≡ suc (n + 1) = omega arith in rw up (rest_from g n (omega arith))

-- ---- all points are placed
take_all : {X : Type 0} (xs : List X) (n : ℕ) → n ≡ length xs → take n xs ≡ xs
take_all [] zero e = refl
take_all [] (suc n) e = refl
take_all (x ∷ xs) zero e = absurd (omega arith)
take_all (x ∷ xs) (suc n) e = ap (λ r. x ∷ r) (take_all xs n (omega arith))

pub placed_whole : (g : List Point) (cells : List Cell) (n : ℕ) → n ≡ length g → placed_points g cells n ≡ points (letters_of g) (take n cells)
placed_whole g cells n e = ap (λ letters. points letters (take n cells)) (take_all (letters_of g) n (e ∙ sym (letters_as_long g)))

below_points : (n : ℕ) (g : List Point) (cells : List Cell) → AllByRecursion (λ (p : Point). p.letter < n) g → AllByRecursion (λ (p : Point). p.letter < n) (points (letters_of g) cells)
below_points n [] cells h = tt
below_points n (p ∷ g) [] h = tt
below_points n (p ∷ g) (c ∷ cells) h = (h.0, below_points n g cells h.1)

pub placed_together : (g : List Point) (cells : List Cell) (n : ℕ) → IsGridded g → n ≡ length g → n ≤ length cells → is_consistent (placed_points g cells n) ≡ true → FitTogether (letters_of g) (take n cells)
placed_together g cells n h e k f =
    let as_many : length (letters_of g) ≡ length (take n cells) = letters_as_long g ∙ sym e ∙ sym (length-take-le n cells k) in
    let long : length (points (letters_of g) (take n cells)) ≡ length g = length-points (letters_of g) (take n cells) as_many ∙ letters_as_long g in
    record {
      as_many = as_many;
      gridded = record {
        short = rw long h.short;
        below = subst (λ k. All (λ (p : Point). p.letter < k) (points (letters_of g) (take n cells))) (sym long)
            (All-from_recursion (λ (p : Point). p.letter < length g) (points (letters_of g) (take n cells)) (below_points (length g) g (take n cells) (recursion_from_All (λ (p : Point). p.letter < length g) g h.below)));
        distinct = rw (letters_of-points (letters_of g) (take n cells) as_many) h.distinct;
        consistent = so_is_true _ (ap is_consistent (sym (placed_whole g cells n e)) ∙ f);
      };
    }

pub gridded_below : (g : List Point) → IsGridded g → AllByRecursion (λ (p : Point). p.letter < length g) g
gridded_below g h = recursion_from_All (λ (p : Point). p.letter < length g) g h.below
