-- Putting a point in, over the places of slices.
use Rattle.std.proofs.Common.{◌≡◌, ℕ, zero, suc, ◌+◌, ◌-◌, ◌<◌, ◌≤◌, true, false, List, [], ◌∷◌, ◌++◌, length, get_or, take, drop, set, refl, sym, ap, ◌∙◌, arith, length-append, length-drop, append_assoc}
use Rattle.std.specs.Prelude.{◌&&◌, map, nat_lt}
use Rattle.std.proofs.lemmas.List.{drop_all, take_more, take_more_set, map_push, length-take-le, take_all, drop-replicate}
use Rattle.std.proofs.lemmas.Slice.{take-put_mid}
use Rattle.std.proofs.Math.Seq.{take-append-add}
use Rattle.std.proofs.Math.ListN.{replicate}
use borrow.Rule.Slice.PartMut.{put_mid}
use Rattle.std.proofs.lemmas.Bool.Decides.{nat_tests}
use Rattle.gridded.specs.declared.cell.Cell.{Cell}
use Rattle.gridded.specs.Grids.{Point, points}
use Rattle.gridded.specs.Orders.{letters_of, cells_of}
use Rattle.gridded.specs.PointLaws.{length-points}
use Rattle.emptiness.specs.Glueing.{corner}
use Rattle.emptiness.specs.Insertion.{put_in, fits_at, precedes}

drop-points : (i : ℕ) (letters : List ℕ) (cells : List Cell) → i < length letters → length letters ≡ length cells → drop i (points letters cells) ≡ record { letter = get_or letters i 0; cell = get_or cells i corner } ∷ drop (i + 1) (points letters cells)
drop-points i [] cells h e = absurd (omega arith)
drop-points i (l ∷ letters) [] h e = absurd (omega arith)
drop-points zero (l ∷ letters) (c ∷ cells) h e = refl
drop-points (suc i) (l ∷ letters) (c ∷ cells) h e =
    let up : suc i + 1 ≡ suc (i + 1) = omega arith in
    rw up (drop-points i letters cells (omega arith) (omega arith))

fits-cons : (from place l : ℕ) (c : Cell) (p : Point) (g : List Point) → fits_at (place - from) l c (p ∷ g) ≡ (precedes (nat_lt from place) p.letter p.cell l c && fits_at (place - (from + 1)) l c g)
fits-cons from place l c p g = go (place - from) refl
  where
    go : (d : ℕ) → place - from ≡ d → fits_at d l c (p ∷ g) ≡ (precedes (nat_lt from place) p.letter p.cell l c && fits_at (place - (from + 1)) l c g)
    go zero e =
        let f : nat_lt from place ≡ false = grind (arith, nat_tests) in
        let k : place - (from + 1) ≡ 0 = omega arith in
        rw (f, k) refl
    go (suc d) e =
        let f : nat_lt from place ≡ true = grind (arith, nat_tests) in
        let k : place - (from + 1) ≡ d = omega arith in
        rw (f, k) refl

pub fits-step : (letters : List ℕ) (cells : List Cell) (from place l : ℕ) (c : Cell) → from < length letters → length letters ≡ length cells
    → fits_at (place - from) l c (drop from (points letters cells)) ≡ (precedes (nat_lt from place) (get_or letters from 0) (get_or cells from corner) l c && fits_at (place - (from + 1)) l c (drop (from + 1) (points letters cells)))
fits-step letters cells from place l c h e =
    rw (drop-points from letters cells h e) (fits-cons from place l c (record { letter = get_or letters from 0; cell = get_or cells from corner }) (drop (from + 1) (points letters cells)))

pub fits-end : (letters : List ℕ) (cells : List Cell) (from i l : ℕ) (c : Cell) → length letters ≤ from → length letters ≡ length cells → fits_at i l c (drop from (points letters cells)) ≡ true
fits-end letters cells from i l c h e = rw (drop_all from (points letters cells) (rw (length-points letters cells e) h)) refl

pub ruleset stepping = (fits-step, fits-end)

pub points-of_fields : (g : List Point) → points (letters_of g) (cells_of g) ≡ g
points-of_fields [] = refl
points-of_fields (p ∷ g) = ap (λ rest. p ∷ rest) (points-of_fields g)

pub ruleset fitting = (points-of_fields)

pub put_in-split : {X : Type 0} (i : ℕ) (x : X) (ys : List X) → i ≤ length ys → put_in i x ys ≡ take i ys ++ x ∷ drop i ys
put_in-split zero x ys h = refl
put_in-split (suc i) x [] h = absurd (omega arith)
put_in-split (suc i) x (y ∷ ys) h = ap (λ rest. y ∷ rest) (put_in-split i x ys (omega arith))

pub raised-push : (f : ℕ → ℕ) (own letters : List ℕ) (i x : ℕ) → take i own ≡ map f (take i letters) → i < length own → i < length letters → x ≡ f (get_or letters i 0) → take (i + 1) (set own i x) ≡ map f (take (i + 1) letters)
raised-push f own letters i x e h k w =
    take_more_set own i x h ∙ rw (take_more letters i 0 k, e, w) (sym (map_push f (take i letters) (get_or letters i 0)))

pub ruleset raising = (raised-push)

-- what a copy of the two sides leaves
pub placed : {X : Type 0} (place : ℕ) (x : X) (ys front back own : List X) → front ≡ take place ys → back ≡ take (length ys - place) (drop place ys) → own ≡ replicate 9 x → place ≤ length ys → length ys < 9
    → take (length ys + 1) (put_mid (place + 1) (length ys + 1 - (place + 1)) (front ++ drop place own) back) ≡ put_in place x ys
placed {X} place x ys front back own e f o h k = rw (e, f ∙ take_all (length ys - place) (drop place ys) (omega (arith, length-drop place ys)), o, drop-replicate place 9 x) (go (9 - place) refl)
  where
    go : (d : ℕ) → 9 - place ≡ d → take (length ys + 1) (put_mid (place + 1) (length ys + 1 - (place + 1)) (take place ys ++ replicate d x) (drop place ys)) ≡ put_in place x ys
    go zero w = absurd (omega arith)
    go (suc d) w =
        let front_length : length (take place ys) ≡ place = length-take-le place ys h in
        let at : place + 1 ≡ length (take place ys) + 1 = omega arith in
        let whole : length ys + 1 ≡ place + 1 + length (drop place ys) = omega (arith, length-drop place ys) in
        let fits : place + 1 ≤ length (take place ys ++ replicate (suc d) x) = rw (length-append (take place ys) (replicate (suc d) x)) (omega arith) in
        let one : take (place + 1) (take place ys ++ replicate (suc d) x) ≡ take place ys ++ x ∷ [] = rw at (take-append-add (take place ys) (replicate (suc d) x) 1) in
        take-put_mid (place + 1) (length ys + 1 - (place + 1)) (take place ys ++ replicate (suc d) x) (drop place ys) (length ys + 1) whole fits
        ∙ ap (λ s. s ++ drop place ys) one
        ∙ append_assoc (take place ys) (x ∷ []) (drop place ys)
        ∙ sym (put_in-split place x ys h)
