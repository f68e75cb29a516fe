-- Points one after another, over the places of slices.
use Rattle.std.proofs.Common.{◌≡◌, ◌<◌, ◌≤◌, ℕ, zero, suc, ◌+◌, ◌-◌, Bool, true, false, cond, List, [], ◌∷◌, ◌++◌, length, get_or, take, drop, set, refl, sym, ap, ◌∙◌, subst, arith, length-append, length-drop, length-set, append_assoc, append-nil}
use Rattle.std.specs.Prelude.{map}
use Rattle.std.specs.List.{filter, remove}
use Rattle.std.proofs.lemmas.List.{take_more, take_more_set, take_all, map_push, length-map, length-take-le}
use Rattle.std.proofs.lemmas.List.Elements.{filter-append}
use Rattle.std.proofs.lemmas.List.Sums.{length-filter, count_by-le-length}
use Rattle.patterns.specs.Ranks.{rank, standardised}
use Rattle.gridded.specs.declared.cell.Cell.{Cell}
use Rattle.gridded.specs.Grids.{Point, points, corner, letter_of, cell_of, IsGridded, FitTogether}
use Rattle.gridded.specs.Orders.{letters_of, cells_of}
use Rattle.gridded.specs.PointLaws.{letters_of-points, cells_of-points, length-points}
use Rattle.gridded.specs.Parts.{HasRoom, closed_up}
use Rattle.gridded.proofs.Points.{points-of_fields}
use Rattle.gridded.proofs.ClosedUp.{FitTogether-closed_up, points-closed_up}

pub points-push : (letters : List ℕ) (cells : List Cell) (l : ℕ) (c : Cell) → length letters ≡ length cells → points (letters ++ l ∷ []) (cells ++ c ∷ []) ≡ points letters cells ++ record { letter = l; cell = c } ∷ []
points-push [] [] l c e = refl
points-push [] (d ∷ cells) l c e = absurd (omega arith)
points-push (m ∷ letters) [] l c e = absurd (omega arith)
points-push (m ∷ letters) (d ∷ cells) l c e = ap (λ g. record { letter = m; cell = d } ∷ g) (points-push letters cells l c (omega arith))

-- one more point in the arrays
pub pushed : (letters : List ℕ) (cells : List Cell) (len l : ℕ) (c : Cell) → len < length letters → length letters ≡ length cells → points (take (len + 1) (set letters len l)) (take (len + 1) (set cells len c)) ≡ points (take len letters) (take len cells) ++ record { letter = l; cell = c } ∷ []
pushed letters cells len l c h e =
    rw (take_more_set letters len l h, take_more_set cells len c (omega arith))
    (points-push (take len letters) (take len cells) l c (length-take-le len letters (omega arith) ∙ sym (length-take-le len cells (omega arith))))

-- one more point of the slices
pub points-more : (letters : List ℕ) (cells : List Cell) (i : ℕ) → i < length letters → length letters ≡ length cells → points (take (i + 1) letters) (take (i + 1) cells) ≡ points (take i letters) (take i cells) ++ record { letter = get_or letters i 0; cell = get_or cells i corner } ∷ []
points-more letters cells i h e =
    rw (take_more letters i 0 h, take_more cells i corner (omega arith))
    (points-push (take i letters) (take i cells) (get_or letters i 0) (get_or cells i corner) (length-take-le i letters (omega arith) ∙ sym (length-take-le i cells (omega arith))))

pub length-points_taken : (letters : List ℕ) (cells : List Cell) (i : ℕ) → i ≤ length letters → length letters ≡ length cells → length (points (take i letters) (take i cells)) ≡ i
length-points_taken letters cells i h e =
    length-points (take i letters) (take i cells) (length-take-le i letters h ∙ sym (length-take-le i cells (omega arith))) ∙ length-take-le i letters h

-- ---- ranks
pub ranks_room : (ranks : List ℕ) (i x : ℕ) → length ranks ≡ 9 → length (set ranks i x) ≡ 9
ranks_room ranks i x e = length-set ranks i x ∙ e

pub ranks_more : (whole letters ranks : List ℕ) (i : ℕ) → i < length letters → i < length ranks → take i ranks ≡ map (rank whole) (take i letters) → take (i + 1) (set ranks i (rank whole (get_or letters i 0))) ≡ map (rank whole) (take (i + 1) letters)
ranks_more whole letters ranks i h k e =
    take_more_set ranks i (rank whole (get_or letters i 0)) k ∙ ap (λ rs. rs ++ rank whole (get_or letters i 0) ∷ []) e
    ∙ sym (map_push (rank whole) (take i letters) (get_or letters i 0)) ∙ ap (λ ls. map (rank whole) ls) (sym (take_more letters i 0 h))

-- ---- what is kept
module _ (test : Cell → Bool) where
  abbrev pub kept_of : List ℕ → List Cell → ℕ → List Point
  kept_of letters cells i = filter (λ p. test p.cell) (points (take i letters) (take i cells))

  pub kept_more : (letters : List ℕ) (cells : List Cell) (i : ℕ) → i < length letters → length letters ≡ length cells
      → kept_of letters cells (i + 1) ≡ kept_of letters cells i ++ cond (test (get_or cells i corner)) (record { letter = get_or letters i 0; cell = get_or cells i corner } ∷ []) []
  kept_more letters cells i h e =
      ap (λ g. filter (λ p. test p.cell) g) (points-more letters cells i h e) ∙ filter-append (λ (p : Point). test p.cell) (points (take i letters) (take i cells)) (record { letter = get_or letters i 0; cell = get_or cells i corner } ∷ [])

  pub kept_fits : (letters : List ℕ) (cells : List Cell) (i : ℕ) → i ≤ length letters → length letters ≡ length cells → length (kept_of letters cells i) ≤ i
  kept_fits letters cells i h e =
      omega (arith, length-filter (λ (p : Point). test p.cell) (points (take i letters) (take i cells)), count_by-le-length (λ (p : Point). test p.cell) (points (take i letters) (take i cells)), length-points_taken letters cells i h e)

-- ---- one left out
take-points : (i : ℕ) (letters : List ℕ) (cells : List Cell) → take i (points letters cells) ≡ points (take i letters) (take i cells)
take-points zero letters cells = refl
take-points (suc i) [] cells = refl
take-points (suc i) (l ∷ letters) [] = refl
take-points (suc i) (l ∷ letters) (c ∷ cells) = ap (λ g. record { letter = l; cell = c } ∷ g) (take-points i letters cells)

drop-points_from : (i : ℕ) (letters : List ℕ) (cells : List Cell) → length letters ≡ length cells → drop i (points letters cells) ≡ points (drop i letters) (drop i cells)
drop-points_from zero letters cells e = refl
drop-points_from (suc i) [] cells e = refl
drop-points_from (suc i) (l ∷ letters) [] e = absurd (omega arith)
drop-points_from (suc i) (l ∷ letters) (c ∷ cells) e = drop-points_from i letters cells (omega arith)

pub one_left_out : (letters : List ℕ) (cells : List Cell) (i : ℕ) → length letters ≡ length cells → points (take i letters) (take i cells) ++ points (drop (i + 1) letters) (drop (i + 1) cells) ≡ remove (points letters cells) i
one_left_out letters cells i e =
    let up : i + 1 ≡ suc i = omega arith in
    rw (take-points i letters cells, drop-points_from (suc i) letters cells e, up) refl

-- ---- the steps of the code
pub push_answer : (letters : List ℕ) (cells : List Cell) (len l : ℕ) (c : Cell) (now : List Point) → HasRoom len letters cells → points (take len letters) (take len cells) ≡ now → length now < 9 → points (take (len + 1) (set letters len l)) (take (len + 1) (set cells len c)) ≡ now ++ record { letter = l; cell = c } ∷ []
push_answer letters cells len l c now r v h =
    let as_many : length letters ≡ length cells = r.letter_places ∙ sym r.cell_places in
    let size : length now ≡ len = ap (λ g. length g) (sym v) ∙ length-points_taken letters cells len (omega (arith, r.few, r.letter_places)) as_many in
    pushed letters cells len l c (omega (arith, r.letter_places)) as_many ∙ ap (λ g. g ++ record { letter = l; cell = c } ∷ []) v

pub room_left : (old now : List Point) (letters : List ℕ) (cells : List Cell) (i : ℕ) → now ≡ old ++ points (take i letters) (take i cells) → i < length letters → length letters ≡ length cells → length old + length letters ≤ 9 → length now < 9
room_left old now letters cells i e h m room =
    omega (arith, ap (λ g. length g) e, length-append old (points (take i letters) (take i cells)), length-points_taken letters cells i (omega arith) m)

pub extended : (old now new : List Point) (letters : List ℕ) (cells : List Cell) (i : ℕ) → now ≡ old ++ points (take i letters) (take i cells) → i < length letters → length letters ≡ length cells → new ≡ now ++ record { letter = get_or letters i 0; cell = get_or cells i corner } ∷ [] → new ≡ old ++ points (take (i + 1) letters) (take (i + 1) cells)
extended old now new letters cells i e h m f =
    f ∙ ap (λ g. g ++ record { letter = get_or letters i 0; cell = get_or cells i corner } ∷ []) e
    ∙ append_assoc old (points (take i letters) (take i cells)) (record { letter = get_or letters i 0; cell = get_or cells i corner } ∷ []) ∙ ap (λ g. old ++ g) (sym (points-more letters cells i h m))

pub close_up_value : (letters ranks : List ℕ) (cells : List Cell) (len : ℕ) (part : List Point) → HasRoom len letters cells → points (take len letters) (take len cells) ≡ part → take (length (take len letters)) ranks ≡ standardised (take len letters) → (take len ranks ≡ standardised (letters_of part)) × (take len cells ≡ cells_of part)
close_up_value letters ranks cells len part r v e =
    let size : length (take len letters) ≡ len = length-take-le len letters (omega (arith, r.few, r.letter_places)) in
    let as_many : length (take len letters) ≡ length (take len cells) = size ∙ sym (length-take-le len cells (omega (arith, r.few, r.cell_places))) in
    let letters_are : take len letters ≡ letters_of part = sym (letters_of-points (take len letters) (take len cells) as_many) ∙ ap (λ g. letters_of g) v in
    let cells_are : take len cells ≡ cells_of part = sym (cells_of-points (take len letters) (take len cells) as_many) ∙ ap (λ g. cells_of g) v in
    (ap (λ n. take n ranks) (sym size) ∙ e ∙ ap (λ ls. standardised ls) letters_are, cells_are)

pub close_up_fits : (ranks : List ℕ) (cells : List Cell) (part : List Point) → (ranks ≡ standardised (letters_of part)) × (cells ≡ cells_of part) → IsGridded (closed_up part) → FitTogether ranks cells
close_up_fits ranks cells part e h =
    subst (λ ls. FitTogether ls cells) (sym e.0) (subst (λ cs. FitTogether (standardised (letters_of part)) cs) (sym e.1) (FitTogether-closed_up part h))

pub close_up_answer : (ranks : List ℕ) (cells : List Cell) (part : List Point) → (ranks ≡ standardised (letters_of part)) × (cells ≡ cells_of part) → points ranks cells ≡ closed_up part
close_up_answer ranks cells part e = ap (λ ls. points ls cells) e.0 ∙ ap (λ cs. points (standardised (letters_of part)) cs) e.1 ∙ points-closed_up part

-- ---- restrict
pub fields_as_many : (g : List Point) (letters : List ℕ) (cells : List Cell) → letters ≡ letters_of g → cells ≡ cells_of g → length letters ≡ length cells
fields_as_many g letters cells e f = ap (λ ls. length ls) e ∙ length-map g letter_of ∙ sym (length-map g cell_of) ∙ ap (λ cs. length cs) (sym f)

pub fields_short : (g : List Point) (letters : List ℕ) → letters ≡ letters_of g → length g ≤ 9 → length letters ≤ 9
fields_short g letters e s = omega (arith, ap (λ ls. length ls) e, length-map g letter_of)

fields_back : (g : List Point) (letters : List ℕ) (cells : List Cell) → letters ≡ letters_of g → cells ≡ cells_of g → points letters cells ≡ g
fields_back g letters cells e f = ap (λ ls. points ls cells) e ∙ ap (λ cs. points (letters_of g) cs) f ∙ points-of_fields g

module _ (test : Cell → Bool) where
  pub kept_in : (now : List Point) (letters : List ℕ) (cells : List Cell) (i : ℕ) → now ≡ kept_of test letters cells i → i < length letters → length letters ≡ length cells → test (get_or cells i corner) ≡ true → now ++ record { letter = get_or letters i 0; cell = get_or cells i corner } ∷ [] ≡ kept_of test letters cells (i + 1)
  kept_in now letters cells i e h m t =
      let p : Point = record { letter = get_or letters i 0; cell = get_or cells i corner } in
      ap (λ g. g ++ p ∷ []) e ∙ sym (kept_more test letters cells i h m ∙ ap (λ b. kept_of test letters cells i ++ cond b (p ∷ []) []) t)

  pub kept_out : (now : List Point) (letters : List ℕ) (cells : List Cell) (i : ℕ) → now ≡ kept_of test letters cells i → i < length letters → length letters ≡ length cells → test (get_or cells i corner) ≡ false → now ≡ kept_of test letters cells (i + 1)
  kept_out now letters cells i e h m t =
      let p : Point = record { letter = get_or letters i 0; cell = get_or cells i corner } in
      e ∙ sym (kept_more test letters cells i h m ∙ ap (λ b. kept_of test letters cells i ++ cond b (p ∷ []) []) t ∙ append-nil (kept_of test letters cells i))

  pub kept_all : (g now : List Point) (letters : List ℕ) (cells : List Cell) (i : ℕ) → now ≡ kept_of test letters cells i → letters ≡ letters_of g → cells ≡ cells_of g → length letters ≤ i → now ≡ filter (λ p. test p.cell) g
  kept_all g now letters cells i k e f h =
      k ∙ ap (λ ps. filter (λ p. test p.cell) ps)
      (ap (λ ls. points ls (take i cells)) (take_all i letters h) ∙ ap (λ cs. points letters cs) (take_all i cells (omega (arith, fields_as_many g letters cells e f))) ∙ fields_back g letters cells e f)

  pub room_to_keep : (now : List Point) (letters : List ℕ) (cells : List Cell) (i : ℕ) → now ≡ kept_of test letters cells i → i < length letters → length letters ≡ length cells → length letters ≤ 9 → length now < 9
  room_to_keep now letters cells i e h m s = omega (arith, ap (λ g. length g) e, kept_fits test letters cells i (omega arith) m)

-- ---- without
rest_of : {X : Type 0} (k : ℕ) (xs : List X) → take (length xs - k) (drop k xs) ≡ drop k xs
rest_of k xs = take_all (length xs - k) (drop k xs) (omega (arith, length-drop k xs))

pub room_for_rest : (letters : List ℕ) (cells : List Cell) (i : ℕ) (now : List Point) → length letters ≡ length cells → length letters ≤ 9 → i < length letters → now ≡ [] ++ points (take i letters) (take i cells) → length now + length (take (length letters - (i + 1)) (drop (i + 1) letters)) ≤ 9
room_for_rest letters cells i now m s h e =
    omega (arith, ap (λ g. length g) e, length-points_taken letters cells i (omega arith) m, ap (λ ls. length ls) (rest_of (i + 1) letters), length-drop (i + 1) letters)

pub both_sides : (g : List Point) (letters : List ℕ) (cells : List Cell) (i : ℕ) (now new : List Point) → letters ≡ letters_of g → cells ≡ cells_of g → now ≡ [] ++ points (take i letters) (take i cells)
    → new ≡ now ++ points (take (length letters - (i + 1)) (drop (i + 1) letters)) (take (length cells - (i + 1)) (drop (i + 1) cells)) → new ≡ remove g i
both_sides g letters cells i now new e f a b =
    b ∙ ap (λ ps. ps ++ points (take (length letters - (i + 1)) (drop (i + 1) letters)) (take (length cells - (i + 1)) (drop (i + 1) cells))) a
    ∙ ap (λ ls. points (take i letters) (take i cells) ++ points ls (take (length cells - (i + 1)) (drop (i + 1) cells))) (rest_of (i + 1) letters)
    ∙ ap (λ cs. points (take i letters) (take i cells) ++ points (drop (i + 1) letters) cs) (rest_of (i + 1) cells)
    ∙ one_left_out letters cells i (fields_as_many g letters cells e f) ∙ ap (λ ps. remove ps i) (fields_back g letters cells e f)
