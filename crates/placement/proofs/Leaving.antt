-- Patterns that stay, list by list.
use Rattle.std.proofs.Common.{◌≡◌, ◌<◌, ◌≤◌, ◌+◌, ℕ, Bool, true, false, cond, List, [], ◌∷◌, ◌++◌, length, ◌≢◌, refl, sym, ap, ◌∙◌, arith, length-append, append_assoc, get_or, take, ◌-◌}
use Rattle.std.specs.Prelude.{◌||◌, ◌==◌, not, filter, nat_lt}
use Rattle.std.proofs.lemmas.Bool.Decides.{nat_tests}
use Rattle.std.proofs.lemmas.List.{take_more}
use Rattle.std.proofs.lemmas.List.Elements.{filter-append}
use Rattle.lists.proofs.Filters.{filter_all, filter-agree}
use Rattle.gridded.specs.declared.cell.Cell.{Cell}
use Rattle.gridded.specs.Grids.{Point}
use Rattle.gridded.specs.CellSets.{is_among, IsCellSet}
use Rattle.gridded.proofs.CellSets.{outside}
use Rattle.gridded.specs.Places.{touches}
use Rattle.coord_maps.specs.declared.grid_map.GridMap.{GridMap}
use Rattle.coord_maps.specs.Preimages.{preimages}
use Rattle.placement.specs.Thinning.{stays, some_leave}
use Rattle.coord_maps.specs.Stretches.{preimages_of}
use Rattle.placement.proofs.Lifted.{as_long, joined_more}

-- a cell with a large coordinate is in no set
pub far_outside : (set : List Cell) (c : Cell) → IsCellSet set → 7 < c.x → false ≡ is_among set c
far_outside set c s far = sym (outside set c s (λ k. omega (arith, k.0)))

pub high_outside : (set : List Cell) (c : Cell) → IsCellSet set → 7 < c.y → false ≡ is_among set c
high_outside set c s far = sym (outside set c s (λ k. omega (arith, k.1)))

is_one : (n : ℕ) → n ≡ 1 → (n == 1) ≡ true
is_one n e = grind (arith, nat_tests)

isnt_one : (n : ℕ) → n ≢ 1 → (n == 1) ≡ false
isnt_one n e = grind (arith, nat_tests)

fewer : {X : Type 0} (p : X → Bool) (xs : List X) → length (filter p xs) ≤ length xs
fewer p [] = omega arith
fewer {X} p (x ∷ xs) = go (p x) (fewer p xs)
  where
    go : (b : Bool) → length (filter p xs) ≤ length xs → length (cond b (x ∷ filter p xs) (filter p xs)) ≤ length (x ∷ xs)
    go true l = omega arith
    go false l = omega arith

-- all preimages of a single point stay
pub singles_stay : (m : GridMap) (barred : List Cell) (g : List Point) → length g ≡ 1 → filter (stays barred) (preimages m g) ≡ preimages m g
singles_stay m barred g e = filter_all (stays barred) (preimages m g) (λ h i. rw (is_one (length h) (as_long m g h i ∙ e)) refl)

-- of those of other patterns, what has no point in a barred cell
pub others_stay : (m : GridMap) (barred : List Cell) (g : List Point) → length g ≢ 1 → filter (λ h. not (touches (is_among barred) h)) (preimages m g) ≡ filter (stays barred) (preimages m g)
others_stay m barred g e = filter-agree (λ h. not (touches (is_among barred) h)) (stays barred) (preimages m g) (λ h i. rw (isnt_one (length h) (λ f. e (sym (as_long m g h i) ∙ f))) refl)

-- ---- whether some leave
both_shorter : (a b c d : ℕ) → a ≤ b → c ≤ d → nat_lt (a + c) (b + d) ≡ (nat_lt a b || nat_lt c d)
both_shorter a b c d l k = go (nat_lt a b) (nat_lt c d) refl refl
  where
    go : (s t : Bool) → nat_lt a b ≡ s → nat_lt c d ≡ t → nat_lt (a + c) (b + d) ≡ (s || t)
    go true t e f = grind (arith, nat_tests, e)
    go false true e f = grind (arith, nat_tests, f)
    go false false e f = grind (arith, nat_tests, e, f)

pub some_leave-append : (barred : List Cell) (xs ys : List (List Point)) → some_leave barred (xs ++ ys) ≡ (some_leave barred xs || some_leave barred ys)
some_leave-append barred xs ys =
    (λ i. nat_lt (length (filter-append (stays barred) xs ys i)) (length-append xs ys i))
    ∙ ap (λ n. nat_lt n (length xs + length ys)) (length-append (filter (stays barred) xs) (filter (stays barred) ys))
    ∙ both_shorter (length (filter (stays barred) xs)) (length xs) (length (filter (stays barred) ys)) (length ys) (fewer (stays barred) xs) (fewer (stays barred) ys)

-- ---- list after list
pub more_stay : (barred : List Cell) (xs ys zs old before after : List (List Point)) → zs ≡ xs ++ ys → before ≡ old ++ filter (stays barred) xs → after ≡ before ++ filter (stays barred) ys → after ≡ old ++ filter (stays barred) zs
more_stay barred xs ys zs old before after is e f =
    f ∙ ap (λ (found : List (List Point)). found ++ filter (stays barred) ys) e
    ∙ append_assoc old (filter (stays barred) xs) (filter (stays barred) ys)
    ∙ ap (λ (found : List (List Point)). old ++ found) (sym (filter-append (stays barred) xs ys) ∙ ap (filter (stays barred)) (sym is))

pub more_leave : (barred : List Cell) (xs ys zs : List (List Point)) (a b : Bool) → zs ≡ xs ++ ys → a ≡ some_leave barred xs → b ≡ some_leave barred ys → (a || b) ≡ some_leave barred zs
more_leave barred xs ys zs a b is e f = (λ i. e i || f i) ∙ sym (some_leave-append barred xs ys) ∙ ap (some_leave barred) (sym is)

-- the preimages of one more pattern
pub preimages_more : (m : GridMap) (patterns : List (List Point)) (i : ℕ) (g : List Point) → i < length patterns → g ≡ get_or patterns i g → preimages_of m (take (i + 1) patterns) ≡ preimages_of m (take i patterns) ++ preimages m g
preimages_more m patterns i g below is = sym (joined_more (preimages m) patterns i g [] (preimages_of m (take i patterns)) (preimages_of m (take i patterns) ++ preimages m g) below is refl refl)

pub patterns_more : (patterns : List (List Point)) (i : ℕ) (g : List Point) → i < length patterns → g ≡ get_or patterns i g → take (i + 1) patterns ≡ take i patterns ++ g ∷ []
patterns_more patterns i g below is = take_more patterns i g below ∙ ap (λ (h : List Point). take i patterns ++ h ∷ []) (sym is)

-- what was listed tells whether some leave
pub told_by_lengths : (barred : List Cell) (xs listed before after : List (List Point)) (a b n : ℕ) → listed ≡ filter (stays barred) xs → after ≡ before ++ listed → a ≡ length after → b ≡ length before → n ≡ length xs → nat_lt (a - b) n ≡ some_leave barred xs
told_by_lengths barred xs listed before after a b n is e f g h =
    let long : length after ≡ length before + length listed = ap (λ (ys : List (List Point)). length ys) e ∙ length-append before listed in
    let rest : a - b ≡ length listed = omega (arith, long, f, g) in
    (λ i. nat_lt (rest i) (h i)) ∙ ap (λ (ys : List (List Point)). nat_lt (length ys) (length xs)) is

pub none_leave : (barred : List Cell) (xs : List (List Point)) → filter (stays barred) xs ≡ xs → false ≡ some_leave barred xs
none_leave barred xs e = let same = ap (λ (ys : List (List Point)). length ys) e in grind (arith, nat_tests, same)
